-- Statements that derive are read, and bodies of them.
use Rattle.std.proofs.Common.{◌≡◌, ℕ, zero, suc, ◌<◌, Bool, true, false, not, ◌||◌, is_none, if◌then◌else◌, List, [], ◌∷◌, ◌++◌, length, Option, Some, None, Ok, ◌⊎◌, inl, inr, ⊎_elim, refl, sym, ap, subst, ◌∙◌, append_assoc, append-nil, arith}
use Rattle.rb_tree.specs.Tokens.{shape_of, same_shape}
use Rattle.rb_tree.specs.Trees.{span_of}
use Rattle.rb_tree.specs.declared.syntax.Jump.{Jump}
use Rattle.rb_tree.specs.declared.syntax.Modifier.{Modifier}
use Rattle.rb_tree.specs.declared.syntax.Modifier.TheVariants as modifier
use Rattle.rb_tree.specs.declared.syntax.Tree.{Tree}
use Rattle.rb_tree.specs.declared.syntax.Node.{Node, out-Node}
use Rattle.rb_tree.specs.declared.syntax.Node.TheOpen.{Node-F}
use Rattle.rb_tree.specs.declared.syntax.Node.TheViews.{roll-Node, out-roll-Node}
use Rattle.rb_tree.specs.declared.syntax.Node.TheVariants.{rolls-Body}
use Rattle.rb_tree.specs.Nodes as tree
use Rattle.rb_tree.specs.declared.token.Token.{Token}
use Rattle.rb_tree.specs.declared.token.Shape.TheVariants as shape
use Rattle.rb_expr.specs.declared.form.Form.{Form}
use Rattle.rb_expr.specs.declared.form.Form.TheVariants as form
use Rattle.rb_expr.specs.Reading.{Outcome, Parser, sees, peek, start_of, skip_separators}
use Rattle.rb_expr.specs.Shapes.{begins_simple, begins_statement, begins_value, has_value, jump_of, modifier_of}
use Rattle.rb_expr.specs.Operators as operators
use Rattle.rb_expr.specs.Statements as spec
use Rattle.rb_expr.specs.Statements.{value, jump, jump_value, simple_by, simple, modified, modifiers_by, modifiers_from, modifiers, may_modify, allowed, modifier_after, ended, statement, body_from, body_start, statements}
use Rattle.rb_rules.specs.Tokens.{Is, StartsWith}
use Rattle.rb_rules.specs.Spans.{across, last_of}
use Rattle.rb_rules.specs.Forms.{Site, Inside, MODIFIERS, MayModify}
use Rattle.rb_rules.specs.Grammar.{Gap, IsRow, MODIFIER_WORDS, JUMP_WORDS, body_of, Parted, DerivesBody, DerivesMore, DerivesStatement, DerivesModified, DerivesSimple}
use Rattle.rb_rules.specs.Grammar.Gap.{Closed, Wide}
use Rattle.rb_rules.specs.Grammar.Parted.{AfterNothing, AfterSeparator}
use Rattle.rb_rules.specs.Grammar.DerivesBody.{NoStatement, Statements}
use Rattle.rb_rules.specs.Grammar.DerivesMore.{NoMore, Another}
use Rattle.rb_rules.specs.Grammar.DerivesStatement.{Declared, Simply}
use Rattle.rb_rules.specs.Grammar.DerivesModified.{Unmodified, Modified}
use Rattle.rb_rules.specs.Grammar.DerivesSimple.{Valued, Jumps, JumpsWith}
use Rattle.rb_grammar.proofs.Steps.{Holds, shown, within-self, within-token, within-more}
use Rattle.rb_grammar.proofs.Sound.{Sound, Starts}
use Rattle.rb_grammar.proofs.Statements as sound
use Rattle.rb_grammar.proofs.Statements.{same-begin}
use Rattle.rb_grammar_laws.specs.Begins.{TERMS, SIMPLE}
use Rattle.rb_grammar_laws.specs.Ends.{Ends, BODY_ENDS, STATEMENT_ENDS, SIMPLE_ENDS}
use Rattle.rb_grammar_laws.proofs.Steps.{on, taken, passed, by-row, each, not-false, is_in, in-list, other, unseen, skipped, past-token, past-within, past-more, past-length, within-length, gap-within, ends-by, ends-unseen, ends-wider}
use Rattle.rb_grammar_laws.proofs.Begins.{value-begins, statement-begins}
use Rattle.rb_grammar_laws.proofs.Complete.{Reads, ReadsSome, Complete}
use Rattle.rb_grammar_laws.proofs.Values.{value-read}

none-of : {A : Type 0} (o : Option A) → is_none o ≡ true → o ≡ None
none-of None e = refl
none-of (Some a) e = absurd (cc)

-- ---- jumps

no-jump : (xs : List Token) → StartsWith TERMS xs → jump_of (peek xs) ≡ None
no-jump [] h = refl
no-jump (t ∷ ts) h = none-of _ (each (λ c. is_none (jump_of (Some c))) TERMS refl _ h)

a-jump : (j : Token) (js : List Token) (word : Jump) → IsRow JUMP_WORDS (shape_of j.kind) word → jump_of (peek (j ∷ js)) ≡ Some word
a-jump j js word row = by-row JUMP_WORDS (λ s w. jump_of (Some s) ≡ Some w) (refl, (refl, (refl, tt))) _ _ row

no-value : (free : Bool) (xs : List Token) → Ends SIMPLE_ENDS free xs → has_value xs ≡ false
unfolding has_value
no-value free [] h = refl
no-value free (t ∷ ts) h = not-false _ (each (λ c. not (begins_value c)) SIMPLE_ENDS refl _ h.0)

a-value : (xs : List Token) → StartsWith TERMS xs → ¬ StartsWith MODIFIERS xs → has_value xs ≡ true
unfolding has_value same_shape
a-value [] h non = absurd h
a-value (t ∷ ts) h non = go (is_in MODIFIERS (shape_of t.kind)) refl (each (λ c. is_in MODIFIERS c || begins_value c) TERMS refl _ h)
  where
    go : (b : Bool) → is_in MODIFIERS (shape_of t.kind) ≡ b → (b || begins_value (shape_of t.kind)) ≡ true → begins_value (shape_of t.kind) ≡ true
    go true e f = absurd (non (in-list MODIFIERS _ e))
    go false e f = f

-- ---- modifiers

no-modifier : (free : Bool) (xs : List Token) → Ends STATEMENT_ENDS free xs → modifier_of (peek xs) ≡ None
no-modifier free [] h = refl
no-modifier free (t ∷ ts) h = none-of _ (each (λ c. is_none (modifier_of (Some c))) STATEMENT_ENDS refl _ h.0)

a-modifier : (m : Token) (ms : List Token) (word : Modifier) → IsRow MODIFIER_WORDS (shape_of m.kind) word → modifier_of (peek (m ∷ ms)) ≡ Some word
a-modifier m ms word row = by-row MODIFIER_WORDS (λ s w. modifier_of (Some s) ≡ Some w) (refl, (refl, (refl, (refl, tt)))) _ _ row

may : (word : Modifier) (s : Tree) → MayModify word s → may_modify word s ≡ true
unfolding may_modify
may modifier.If s h = refl
may modifier.Unless s h = refl
may modifier.While s (inl e) = absurd (cc)
may modifier.Until s (inl e) = absurd (cc)
may modifier.While s (inr e) = ap not (same-begin s ∙ e)
may modifier.Until s (inr e) = ap not (same-begin s ∙ e)

no-modifier-after : (s : Tree) (free : Bool) (xs : List Token) → Ends STATEMENT_ENDS free xs → modifier_after s (peek xs) ≡ None
unfolding modifier_after
no-modifier-after s free xs h = ap (allowed s) (no-modifier free xs h)

a-modifier-after : (s : Tree) (m : Token) (ms : List Token) (word : Modifier) → IsRow MODIFIER_WORDS (shape_of m.kind) word → MayModify word s → modifier_after s (peek (m ∷ ms)) ≡ Some word
unfolding modifier_after
a-modifier-after s m ms word row h = ap (allowed s) (a-modifier m ms word row) ∙ ap (λ b. if b then Some word else None) (may word s h)

-- a modifier ends a simple statement
pub modifier-ends : (free : Bool) (m : Token) (ms : List Token) (word : Modifier) → IsRow MODIFIER_WORDS (shape_of m.kind) word → Ends SIMPLE_ENDS free (m ∷ ms)
unfolding same_shape
modifier-ends free m ms word row =
    let h = by-row MODIFIER_WORDS (λ s w. (is_in SIMPLE_ENDS s ≡ true) × (same_shape s shape.Do ≡ false)) ((refl, refl), ((refl, refl), ((refl, refl), ((refl, refl), tt)))) _ _ row in
    (in-list SIMPLE_ENDS _ h.0, λ f is. let e = h.1 in let g : false ≡ true = sym e ∙ shown shape.Do m ms is in absurd (cc))

modified-ends : (free : Bool) (s t : Tree) (xs ys : List Token) → DerivesModified free s t xs ys → Ends STATEMENT_ENDS free ys → Ends SIMPLE_ENDS free xs
unfolding same_shape
modified-ends free s t xs ys (Unmodified _ _ _) ends = ends-wider STATEMENT_ENDS SIMPLE_ENDS refl free ys ends
modified-ends free s t xs ys (Modified _ m word _ c _ us ps _ row allows d e) ends = modifier-ends free m us word row

-- ---- rows of statements

pub begun : (xs : List Token) → StartsWith SIMPLE xs → begins_statement xs ≡ true
unfolding begins_statement
begun [] h = absurd h
begun (t ∷ ts) h = each begins_simple SIMPLE refl _ h

pub over : (free : Bool) (xs : List Token) → Ends BODY_ENDS free xs → begins_statement xs ≡ false
unfolding begins_statement
over free [] h = refl
over free (t ∷ ts) h = not-false _ (each (λ c. not (begins_simple c)) BODY_ENDS refl _ h.0)

gap-statement-ends : (free : Bool) (xs ys : List Token) → Gap xs ys → Ends BODY_ENDS free ys → Ends STATEMENT_ENDS free xs
unfolding same_shape
gap-statement-ends free xs ys (Closed _) h = ends-wider BODY_ENDS STATEMENT_ENDS refl free ys h
gap-statement-ends free xs ys (Wide t us _ is g) h = ends-by STATEMENT_ENDS shape.Separator refl refl free t us is

-- A body of statements is read up to the second list, where the last of them ends before the first.
pub record Over (free : Bool) (rs ys : List Token) : Type 0 where
  pub gap : Gap rs ys
  pub follows : Ends STATEMENT_ENDS free rs
  pub over : begins_statement ys ≡ false
  pub separated : sees shape.Separator ys ≡ false
  pub divided : sees shape.Rescue rs ≡ false

divided-by : (free : Bool) (rs ys : List Token) → Gap rs ys → Ends BODY_ENDS free ys → sees shape.Rescue rs ≡ false
unfolding same_shape
divided-by free rs ys (Closed _) h = ends-unseen shape.Rescue BODY_ENDS refl free ys h
divided-by free rs ys (Wide t us _ is g) h = other shape.Rescue shape.Separator t us is refl

pub over-ends : (free : Bool) (rs ys : List Token) → Gap rs ys → Ends BODY_ENDS free ys → Over free rs ys
unfolding same_shape
over-ends free rs ys g h = record { gap = g; follows = gap-statement-ends free rs ys g h; over = over free ys h; separated = ends-unseen shape.Separator BODY_ENDS refl free ys h; divided = divided-by free rs ys g h }

-- a gap with one more separator
gap-before : (rs : List Token) (t : Token) (ys : List Token) → Gap rs (t ∷ ys) → Is shape.Separator t → (u : Token) × (us : List Token) × (rs ≡ u ∷ us) × Is shape.Separator u × Gap rs ys
gap-before rs t ys (Closed _) is = (t, ys, refl, is, Wide _ _ _ is (Closed _))
gap-before rs t ys (Wide u us _ is2 g) is = (u, us, refl, is2, Wide _ _ _ is2 (gap-before us t ys g is).4)

pub no-statement : (k : Token) (ys : List Token) → Is shape.Rescue k → begins_statement (k ∷ ys) ≡ false
unfolding begins_statement
no-statement k ys is = ap begins_simple is

over-rescue : (free : Bool) (rs : List Token) (t k : Token) (ys : List Token) → Gap rs (t ∷ k ∷ ys) → Is shape.Separator t → Is shape.Rescue k → Over free rs (k ∷ ys)
unfolding same_shape
over-rescue free rs t k ys g is rescue =
    let b = gap-before rs t (k ∷ ys) g is in record {
      gap = b.4;
      follows = subst (λ zs. Ends STATEMENT_ENDS free zs) (sym b.2) (ends-by STATEMENT_ENDS shape.Separator refl refl free b.0 b.1 b.3);
      over = no-statement k ys rescue;
      separated = other shape.Separator shape.Rescue k ys rescue refl;
      divided = subst (λ zs. sees shape.Rescue zs ≡ false) (sym b.2) (other shape.Rescue shape.Separator b.0 b.1 b.3 refl);
    }

more-ends : (at : Site) (free : Bool) (ss : List Tree) (qs rs : List Token) → DerivesMore at free ss qs rs → Ends STATEMENT_ENDS free rs → Ends STATEMENT_ENDS free qs
unfolding same_shape
more-ends at free ss qs rs (NoMore _ _ _) h = h
more-ends at free ss qs rs (Another _ _ t s more us ps vs _ is gap d e) h = ends-by STATEMENT_ENDS shape.Separator refl refl free t us is

-- a body of statements is not empty
has_statements_at : {X Y : Type 0} → Node-F X Y → Bool
has_statements_at (Node-F.Body [] span) = false
has_statements_at t = true

has_statements : Tree → Bool
has_statements t = has_statements_at (out-Node t.node)

statements-as : (t : Tree) (r : Node-F Node Tree) → roll-Node r ≡ t.node → has_statements t ≡ has_statements_at r
unfolding has_statements
statements-as t r e = ap (λ u. has_statements_at (out-Node u)) (sym e) ∙ ap (λ q. has_statements_at q) (out-roll-Node r)

not-empty : (s : Tree) (ss : List Tree) → body_of [] ≡ body_of (s ∷ ss) → ⊥
unfolding has_statements_at
not-empty s ss e =
    let f : false ≡ true = sym (statements-as _ (Node-F.Body [] (record { start = 0; end = 0 })) (rolls-Body _ _)) ∙ ap has_statements e ∙ statements-as _ (Node-F.Body (s ∷ ss) (across (span_of s) (span_of (last_of s ss)))) (rolls-Body _ _) in
    absurd (cc)

parted-by : (before : Tree) (ps : List Token) (k : Token) (qs : List Token) → Parted before ps (k ∷ qs) → (body_of [] ≡ before) ⊎ ((t : Token) × Is shape.Separator t × (ps ≡ t ∷ k ∷ qs))
parted-by before ps k qs (AfterNothing _) = inl refl
parted-by before ps k qs (AfterSeparator _ t _ is) = inr (t, is, refl)

-- statements end before a separator, where a `rescue` follows
pub over-parted : (free : Bool) (s : Tree) (ss : List Tree) (rs ps : List Token) (k : Token) (qs : List Token) → Gap rs ps → Parted (body_of (s ∷ ss)) ps (k ∷ qs) → Is shape.Rescue k → Over free rs (k ∷ qs)
over-parted free s ss rs ps k qs g parted is = ⊎_elim (λ e. absurd (not-empty s ss e)) (λ h. over-rescue free rs h.0 k qs (subst (λ us. Gap rs us) h.2 g) h.1 is) (parted-by (body_of (s ∷ ss)) ps k qs parted)

-- separators before a `rescue` are passed over
pub rescue-gap : (xs ps : List Token) (before : Tree) (k : Token) (qs : List Token) → Gap xs ps → Parted before ps (k ∷ qs) → Gap xs (k ∷ qs)
rescue-gap xs ps before k qs g (AfterNothing _) = g
rescue-gap xs ps before k qs g (AfterSeparator _ t _ is) = (gap-before xs t (k ∷ qs) g is).4

module _ (nested : Form → Bool → Parser Tree) (turns : ℕ) (ih : Complete turns nested) where
  -- a value that is read
  pub valued-read : (constants free : Bool) (t : Tree) (xs ys : List Token) → StartsWith TERMS xs → Reads (value nested turns free constants) t xs ys → Reads (simple nested turns free constants) t xs ys
  unfolding simple
  valued-read constants free t xs ys begins r = (ap (λ o. simple_by nested turns free constants o xs) (no-jump xs begins) ∙ r.0, r.1)

  -- a jump without a value
  pub jump-read : (constants free : Bool) (j : Token) (word : Jump) (ys : List Token) → IsRow JUMP_WORDS (shape_of j.kind) word → has_value ys ≡ false → Reads (simple nested turns free constants) (tree.Jump word None j.span) (j ∷ ys) ys
  unfolding simple jump jump_value
  jump-read constants free j word ys row none = (ap (λ o. simple_by nested turns free constants o (j ∷ ys)) (a-jump j ys word row) ∙ on _ (passed _ _ none refl) refl, past-token j (within-self _))

  -- one with a value that is read
  pub jump-with-read : (constants free : Bool) (j : Token) (word : Jump) (v : Tree) (us ys : List Token) → IsRow JUMP_WORDS (shape_of j.kind) word → ¬ StartsWith MODIFIERS us → StartsWith TERMS us → Reads (nested form.Value free) v us ys →
      Reads (simple nested turns free constants) (tree.Jump word (Some v) (across j.span (span_of v))) (j ∷ us) ys
  unfolding simple jump jump_value
  jump-with-read constants free j word v us ys row non begins r =
      (ap (λ o. simple_by nested turns free constants o (j ∷ us)) (a-jump j us word row) ∙ on _ (taken _ _ (a-value us begins non) (on _ r.0 refl)) refl, past-token j (past-within r.1))

  pub simple-read : (constants free : Bool) (t : Tree) (xs ys : List Token) → DerivesSimple constants free t xs ys → Ends SIMPLE_ENDS free ys → length xs < turns → Reads (simple nested turns free constants) t xs ys
  simple-read constants free t xs ys (Valued _ _ _ _ _ d) ends fits = valued-read constants free t xs ys (value-begins constants free t xs ys d) (value-read nested turns ih constants free t xs ys d ends fits)
  simple-read constants free t xs ys (Jumps _ _ j word _ row) ends fits = jump-read constants free j word ys row (no-value free ys ends)
  simple-read constants free t xs ys (JumpsWith _ _ j word v us _ row non d) ends fits = jump-with-read constants free j word v us ys row non (value-begins false free v us ys d) (ih.value free v us ys fits d ends)

  -- a modifier, whose condition is read, and others
  pub modified-read : (free : Bool) (m : Token) (word : Modifier) (s c t : Tree) (us ps ys : List Token) (n : ℕ) → IsRow MODIFIER_WORDS (shape_of m.kind) word → MayModify word s → Reads (nested form.Simple free) c us ps →
      ReadsSome (modifiers_from nested turns free n (tree.Modified s word c (across (span_of s) (span_of c)))) t ps ys → ReadsSome (modifiers_from nested turns free (suc n) s) t (m ∷ us) ys
  unfolding modifiers_from modified operators.across
  modified-read free m word s c t us ps ys n row allows r l =
      (ap (λ o. modifiers_by nested turns free (modifiers_from nested turns free n) s o (m ∷ us)) (a-modifier-after s m us word row allows) ∙ on _ (on _ r.0 refl) l.0, within-token m (within-more (past-within r.1) l.1))

  -- no modifier is next
  pub unmodified-read : (free : Bool) (s : Tree) (ys : List Token) (n : ℕ) → length ys < n → modifier_after s (peek ys) ≡ None → ReadsSome (modifiers_from nested turns free n s) s ys ys
  unfolding modifiers_from
  unmodified-read free s ys zero less none = absurd (let h : ⊥ = omega arith in h)
  unmodified-read free s ys (suc n) less none = (ap (λ o. modifiers_by nested turns free (modifiers_from nested turns free n) s o ys) none, within-self _)

  modifiers-read : (free : Bool) (s t : Tree) (xs ys : List Token) → DerivesModified free s t xs ys → Ends STATEMENT_ENDS free ys → (n : ℕ) → length xs < n → length xs < turns → ReadsSome (modifiers_from nested turns free n s) t xs ys
  modifiers-read free s t xs ys d ends zero less fits = absurd (let h : ⊥ = omega arith in h)
  modifiers-read free s t xs ys (Unmodified _ _ _) ends (suc n) less fits = unmodified-read free s ys (suc n) less (no-modifier-after s free ys ends)
  modifiers-read free s t xs ys (Modified _ m word _ c _ us ps _ row allows d e) ends (suc n) less fits =
      let r = ih.simple free c us ps fits d (modified-ends free _ t ps ys e ends) in
      let short = past-length r.1 in
      modified-read free m word s c t us ps ys n row allows r (modifiers-read free (tree.Modified s word c (across (span_of s) (span_of c))) t ps ys e ends n (let h : length ps < n = omega arith in h) (let h : length ps < turns = omega arith in h))

  -- a simple statement that is read, and its modifiers
  pub both-read : (constants free : Bool) (s t : Tree) (xs ps ys : List Token) → length xs < turns → Reads (simple nested turns free constants) s xs ps → (length ps < turns → ReadsSome (modifiers_from nested turns free turns s) t ps ys) →
      Reads (statement nested turns free constants) t xs ys
  unfolding statement modifiers
  both-read constants free s t xs ps ys fits r more =
      let short = past-length r.1 in
      let l = more (let h : length ps < turns = omega arith in h) in
      (on _ r.0 l.0, past-more r.1 l.1)

  pub simply-read : (constants free : Bool) (s t : Tree) (xs ps ys : List Token) → DerivesSimple constants free s xs ps → DerivesModified free s t ps ys → Ends STATEMENT_ENDS free ys → length xs < turns → Reads (statement nested turns free constants) t xs ys
  simply-read constants free s t xs ps ys d m ends fits =
      both-read constants free s t xs ps ys fits (simple-read constants free s xs ps d (modified-ends free s t ps ys m ends) fits) (λ less. modifiers-read free s t ps ys m ends turns less less)

  statement-read : (free : Bool) (t : Tree) (xs ys : List Token) → DerivesStatement Inside free t xs ys → Ends STATEMENT_ENDS free ys → length xs < turns → Reads (statement nested turns free false) t xs ys
  statement-read free t xs ys (Declared _ _ d _ _ is h) ends fits = absurd (let e : false ≡ true = is in cc)
  statement-read free t xs ys (Simply _ _ s _ _ ps _ d m) ends fits = simply-read false free s t xs ps ys d m ends fits

  -- ---- bodies

  -- what stands after a statement of a body
  abbrev After : Bool → ℕ → ℕ → ℕ → List Tree → Parser Tree
  After free start end n found = λ rest. if sees shape.Separator rest then body_from nested turns free false start end n found (skip_separators rest) else ended found (record { start = start; end = end }) rest

  last-read : (free : Bool) (start end n : ℕ) (found : List Tree) (rs ys : List Token) → Gap rs ys → Over free rs ys → ReadsSome (After free start end (suc n) found) (tree.Body found (record { start = start; end = end })) rs ys
  unfolding body_from ended
  last-read free start end n found rs ys (Closed _) o = (passed _ _ o.separated (passed _ _ o.divided refl), within-self _)
  last-read free start end n found rs ys (Wide t us _ is g) o =
      (taken _ _ (shown shape.Separator t us is) (ap (λ zs. body_from nested turns free false start end (suc n) found zs) (taken _ _ (shown shape.Separator t us is) (skipped us ys g o.separated)) ∙ passed _ _ o.over refl), within-token t (gap-within us ys g))

  more-read : (free : Bool) (start : ℕ) (s : Tree) (ss : List Tree) (qs rs ys : List Token) → DerivesMore Inside free ss qs rs → Over free rs ys → (n : ℕ) (found : List Tree) → length qs < n → length qs < turns →
      ReadsSome (After free start (span_of s).end n found) (tree.Body (found ++ ss) (record { start = start; end = (span_of (last_of s ss)).end })) qs ys
  unfolding body_from same_shape
  more-read free start s ss qs rs ys d o zero found less fits = absurd (let h : ⊥ = omega arith in h)
  more-read free start s ss qs rs ys (NoMore _ _ _) o (suc n) found less fits =
      subst (λ all. ReadsSome (After free start (span_of s).end (suc n) found) (tree.Body all (record { start = start; end = (span_of s).end })) qs ys) (sym (append-nil found)) (last-read free start (span_of s).end n found qs ys o.gap o)
  more-read free start s ss qs rs ys (Another _ _ t next more us ps vs _ is gap d e) o (suc n) found less fits =
      let b = statement-begins free next ps vs d in
      let w = gap-within us ps gap in
      let short = within-length w in
      let r = statement-read free next ps vs d (more-ends Inside free more vs rs e o.follows) (let h : length ps < turns = omega arith in h) in
      let short2 = past-length r.1 in
      let l = more-read free start next more vs rs ys e o n (found ++ next ∷ []) (let h : length vs < n = omega arith in h) (let h : length vs < turns = omega arith in h) in (
        taken _ _ (shown shape.Separator t us is) (ap (λ zs. body_from nested turns free false start (span_of s).end (suc n) found zs) (taken _ _ (shown shape.Separator t us is) (skipped us ps gap (unseen shape.Separator SIMPLE refl ps b)))
            ∙ taken _ _ (begun ps b) (on _ r.0 (l.0 ∙ ap (λ all. Ok (tree.Body all (record { start = start; end = (span_of (last_of next more)).end }), ys)) (append_assoc found (next ∷ []) more)))),
        within-token t (within-more w (within-more (past-within r.1) l.1)),
      )

  -- a statement that is read begins where its tokens do
  starts-by : (s : Sound nested) (free : Bool) (t : Tree) (xs ys : List Token) (o : Outcome Tree) → o ≡ Ok (t, ys) → Holds o (sound.Statement nested s turns free Inside xs) → Starts t xs
  starts-by s free t xs ys o e h = got (subst (λ o. Holds o (sound.Statement nested s turns free Inside xs)) e h)
    where
      got : Holds {A = Tree} (Ok (t, ys)) (sound.Statement nested s turns free Inside xs) → Starts t xs
      got h = h.told.2

  first-read : (sounds : Sound nested) (free : Bool) (s : Tree) (ss : List Tree) (ps qs rs ys : List Token) → DerivesStatement Inside free s ps qs → DerivesMore Inside free ss qs rs → Over free rs ys → (n : ℕ) → length ps < n → length ps < turns →
      ReadsSome (body_from nested turns free false (start_of ps) 0 n []) (body_of (s ∷ ss)) ps ys
  unfolding body_from
  first-read sounds free s ss ps qs rs ys d more o zero less fits = absurd (let h : ⊥ = omega arith in h)
  first-read sounds free s ss ps qs rs ys d more o (suc n) less fits =
      let r = statement-read free s ps qs d (more-ends Inside free ss qs rs more o.follows) fits in
      let short = past-length r.1 in
      let starts = starts-by sounds free s ps qs _ r.0 (sound.statement-holds nested sounds turns free Inside ps) in
      let l = more-read free (start_of ps) s ss qs rs ys more o n (s ∷ []) (let h : length qs < n = omega arith in h) (let h : length qs < turns = omega arith in h) in
      (taken _ _ (begun ps (statement-begins free s ps qs d)) (on _ r.0 (l.0 ∙ ap (λ n. Ok (tree.Body (s ∷ ss) (record { start = n; end = (span_of (last_of s ss)).end }), ys)) (sym starts))), within-more (past-within r.1) l.1)

  empty-read : (free : Bool) (ys : List Token) → begins_statement ys ≡ false → (n : ℕ) → length ys < n → body_from nested turns free false 0 0 n [] ys ≡ Ok (body_of [], ys)
  unfolding body_from
  empty-read free ys e zero less = absurd (let h : ⊥ = omega arith in h)
  empty-read free ys e (suc n) less = passed _ _ e refl

  start-begun : (xs : List Token) → begins_statement xs ≡ true → body_start xs ≡ start_of xs
  start-begun xs e = taken _ _ e refl

  start-over : (xs : List Token) → begins_statement xs ≡ false → body_start xs ≡ 0
  start-over xs e = passed _ _ e refl

  -- a body without statements
  none-read : (free : Bool) (xs ys : List Token) → Gap xs ys → begins_statement ys ≡ false → sees shape.Separator ys ≡ false → length xs < turns → ReadsSome (spec.body nested turns free false) (body_of []) xs ys
  unfolding spec.body statements
  none-read free xs ys g e f fits =
      let w = gap-within xs ys g in
      let short = within-length w in (
        ap (λ zs. body_from nested turns free false (body_start zs) 0 turns [] zs) (skipped xs ys g f)
            ∙ ap (λ n. body_from nested turns free false n 0 turns [] ys) (start-over ys e) ∙ empty-read free ys e turns (let h : length ys < turns = omega arith in h),
        w,
      )

  -- one with statements
  some-read : (sounds : Sound nested) (free : Bool) (s : Tree) (ss : List Tree) (xs ps qs rs ys : List Token) → Gap xs ps → DerivesStatement Inside free s ps qs → DerivesMore Inside free ss qs rs → Over free rs ys → length xs < turns →
      ReadsSome (spec.body nested turns free false) (body_of (s ∷ ss)) xs ys
  unfolding spec.body statements same_shape
  some-read sounds free s ss xs ps qs rs ys g d more o fits =
      let b = statement-begins free s ps qs d in
      let w = gap-within xs ps g in
      let short = within-length w in
      let r = first-read sounds free s ss ps qs rs ys d more o turns (let h : length ps < turns = omega arith in h) (let h : length ps < turns = omega arith in h) in (
        ap (λ zs. body_from nested turns free false (body_start zs) 0 turns [] zs) (skipped xs ps g (unseen shape.Separator SIMPLE refl ps b))
            ∙ ap (λ n. body_from nested turns free false n 0 turns [] ps) (start-begun ps (begun ps b)) ∙ r.0,
        within-more w r.1,
      )

  pub body-read : (sounds : Sound nested) (free : Bool) (t : Tree) (xs ys : List Token) → DerivesBody Inside free t xs ys → Ends BODY_ENDS free ys → length xs < turns → ReadsSome (spec.body nested turns free false) t xs ys
  unfolding same_shape
  body-read sounds free t xs ys (NoStatement _ _ _ _ g) ends fits = none-read free xs ys g (over free ys ends) (ends-unseen shape.Separator BODY_ENDS refl free ys ends) fits
  body-read sounds free t xs ys (Statements _ _ s ss _ ps qs rs _ g d more end) ends fits = some-read sounds free s ss xs ps qs rs ys g d more (over-ends free rs ys end ends) fits

  -- up to a `rescue`
  pub rescued-read : (sounds : Sound nested) (free : Bool) (t : Tree) (xs ps qs : List Token) (k : Token) → DerivesBody Inside free t xs ps → Parted t ps (k ∷ qs) → Is shape.Rescue k → length xs < turns → ReadsSome (spec.body nested turns free false) t xs (k ∷ qs)
  unfolding same_shape
  rescued-read sounds free t xs ps qs k (NoStatement _ _ _ _ g) parted is fits = none-read free xs (k ∷ qs) (rescue-gap xs ps t k qs g parted) (no-statement k qs is) (other shape.Separator shape.Rescue k qs is refl) fits
  rescued-read sounds free t xs ps qs k (Statements _ _ s ss _ us vs rs _ g d more end) parted is fits = some-read sounds free s ss xs us vs rs (k ∷ qs) g d more (over-parted free s ss rs ps k qs end parted is) fits
