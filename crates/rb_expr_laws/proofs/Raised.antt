-- What ends before `**`: a term there goes on with a power, and what ends in none is read up to the `**`.
use Rattle.std.proofs.Common.{◌≡◌, ◌⊎◌, inl, inr, ⊎_elim, ℕ, zero, suc, ◌+◌, ◌≤◌, ◌<◌, Bool, true, false, List, [], ◌∷◌, ◌++◌, length, codes, Some, None, Ok, refl, sym, ap, ◌∙◌, append-nil, length-append, arith}
use Rattle.rb_tree.specs.Tokens.{shape_of, same_shape}
use Rattle.rb_tree.specs.Trees.{span_of}
use Rattle.rb_tree.specs.declared.syntax.Modifier.{Modifier}
use Rattle.rb_tree.specs.declared.syntax.Tree.{Tree}
use Rattle.rb_tree.specs.Nodes as tree
use Rattle.rb_tree.specs.declared.token.Token.{Token}
use Rattle.rb_tree.specs.declared.token.TokenKind.TheVariants as kind
use Rattle.rb_tree.specs.declared.token.Shape.TheVariants as shape
use Rattle.rb_expr.specs.declared.form.Form.{Form}
use Rattle.rb_expr.specs.declared.form.Form.TheVariants as form
use Rattle.rb_expr.specs.Grammar.{parsed}
use Rattle.rb_expr.specs.Reading.{Parser, peek, sees, start_of}
use Rattle.rb_expr.specs.Shapes.{begins_simple, begins_statement, begins_value, has_value, modifier_of}
use Rattle.rb_expr.specs.Statements as spec
use Rattle.rb_expr.specs.Statements.{statement, ended, modifiers_from, allowed, modifier_after}
use Rattle.rb_rules.specs.Tokens.{Is}
use Rattle.rb_rules.specs.Spans.{across, last_of}
use Rattle.rb_rules.specs.Forms.{MayModify}
use Rattle.rb_rules.specs.Grammar.{IsRow, MODIFIER_WORDS, Gap, DerivesModified, DerivesSimple, DerivesValue, DerivesTarget, DerivesLevel}
use Rattle.rb_rules.specs.Grammar.Gap.{Closed, Wide}
use Rattle.rb_rules.specs.Grammar.DerivesModified.{Unmodified, Modified}
use Rattle.rb_rules.specs.Grammar.DerivesSimple.{Valued, Jumps, JumpsWith}
use Rattle.rb_rules.specs.Grammar.DerivesValue.{Term, Assigns, Computes, Command}
use Rattle.rb_rules.specs.Grammar.DerivesDo.{NoDo, SomeDo}
use Rattle.rb_rules.specs.Grammar.DerivesLevel.{Plainly}
use Rattle.rb_rules.specs.Grammar.DerivesPrefixed.{Posted}
use Rattle.rb_rules.specs.Grammar.DerivesOperand.{Bare}
use Rattle.rb_rules.specs.Grammar.DerivesPrimary.{WholeNumber}
use Rattle.rb_grammar.proofs.Sound.{Sound}
use Rattle.rb_grammar_laws.specs.Ends.{SIMPLE_ENDS, STATEMENT_ENDS}
use Rattle.rb_grammar_laws.proofs.Steps.{passed, any-of, other, past-length, within-length, gap-within, ends-by}
use Rattle.rb_grammar_laws.proofs.Begins.{value-begins}
use Rattle.rb_grammar_laws.proofs.Complete.{Reads, ReadsSome, Complete}
use Rattle.rb_grammar_laws.proofs.Forms.{complete}
use Rattle.rb_grammar_laws.proofs.Statements.{modifier-ends, valued-read, jump-read, jump-with-read, simple-read, modified-read, unmodified-read, both-read}
use Rattle.rb_grammar_laws.proofs.Values.{assigned-read, computed-read, commanded-read}
use Rattle.rb_expr_laws.specs.Bodies.{PlainBody, PlainMore, PlainStatement}
use Rattle.rb_expr_laws.proofs.Complete.{After, another-read, none-read, row-read, some-read, statement-read}
use Rattle.rb_expr_laws.proofs.Kept as kept
use Rattle.rb_expr_laws.proofs.Moved.{Rel, Moved, moved, front}
use Rattle.rb_expr_laws.proofs.Powers as powers
use Rattle.rb_expr_laws.proofs.Powers.{ordered}

-- ---- a number to raise to

abbrev pub ONE : Token
ONE = record { kind = kind.Whole (codes "1"); span = record { start = 0; end = 1 } }

pub to-one : (free : Bool) → (t : Tree) × DerivesLevel 9 free t (ONE ∷ []) []
to-one free = (_, Plainly _ _ _ _ (Posted _ _ _ [] _ _ (Bare _ _ _ _ _ (WholeNumber _ _ _ _ refl))))

-- ---- shorter lists

moved-length : {es fs xs us : List Token} → Moved es fs xs us → length es ≤ length xs
moved-length {es = es} m =
    let f = front m in
    let e : length (f.0 ++ es) ≡ length f.0 + length es = length-append f.0 es in
    let g = ap (λ (us : List Token). length us) f.1 in
    omega arith

target-length : (constants free : Bool) (t : Tree) (xs ys : List Token) → DerivesTarget constants free t xs ys → length ys ≤ length xs
target-length constants free t xs ys d = moved-length (moved (kept.target ys ys d ys (Moved.Stay (record { on = λ h. h; back = λ h. h }))).1)

module _ (power : Token) (is-power : Is shape.Power power) where
  -- the tokens left: `**` and the number
  abbrev pub Left : List Token
  Left = power ∷ ONE ∷ []

  -- with the power the first tokens are such a form with some tree
  abbrev pub Longer : (Tree → Rel) → List Token → Type 0
  Longer D xs = (u : Tree) × D u xs []

  no-value : has_value Left ≡ false
  unfolding has_value
  no-value = ap begins_value is-power

  no-start : begins_statement Left ≡ false
  unfolding begins_statement
  no-start = ap begins_simple is-power

  no-modifier : (s : Tree) → modifier_after s (peek Left) ≡ None
  unfolding modifier_after
  no-modifier s = ap (λ c. allowed s (modifier_of (Some c))) is-power

  no-separator : sees shape.Separator Left ≡ false
  unfolding same_shape
  no-separator = other shape.Separator shape.Power power (ONE ∷ []) is-power refl

  no-rescue : sees shape.Rescue Left ≡ false
  unfolding same_shape
  no-rescue = other shape.Rescue shape.Power power (ONE ∷ []) is-power refl

  no-do : sees shape.Do Left ≡ false
  unfolding same_shape
  no-do = other shape.Do shape.Power power (ONE ∷ []) is-power refl

  -- values and simple statements that nest go on with the power, or are read up to it
  pub record Raises (depth : ℕ) (nested : Form → Bool → Parser Tree) : Type 0 where
    pub value : (free : Bool) (t : Tree) (xs : List Token) → suc (length xs) < depth → DerivesValue false free t xs Left → Longer (DerivesValue false free) xs ⊎ Reads (nested form.Value free) t xs Left
    pub simple : (free : Bool) (t : Tree) (xs : List Token) → suc (length xs) < depth → DerivesSimple false free t xs Left → Longer (DerivesSimple false free) xs ⊎ Reads (nested form.Simple free) t xs Left

  module _ (nested : Form → Bool → Parser Tree) (turns : ℕ) (ih : Complete turns nested) (again : Raises turns nested) where
    -- ---- values

    value-raised : (constants free : Bool) (t : Tree) (xs : List Token) → DerivesValue constants free t xs Left → length xs < turns → Longer (DerivesValue constants free) xs ⊎ Reads (spec.value nested turns free constants) t xs Left
    unfolding same_shape
    value-raised constants free t xs (Term _ _ _ _ _ d) fits = let u = powers.term power is-power (ONE ∷ []) [] to-one d in inl (u.0, Term _ _ _ _ _ u.1)
    value-raised constants free t xs (Assigns _ _ e target v _ ps _ d is h) fits =
        let short = target-length constants free target xs (e ∷ ps) d in
        ⊎_elim (λ u. inl (_, Assigns _ _ _ _ _ _ _ _ d is u.1)) (λ r. inr (assigned-read nested turns ih constants free e target v xs ps Left d is fits (λ less. r))) (again.value free v ps (let less : suc (length ps) < turns = omega arith in less) h)
    value-raised constants free t xs (Computes _ _ o operator target v _ ps _ d row h) fits =
        let short = target-length false free target xs (o ∷ ps) d in
        ⊎_elim (λ u. inl (_, Computes _ _ _ _ _ _ _ _ _ d row u.1)) (λ r. inr (computed-read nested turns ih constants free o operator target v xs ps Left d row fits (λ less. r))) (again.value free v ps (let less : suc (length ps) < turns = omega arith in less) h)
    value-raised constants free t xs (Command _ _ callee given _ _ ps _ _ d non h is (NoDo _ _) leaves) fits =
        let u = powers.arguments power is-power (ONE ∷ []) [] to-one h in inl (_, Command _ _ _ _ _ _ _ _ _ d non u.1 (ordered u.2 is) (NoDo _ _) (inl refl))
    value-raised constants free t xs (Command _ _ callee given _ _ ps _ _ d non h is (SomeDo o last b us _ is-do k) leaves) fits =
        inr (commanded-read nested turns ih constants true callee given (Some b) xs ps (o ∷ us) Left d non h is (SomeDo _ _ _ _ _ is-do k) leaves (any-of SIMPLE_ENDS shape.Do o refl is-do, λ e. absurd (cc)) no-do fits)

    -- ---- statements

    simple-raised : (constants free : Bool) (t : Tree) (xs : List Token) → DerivesSimple constants free t xs Left → length xs < turns → Longer (DerivesSimple constants free) xs ⊎ Reads (spec.simple nested turns free constants) t xs Left
    simple-raised constants free t xs (Valued _ _ _ _ _ d) fits =
        ⊎_elim (λ u. inl (u.0, Valued _ _ _ _ _ u.1)) (λ r. inr (valued-read nested turns ih constants free t xs Left (value-begins constants free t xs Left d) r)) (value-raised constants free t xs d fits)
    simple-raised constants free t xs (Jumps _ _ j word _ row) fits = inr (jump-read nested turns ih constants free j word Left row no-value)
    simple-raised constants free t xs (JumpsWith _ _ j word v us _ row non d) fits =
        ⊎_elim (λ u. inl (_, JumpsWith _ _ _ _ _ _ _ row non u.1)) (λ r. inr (jump-with-read nested turns ih constants free j word v us Left row non (value-begins false free v us Left d) r)) (again.value free v us fits d)

    -- from a modifier on
    modifiers-raised : (free : Bool) (m : Token) (word : Modifier) (s c t : Tree) (us ps : List Token) → IsRow MODIFIER_WORDS (shape_of m.kind) word → MayModify word s → DerivesSimple false free c us ps →
        DerivesModified free (tree.Modified s word c (across (span_of s) (span_of c))) t ps Left → (n : ℕ) → length (m ∷ us) < n → length (m ∷ us) < turns → Longer (DerivesModified free s) (m ∷ us) ⊎ ReadsSome (modifiers_from nested turns free n s) t (m ∷ us) Left
    modifiers-raised free m word s c t us ps row allows d e zero less fits = absurd (let h : ⊥ = omega arith in h)
    modifiers-raised free m word s c t us ps row allows d (Unmodified _ _ _) (suc n) less fits =
        ⊎_elim (λ u. inl (_, Modified _ _ _ _ _ _ _ _ _ row allows u.1 (Unmodified _ _ _)))
        (λ r. let short = past-length r.1 in inr (modified-read nested turns ih free m word s c t us Left Left n row allows r (unmodified-read nested turns ih free t Left n (let h : length Left < n = omega arith in h) (no-modifier t)))) (again.simple free c us fits d)
    modifiers-raised free m word s c t us ps row allows d (Modified _ m2 word2 _ c2 _ us2 ps2 _ row2 allows2 d2 e) (suc n) less fits =
        let r = ih.simple free c us (m2 ∷ us2) fits d (modifier-ends free m2 us2 word2 row2) in
        let short = past-length r.1 in
        ⊎_elim (λ u. inl (u.0, Modified _ _ _ _ _ _ _ _ _ row allows d u.1)) (λ l. inr (modified-read nested turns ih free m word s c t us (m2 ∷ us2) Left n row allows r l))
        (modifiers-raised free m2 word2 (tree.Modified s word c (across (span_of s) (span_of c))) c2 t us2 ps2 row2 allows2 d2 e n (let h : length (m2 ∷ us2) < n = omega arith in h) (let h : length (m2 ∷ us2) < turns = omega arith in h))

    both-raised : (constants : Bool) (s t : Tree) (xs ps : List Token) → DerivesSimple constants true s xs ps → DerivesModified true s t ps Left → length xs < turns → Longer (PlainStatement constants) xs ⊎ Reads (statement nested turns true constants) t xs Left
    both-raised constants s t xs ps d (Unmodified _ _ _) fits =
        ⊎_elim (λ u. inl (u.0, record { inner = u.0; after = []; simple = u.1; modified = Unmodified _ _ _ })) (λ r. inr (both-read nested turns ih constants true s t xs Left Left fits r (λ less. unmodified-read nested turns ih true s Left turns less (no-modifier s))))
        (simple-raised constants true s xs d fits)
    both-raised constants s t xs ps d (Modified _ m word _ c _ us vs _ row allows e f) fits =
        let r = simple-read nested turns ih constants true s xs (m ∷ us) d (modifier-ends true m us word row) fits in
        let short = past-length r.1 in
        let less : length (m ∷ us) < turns = omega arith in
        ⊎_elim (λ u. inl (u.0, record { inner = s; after = m ∷ us; simple = d; modified = u.1 })) (λ l. inr (both-read nested turns ih constants true s t xs (m ∷ us) Left fits r (λ less. l))) (modifiers-raised true m word s c t us vs row allows e f turns less less)

    statement-raised : (constants : Bool) (t : Tree) (xs : List Token) → PlainStatement constants t xs Left → length xs < turns → Longer (PlainStatement constants) xs ⊎ Reads (statement nested turns true constants) t xs Left
    statement-raised constants t xs d fits = both-raised constants d.inner t xs d.after d.simple d.modified fits

    -- ---- bodies

    module _ (sounds : Sound nested) (constants : Bool) where
      -- what stands after a statement is read
      abbrev Rest : List Tree → List Token → Type 0
      Rest ss qs = (start : ℕ) (s : Tree) (n : ℕ) (found : List Tree) → length qs < n →
          After nested turns ih sounds constants start (span_of s).end n found qs ≡ Ok (tree.Body (found ++ ss) (record { start = start; end = (span_of (last_of s ss)).end }), Left)

      nothing-more : Rest [] Left
      unfolding ended
      nothing-more start s n found less = passed _ _ no-separator (passed _ _ no-rescue refl) ∙ ap (λ all. Ok (tree.Body all (record { start = start; end = (span_of s).end }), Left)) (sym (append-nil found))

      another : (next : Tree) (more : List Tree) (t : Token) (us ps vs : List Token) → Is shape.Separator t → Gap us ps → PlainStatement constants next ps vs → Reads (statement nested turns true constants) next ps vs → Rest more vs → Rest (next ∷ more) (t ∷ us)
      another next more t us ps vs is gap d r rest start s zero found less = absurd (let h : ⊥ = omega arith in h)
      another next more t us ps vs is gap d r rest start s (suc n) found less =
          let a = within-length (gap-within us ps gap) in
          let b = past-length r.1 in
          another-read nested turns ih sounds constants start s next more t us ps vs Left n found is gap d r (rest start next n (found ++ next ∷ []) (let h : length vs < n = omega arith in h))

      -- statements of which the last ends before the `**`
      row-raised : (s : Tree) (ss : List Tree) (ps qs : List Token) → PlainStatement constants s ps qs → PlainMore constants ss qs Left → length ps < turns →
          ((u : Tree) × (us : List Tree) × (vs : List Token) × PlainStatement constants u ps vs × PlainMore constants us vs []) ⊎ (Reads (statement nested turns true constants) s ps qs × Rest ss qs)
      unfolding same_shape
      row-raised s ss ps qs d (PlainMore.NoMore _ _) fits = ⊎_elim (λ u. inl (u.0, [], [], u.1, PlainMore.NoMore _ _)) (λ r. inr (r, nothing-more)) (statement-raised constants s ps d fits)
      row-raised s ss ps qs d (PlainMore.Another _ t next more us vs ws _ is gap e f) fits =
          let r = statement-read nested turns ih sounds constants s ps (t ∷ us) d (ends-by STATEMENT_ENDS shape.Separator refl refl true t us is) fits in
          let a = within-length (gap-within us vs gap) in
          let b = past-length r.1 in
          ⊎_elim (λ u. inl (s, u.0 ∷ u.1, t ∷ us, d, PlainMore.Another _ _ _ _ _ _ _ _ is gap u.3 u.4)) (λ l. inr (r, another next more t us vs ws is gap e l.0 l.1)) (row-raised next more vs ws e f (let h : length vs < turns = omega arith in h))

      pub body-raised : (t : Tree) (xs : List Token) → PlainBody constants t xs Left → length xs < turns → Longer (PlainBody constants) xs ⊎ (spec.body nested turns true constants xs ≡ Ok (t, Left))
      unfolding same_shape
      body-raised t xs (PlainBody.NoStatement _ _ _ g) fits = inr (none-read nested turns ih sounds constants xs Left g no-start no-separator fits)
      body-raised t xs (PlainBody.Statements _ s ss _ ps qs _ _ g d more (Closed _)) fits =
          let a = within-length (gap-within xs ps g) in
          ⊎_elim (λ u. inl (_, PlainBody.Statements _ _ _ _ _ _ _ _ g u.3 u.4 (Closed _))) (λ l. inr (row-read nested turns ih sounds constants s ss xs ps qs Left g d l.0 fits (λ n less. l.1 (start_of ps) s n (s ∷ []) less)))
          (row-raised s ss ps qs d more (let h : length ps < turns = omega arith in h))
      body-raised t xs (PlainBody.Statements _ s ss _ ps qs _ _ g d more (Wide r us _ is gap)) fits =
          inr (some-read nested turns ih sounds constants s ss xs ps qs (r ∷ us) Left g d more (record { gap = Wide _ _ _ is gap; follows = ends-by STATEMENT_ENDS shape.Separator refl refl true r us is; over = no-start; separated = no-separator; divided = other shape.Rescue shape.Separator r us is refl }) fits)

  nothing : (n : ℕ) → suc n < zero → ⊥
  nothing n less = omega arith

  fewer : (n m : ℕ) → suc n < suc m → n < m
  fewer n m less = omega arith

  pub raises : (depth : ℕ) → Raises depth (parsed depth)
  unfolding parsed
  raises zero = record { value = λ free t xs fits d. absurd (nothing _ fits); simple = λ free t xs fits d. absurd (nothing _ fits) }
  raises (suc depth) = record {
    value = λ free t xs fits d. value-raised (parsed depth) depth (complete depth) (raises depth) false free t xs d (fewer _ _ fits);
    simple = λ free t xs fits d. simple-raised (parsed depth) depth (complete depth) (raises depth) false free t xs d (fewer _ _ fits);
  }
