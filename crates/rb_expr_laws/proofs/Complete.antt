-- Bodies without declarations that derive are read.
use Rattle.std.proofs.Common.{◌≡◌, ℕ, zero, suc, ◌<◌, Bool, true, false, if◌then◌else◌, List, [], ◌∷◌, ◌++◌, length, Ok, refl, sym, ap, subst, ◌∙◌, append_assoc, append-nil, arith}
use Rattle.rb_tree.specs.Tokens.{same_shape}
use Rattle.rb_tree.specs.Trees.{span_of}
use Rattle.rb_tree.specs.declared.syntax.Tree.{Tree}
use Rattle.rb_tree.specs.Nodes as tree
use Rattle.rb_tree.specs.declared.token.Token.{Token}
use Rattle.rb_tree.specs.declared.token.Shape.TheVariants as shape
use Rattle.rb_expr.specs.declared.form.Form.{Form}
use Rattle.rb_expr.specs.Reading.{Outcome, Parser, sees, start_of, skip_separators}
use Rattle.rb_expr.specs.Shapes.{begins_statement}
use Rattle.rb_expr.specs.Statements as spec
use Rattle.rb_expr.specs.Statements.{ended, statement, body_from, body_start, statements}
use Rattle.rb_rules.specs.Tokens.{Is, StartsWith}
use Rattle.rb_rules.specs.Spans.{last_of}
use Rattle.rb_rules.specs.Grammar.{Gap, Parted, body_of}
use Rattle.rb_rules.specs.Grammar.Gap.{Closed, Wide}
use Rattle.rb_grammar.proofs.Steps.{Holds, shown}
use Rattle.rb_grammar.proofs.Sound.{Sound, Starts}
use Rattle.rb_grammar_laws.specs.Begins.{SIMPLE}
use Rattle.rb_grammar_laws.specs.Ends.{Ends, BODY_ENDS, STATEMENT_ENDS}
use Rattle.rb_grammar_laws.proofs.Steps.{on, taken, passed, other, unseen, skipped, past-length, within-length, gap-within, ends-by, ends-unseen}
use Rattle.rb_grammar_laws.proofs.Begins.{simple-begins}
use Rattle.rb_grammar_laws.proofs.Complete.{Reads, Complete}
use Rattle.rb_grammar_laws.proofs.Statements.{Over, begun, no-statement, over, over-ends, over-parted, rescue-gap, simply-read}
use Rattle.rb_expr_laws.specs.Bodies.{PlainBody, PlainMore, PlainStatement}
use Rattle.rb_expr_laws.proofs.Sound.{statement-holds}

-- ---- rows of statements

more-ends : (constants : Bool) (ss : List Tree) (qs rs : List Token) → PlainMore constants ss qs rs → Ends STATEMENT_ENDS true rs → Ends STATEMENT_ENDS true qs
unfolding same_shape
more-ends constants ss qs rs (PlainMore.NoMore _ _) h = h
more-ends constants ss qs rs (PlainMore.Another _ t s more us ps vs _ is gap d e) h = ends-by STATEMENT_ENDS shape.Separator refl refl true t us is

statement-begins : (constants : Bool) (t : Tree) (xs ys : List Token) → PlainStatement constants t xs ys → StartsWith SIMPLE xs
statement-begins constants t xs ys d = simple-begins constants true d.inner xs d.after d.simple

module _ (nested : Form → Bool → Parser Tree) (turns : ℕ) (ih : Complete turns nested) (sounds : Sound nested) (constants : Bool) where
  pub statement-read : (t : Tree) (xs ys : List Token) → PlainStatement constants t xs ys → Ends STATEMENT_ENDS true ys → length xs < turns → Reads (statement nested turns true constants) t xs ys
  statement-read t xs ys d ends fits = simply-read nested turns ih constants true d.inner t xs d.after ys d.simple d.modified ends fits

  -- what stands after a statement of a body
  abbrev pub After : ℕ → ℕ → ℕ → List Tree → Parser Tree
  After start end n found = λ rest. if sees shape.Separator rest then body_from nested turns true constants start end n found (skip_separators rest) else ended found (record { start = start; end = end }) rest

  last-read : (start end n : ℕ) (found : List Tree) (rs ys : List Token) → Gap rs ys → Over true rs ys → After start end (suc n) found rs ≡ Ok (tree.Body found (record { start = start; end = end }), ys)
  unfolding body_from ended
  last-read start end n found rs ys (Closed _) o = passed _ _ o.separated (passed _ _ o.divided refl)
  last-read start end n found rs ys (Wide t us _ is g) o =
      taken _ _ (shown shape.Separator t us is) (ap (λ zs. body_from nested turns true constants start end (suc n) found zs) (taken _ _ (shown shape.Separator t us is) (skipped us ys g o.separated)) ∙ passed _ _ o.over refl)

  -- a statement after separators that is read, and what stands after it
  pub another-read : (start : ℕ) (s next : Tree) (more : List Tree) (t : Token) (us ps vs ys : List Token) (n : ℕ) (found : List Tree) → Is shape.Separator t → Gap us ps → PlainStatement constants next ps vs → Reads (statement nested turns true constants) next ps vs →
      After start (span_of next).end n (found ++ next ∷ []) vs ≡ Ok (tree.Body ((found ++ next ∷ []) ++ more) (record { start = start; end = (span_of (last_of next more)).end }), ys) →
      After start (span_of s).end (suc n) found (t ∷ us) ≡ Ok (tree.Body (found ++ next ∷ more) (record { start = start; end = (span_of (last_of next more)).end }), ys)
  unfolding body_from same_shape
  another-read start s next more t us ps vs ys n found is gap d r l =
      let b = statement-begins constants next ps vs d in
      taken _ _ (shown shape.Separator t us is) (ap (λ zs. body_from nested turns true constants start (span_of s).end (suc n) found zs) (taken _ _ (shown shape.Separator t us is) (skipped us ps gap (unseen shape.Separator SIMPLE refl ps b)))
      ∙ taken _ _ (begun ps b) (on _ r.0 (l ∙ ap (λ all. Ok (tree.Body all (record { start = start; end = (span_of (last_of next more)).end }), ys)) (append_assoc found (next ∷ []) more))))

  more-read : (start : ℕ) (s : Tree) (ss : List Tree) (qs rs ys : List Token) → PlainMore constants ss qs rs → Over true rs ys → (n : ℕ) (found : List Tree) → length qs < n → length qs < turns →
      After start (span_of s).end n found qs ≡ Ok (tree.Body (found ++ ss) (record { start = start; end = (span_of (last_of s ss)).end }), ys)
  more-read start s ss qs rs ys d o zero found less fits = absurd (let h : ⊥ = omega arith in h)
  more-read start s ss qs rs ys (PlainMore.NoMore _ _) o (suc n) found less fits =
      last-read start (span_of s).end n found qs ys o.gap o ∙ ap (λ all. Ok (tree.Body all (record { start = start; end = (span_of s).end }), ys)) (sym (append-nil found))
  more-read start s ss qs rs ys (PlainMore.Another _ t next more us ps vs _ is gap d e) o (suc n) found less fits =
      let short = within-length (gap-within us ps gap) in
      let r = statement-read next ps vs d (more-ends constants more vs rs e o.follows) (let h : length ps < turns = omega arith in h) in
      let short2 = past-length r.1 in
      another-read start s next more t us ps vs ys n found is gap d r (more-read start next more vs rs ys e o n (found ++ next ∷ []) (let h : length vs < n = omega arith in h) (let h : length vs < turns = omega arith in h))

  -- a statement that is read begins where its tokens do
  starts-by : (t : Tree) (xs ys : List Token) (o : Outcome Tree) → o ≡ Ok (t, ys) → Holds o (λ t ys. PlainStatement constants t xs ys × Starts t xs) → Starts t xs
  starts-by t xs ys o e h = got (subst (λ o. Holds o (λ t ys. PlainStatement constants t xs ys × Starts t xs)) e h)
    where
      got : Holds {A = Tree} (Ok (t, ys)) (λ t ys. PlainStatement constants t xs ys × Starts t xs) → Starts t xs
      got h = h.told.1

  empty-read : (ys : List Token) → begins_statement ys ≡ false → (n : ℕ) → length ys < n → body_from nested turns true constants 0 0 n [] ys ≡ Ok (body_of [], ys)
  unfolding body_from
  empty-read ys e zero less = absurd (let h : ⊥ = omega arith in h)
  empty-read ys e (suc n) less = passed _ _ e refl

  start-begun : (xs : List Token) → begins_statement xs ≡ true → body_start xs ≡ start_of xs
  start-begun xs e = taken _ _ e refl

  start-over : (xs : List Token) → begins_statement xs ≡ false → body_start xs ≡ 0
  start-over xs e = passed _ _ e refl

  -- a body without statements
  pub none-read : (xs ys : List Token) → Gap xs ys → begins_statement ys ≡ false → sees shape.Separator ys ≡ false → length xs < turns → spec.body nested turns true constants xs ≡ Ok (body_of [], ys)
  unfolding spec.body statements
  none-read xs ys g e f fits =
      let short = within-length (gap-within xs ys g) in
      ap (λ zs. body_from nested turns true constants (body_start zs) 0 turns [] zs) (skipped xs ys g f)
      ∙ ap (λ n. body_from nested turns true constants n 0 turns [] ys) (start-over ys e) ∙ empty-read ys e turns (let h : length ys < turns = omega arith in h)

  -- one whose first statement is read, and what stands after it
  first-read : (s : Tree) (ss : List Tree) (ps qs ys : List Token) → PlainStatement constants s ps qs → Reads (statement nested turns true constants) s ps qs → (n : ℕ) → length ps < n →
      ((n : ℕ) → length qs < n → After (start_of ps) (span_of s).end n (s ∷ []) qs ≡ Ok (tree.Body (s ∷ ss) (record { start = start_of ps; end = (span_of (last_of s ss)).end }), ys)) →
      body_from nested turns true constants (start_of ps) 0 n [] ps ≡ Ok (body_of (s ∷ ss), ys)
  unfolding body_from
  first-read s ss ps qs ys d r zero less more = absurd (let h : ⊥ = omega arith in h)
  first-read s ss ps qs ys d r (suc n) less more =
      let short = past-length r.1 in
      let starts = starts-by s ps qs _ r.0 (statement-holds nested sounds turns constants ps) in
      taken _ _ (begun ps (statement-begins constants s ps qs d)) (on _ r.0 (more n (let h : length qs < n = omega arith in h) ∙ ap (λ n. Ok (tree.Body (s ∷ ss) (record { start = n; end = (span_of (last_of s ss)).end }), ys)) (sym starts)))

  pub row-read : (s : Tree) (ss : List Tree) (xs ps qs ys : List Token) → Gap xs ps → PlainStatement constants s ps qs → Reads (statement nested turns true constants) s ps qs → length xs < turns →
      ((n : ℕ) → length qs < n → After (start_of ps) (span_of s).end n (s ∷ []) qs ≡ Ok (tree.Body (s ∷ ss) (record { start = start_of ps; end = (span_of (last_of s ss)).end }), ys)) →
      spec.body nested turns true constants xs ≡ Ok (body_of (s ∷ ss), ys)
  unfolding spec.body statements same_shape
  row-read s ss xs ps qs ys g d r fits more =
      let b = statement-begins constants s ps qs d in
      let short = within-length (gap-within xs ps g) in
      ap (λ zs. body_from nested turns true constants (body_start zs) 0 turns [] zs) (skipped xs ps g (unseen shape.Separator SIMPLE refl ps b))
      ∙ ap (λ n. body_from nested turns true constants n 0 turns [] ps) (start-begun ps (begun ps b)) ∙ first-read s ss ps qs ys d r turns (let h : length ps < turns = omega arith in h) more

  pub some-read : (s : Tree) (ss : List Tree) (xs ps qs rs ys : List Token) → Gap xs ps → PlainStatement constants s ps qs → PlainMore constants ss qs rs → Over true rs ys → length xs < turns → spec.body nested turns true constants xs ≡ Ok (body_of (s ∷ ss), ys)
  some-read s ss xs ps qs rs ys g d more o fits =
      let short = within-length (gap-within xs ps g) in
      let r = statement-read s ps qs d (more-ends constants ss qs rs more o.follows) (let h : length ps < turns = omega arith in h) in
      let short2 = past-length r.1 in
      row-read s ss xs ps qs ys g d r fits (λ n less. more-read (start_of ps) s ss qs rs ys more o n (s ∷ []) less (let h : length qs < turns = omega arith in h))

  pub body-read : (t : Tree) (xs ys : List Token) → PlainBody constants t xs ys → Ends BODY_ENDS true ys → length xs < turns → spec.body nested turns true constants xs ≡ Ok (t, ys)
  unfolding same_shape
  body-read t xs ys (PlainBody.NoStatement _ _ _ g) ends fits = none-read xs ys g (over true ys ends) (ends-unseen shape.Separator BODY_ENDS refl true ys ends) fits
  body-read t xs ys (PlainBody.Statements _ s ss _ ps qs rs _ g d more end) ends fits = some-read s ss xs ps qs rs ys g d more (over-ends true rs ys end ends) fits

  -- up to a `rescue`
  pub rescued-read : (t : Tree) (xs ps qs : List Token) (k : Token) → PlainBody constants t xs ps → Parted t ps (k ∷ qs) → Is shape.Rescue k → length xs < turns → spec.body nested turns true constants xs ≡ Ok (t, k ∷ qs)
  unfolding same_shape
  rescued-read t xs ps qs k (PlainBody.NoStatement _ _ _ g) parted is fits = none-read xs (k ∷ qs) (rescue-gap xs ps t k qs g parted) (no-statement k qs is) (other shape.Separator shape.Rescue k qs is refl) fits
  rescued-read t xs ps qs k (PlainBody.Statements _ s ss _ us vs rs _ g d more end) parted is fits = some-read s ss xs us vs rs (k ∷ qs) g d more (over-parted true s ss rs ps k qs end parted is) fits
