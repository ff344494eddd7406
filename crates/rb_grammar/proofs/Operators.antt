-- Operations that are read derive.
use Rattle.std.proofs.Common.{◌≡◌, ◌≢◌, ℕ, zero, suc, ◌+◌, ◌≤◌, ◌<◌, Bool, true, false, not, ◌&&◌, ◌||◌, ◌==◌, nat_le, if◌then◌else◌, List, [], ◌∷◌, Option, Some, None, ◌⊎◌, inl, inr, refl, sym, ap, subst, ◌∙◌, arith, ⊎_elim}
use Rattle.std.proofs.lemmas.Bool.Decides.{nat_tests}
use Rattle.rb_tree.specs.Tokens.{shape_of}
use Rattle.rb_tree.specs.Trees.{span_of}
use Rattle.rb_tree.specs.declared.syntax.Binary.{Binary}
use Rattle.rb_tree.specs.declared.syntax.Unary.{Unary}
use Rattle.rb_tree.specs.declared.syntax.Unary.TheVariants as unary
use Rattle.rb_tree.specs.declared.syntax.Tree.{Tree}
use Rattle.rb_tree.specs.Nodes as tree
use Rattle.rb_tree.specs.declared.syntax.Node.TheVariants.{rolls-Binary, rolls-Unary, rolls-Conditional}
use Rattle.rb_tree.specs.declared.token.Token.{Token}
use Rattle.rb_tree.specs.declared.token.Shape.{Shape}
use Rattle.rb_tree.specs.declared.token.Shape.TheVariants as shape
use Rattle.rb_expr.specs.declared.form.Form.{Form}
use Rattle.rb_expr.specs.declared.form.Form.TheVariants as form
use Rattle.rb_expr.specs.Reading.{Parser, sees, after, touches}
use Rattle.rb_expr.specs.Shapes.{binary_of, level_of, ceiling, between, operator_between, sees_number, is_signed, is_sign, is_negation, prefix_by, prefix_of}
use Rattle.rb_expr.specs.Operators.{unary_operation, binary_operation, prefixed_by, prefixed, powered, power, negated, climb_by, climb_from, climb, operation, alternatives, chosen, tern, tern_after}
use Rattle.rb_expr.specs.Operators as spec
use Rattle.rb_rules.specs.Tokens.{Is, IsAny, Touches, NUMBERS, IsBeforeNumber, IsRaised}
use Rattle.rb_rules.specs.Spans.{across}
use Rattle.rb_rules.specs.Forms.{Operates}
use Rattle.rb_rules.specs.Grammar.{IsRow, PREFIXES, DerivesTerm, DerivesLevel, DerivesPrefixed}
use Rattle.rb_rules.specs.Grammar.DerivesTerm.{Operated, Conditional}
use Rattle.rb_rules.specs.Grammar.DerivesLevel.{Tighter, FromLeft, Once, Negated, Raised, Plainly}
use Rattle.rb_rules.specs.Grammar.DerivesPrefixed.{Prefixed}
use Rattle.rb_grammar.proofs.Steps.{Holds, answered, refused, step, weaker, choosing, same, follow, testing, shown, Within, within-token, within-more}
use Rattle.rb_grammar.proofs.Sound.{Sound, Starts, starts}
use Rattle.rb_grammar.proofs.Lists.{and-left, and-right}
use Rattle.rb_grammar.proofs.Suffixes.{post-holds}

-- ---- the table of operators

-- what the table says of a shape
abbrev Listed : Shape → Option Binary → Type 0
Listed s None = Unit {0}
Listed s (Some operator) = (k : ℕ) × (level_of operator ≡ suc k) × (k ≤ 8) × Operates k s operator

listed : (s : Shape) → Listed s (binary_of s)
listed shape.OrOr = (0, refl, omega arith, record { row = _; on_level = refl; listed = inl (refl, refl) })
listed shape.AndAnd = (1, refl, omega arith, record { row = _; on_level = refl; listed = inl (refl, refl) })
listed shape.Equal = (2, refl, omega arith, record { row = _; on_level = refl; listed = inl (refl, refl) })
listed shape.NotEqual = (2, refl, omega arith, record { row = _; on_level = refl; listed = inr (inl (refl, refl)) })
listed shape.CaseEqual = (2, refl, omega arith, record { row = _; on_level = refl; listed = inr (inr (inl (refl, refl))) })
listed shape.Compare = (2, refl, omega arith, record { row = _; on_level = refl; listed = inr (inr (inr (inl (refl, refl)))) })
listed shape.Less = (3, refl, omega arith, record { row = _; on_level = refl; listed = inl (refl, refl) })
listed shape.Greater = (3, refl, omega arith, record { row = _; on_level = refl; listed = inr (inl (refl, refl)) })
listed shape.LessEqual = (3, refl, omega arith, record { row = _; on_level = refl; listed = inr (inr (inl (refl, refl))) })
listed shape.GreaterEqual = (3, refl, omega arith, record { row = _; on_level = refl; listed = inr (inr (inr (inl (refl, refl)))) })
listed shape.Pipe = (4, refl, omega arith, record { row = _; on_level = refl; listed = inl (refl, refl) })
listed shape.Caret = (4, refl, omega arith, record { row = _; on_level = refl; listed = inr (inl (refl, refl)) })
listed shape.Ampersand = (5, refl, omega arith, record { row = _; on_level = refl; listed = inl (refl, refl) })
listed shape.ShiftLeft = (6, refl, omega arith, record { row = _; on_level = refl; listed = inl (refl, refl) })
listed shape.ShiftRight = (6, refl, omega arith, record { row = _; on_level = refl; listed = inr (inl (refl, refl)) })
listed shape.Plus = (7, refl, omega arith, record { row = _; on_level = refl; listed = inl (refl, refl) })
listed shape.Minus = (7, refl, omega arith, record { row = _; on_level = refl; listed = inr (inl (refl, refl)) })
listed shape.Star = (8, refl, omega arith, record { row = _; on_level = refl; listed = inl (refl, refl) })
listed shape.Slash = (8, refl, omega arith, record { row = _; on_level = refl; listed = inr (inl (refl, refl)) })
listed shape.Percent = (8, refl, omega arith, record { row = _; on_level = refl; listed = inr (inr (inl (refl, refl))) })
listed s = tt

-- how tight an operator may follow what derives at a level
abbrev Follows : ℕ → ℕ → Type 0
Follows base most = (most ≤ base) ⊎ ((most ≡ suc base) × (base ≢ 2))

level-follows : (operator : Binary) (k : ℕ) → level_of operator ≡ suc k → Follows k (ceiling operator)
level-follows operator k e = go (level_of operator == 3) refl
  where
    go : (b : Bool) → (level_of operator == 3) ≡ b → Follows k (if b then 2 else level_of operator)
    go true three = let n : level_of operator ≡ 3 = grind (arith, nat_tests) in inl (omega arith)
    go false other = let n : level_of operator ≢ 3 = grind (arith, nat_tests) in inr (e, λ two. n (omega arith))

-- what derives at a level derives at each looser one
looser : (base k : ℕ) {free : Bool} {t : Tree} {xs ys : List Token} → k ≤ base → base ≤ 9 → DerivesLevel base free t xs ys → DerivesLevel k free t xs ys
looser zero k {free} {t} {xs} {ys} le top d = let e : zero ≡ k = omega arith in subst (λ n. DerivesLevel n free t xs ys) e d
looser (suc base) k {free} {t} {xs} {ys} le top d = ⊎_elim
    (λ e. subst (λ n. DerivesLevel n free t xs ys) (sym e) d)
    (λ less. looser base k less (let h : base ≤ 9 = omega arith in h) (Tighter _ _ _ _ _ (let h : base < 9 = omega arith in h) d))
    (split k base le)
  where
    split : (k base : ℕ) → k ≤ suc base → (k ≡ suc base) ⊎ (k ≤ base)
    split k base le = grind arith

-- ---- signs

touching : (u n : Token) (ns : List Token) → Touches u n → touches u.span (n ∷ ns) ≡ true
touching u n ns e = grind (arith, nat_tests)

number-seen : (n : Token) (ns : List Token) → IsAny NUMBERS n → sees_number (n ∷ ns) ≡ true
unfolding sees_number
number-seen n ns (inl is) = ap (λ b. b || sees shape.Float (n ∷ ns)) (shown shape.Whole n ns is)
number-seen n ns (inr (inl is)) = or-right (sees shape.Whole (n ∷ ns)) _ (shown shape.Float n ns is)
  where
    or-right : (a b : Bool) → b ≡ true → (a || b) ≡ true
    or-right true b e = refl
    or-right false b e = e
number-seen n ns (inr (inr h)) = absurd h

no-sign : (u : Token) (us : List Token) → is_sign (u ∷ us) ≡ false → ¬ IsBeforeNumber u us
unfolding is_sign is_signed
no-sign u [] e h = h
no-sign u (n ∷ ns) e h =
    let a = touching u n ns h.1 in
    let b = number-seen n ns h.0 in
    let both : (touches u.span (n ∷ ns) && sees_number (n ∷ ns)) ≡ true = ap (λ x. x && sees_number (n ∷ ns)) a ∙ b in
    let false' : (touches u.span (n ∷ ns) && sees_number (n ∷ ns)) ≡ false = e in
    absurd (cc)

raised : (ms : List Token) → sees shape.Power (after ms) ≡ true → IsRaised ms
raised [] e = absurd (cc)
raised (n ∷ []) e = absurd (cc)
raised (n ∷ p ∷ ps) e = inl (same _ _ e)

either : (a b : Bool) → (not a || b) ≡ true → (a ≡ false) ⊎ (b ≡ true)
either true b e = inr e
either false b e = inl refl

module _ (nested : Form → Bool → Parser Tree) (ih : Sound nested) (turns : ℕ) (free : Bool) where
  abbrev Level : ℕ → List Token → Tree → List Token → Type 0
  Level level xs t ys = DerivesLevel level free t xs ys × Within xs ys × Starts t xs

  abbrev Front : List Token → Tree → List Token → Type 0
  Front xs t ys = DerivesPrefixed free t xs ys × Within xs ys × Starts t xs

  abbrev Term : List Token → Tree → List Token → Type 0
  Term xs t ys = DerivesTerm free t xs ys × Within xs ys × Starts t xs

  -- ---- operators in front

  front-holds : (operator : Unary) (u : Token) (us : List Token) → IsRow PREFIXES (shape_of u.kind) operator → (operator ≡ unary.Plus → ¬ IsBeforeNumber u us) → Holds (unary_operation nested turns free operator form.Prefixed (u ∷ us)) (Front (u ∷ us))
  unfolding unary_operation
  front-holds operator u us row plus = step (ih.prefixed free us) (λ t ys h. answered (Front (u ∷ us)) _ ys
      (Prefixed _ _ _ _ _ _ row plus h.0, within-token u h.1, starts _ _ _ (rolls-Unary _ _ _) refl))

  prefix-by : (s : Shape) (signs : Bool) (u : Token) (us : List Token) → Is s u → is_sign (u ∷ us) ≡ signs → Holds (prefixed_by nested turns free (prefix_by signs (Some s)) (u ∷ us)) (Front (u ∷ us))
  prefix-by shape.Not signs u us is e = front-holds unary.Not u us (inl (is, refl)) (λ plus. absurd (cc))
  prefix-by shape.Tilde signs u us is e = front-holds unary.Tilde u us (inr (inl (is, refl))) (λ plus. absurd (cc))
  prefix-by shape.Plus true u us is e = weaker (post-holds nested ih turns free (u ∷ us)) (λ t ys h. (h.0, h.1, h.2))
  prefix-by shape.Plus false u us is e = front-holds unary.Plus u us (inr (inr (inl (is, refl)))) (λ plus. no-sign u us e)
  prefix-by s signs u us is e = weaker (post-holds nested ih turns free (u ∷ us)) (λ t ys h. (h.0, h.1, h.2))

  pub prefixed-holds : (xs : List Token) → Holds (prefixed nested turns free xs) (Front xs)
  unfolding prefixed prefix_of
  prefixed-holds [] = weaker (post-holds nested ih turns free []) (λ t ys h. (h.0, h.1, h.2))
  prefixed-holds (u ∷ us) = prefix-by (shape_of u.kind) (is_sign (u ∷ us)) u us refl refl

  -- after an operand with its prefixes
  powered-holds : (all : List Token) (left : Tree) (xs : List Token) → Front all left xs → Holds (powered nested turns free left xs) (Level 9 all)
  unfolding powered binary_operation spec.across
  powered-holds all left [] h = answered (Level 9 all) _ _ (Plainly _ _ _ _ h.0, h.1, h.2)
  powered-holds all left (o ∷ os) h = testing
      (λ is. step (ih.negated free os) (λ right ys g. answered (Level 9 all) _ ys
      (Raised _ _ _ _ _ _ _ h.0 is g.0, within-more h.1 (within-token o g.1), starts _ _ _ (rolls-Binary _ _ _ _ _) h.2)))
      (λ other. answered (Level 9 all) _ _ (Plainly _ _ _ _ h.0, h.1, h.2))

  power-holds : (xs : List Token) → Holds (power nested turns free xs) (Level 9 xs)
  unfolding power
  power-holds xs = step (prefixed-holds xs) (λ left ys h. powered-holds xs left ys h)

  pub negated-holds : (xs : List Token) → Holds (negated nested turns free xs) (Level 9 xs)
  unfolding negated is_negation unary_operation
  negated-holds [] = power-holds []
  negated-holds (m ∷ ms) = choosing (is_negation (m ∷ ms))
      (λ e. step (ih.negated free ms) (λ t ys h. answered (Level 9 (m ∷ ms)) _ ys (
        Negated _ _ _ _ _ (same _ _ (and-left _ _ e)) (⊎_elim (λ none'. inl (no-sign m ms none')) (λ power'. inr (raised ms power')) (either (is_sign (m ∷ ms)) _ (and-right _ _ e))) h.0,
        within-token m h.1,
        starts _ _ _ (rolls-Unary _ _ _) refl,
      )))
      (λ e. power-holds (m ∷ ms))

  -- ---- operators between

  -- how climbing goes on after what derives at a level
  abbrev Climbs : ℕ → ℕ → List Token → Type 0
  Climbs level n all = (most base : ℕ) (left : Tree) (xs : List Token) → level ≤ base → base ≤ 9 → Follows base most → Level base all left xs → Holds (climb_from nested turns free (suc level) n most left xs) (Level level all)

  stays : (level base : ℕ) (all : List Token) (left : Tree) (xs : List Token) → level ≤ base → base ≤ 9 → Level base all left xs → Level level all left xs
  stays level base all left xs low top h = (looser base level low top h.0, h.1, h.2)

  -- the operation that an operator makes
  joined : (k base most : ℕ) (all : List Token) (left : Tree) (o : Token) (os : List Token) (operator : Binary) → k < most → k ≤ 8 → base ≤ 9 → Follows base most → Level base all left (o ∷ os) → Operates k (shape_of o.kind) operator →
      (right : Tree) (ys : List Token) → DerivesLevel (suc k) free right os ys → DerivesLevel k free (tree.Binary operator o.span left right (across (span_of left) (span_of right))) all ys
  joined k base most all left o os operator less small top fo h row right ys r = ⊎_elim
      (λ two. let three : 3 ≤ base = at-least base most k less fo two in
      let d = looser base 3 three top h.0 in
      subst (λ k. Operates k (shape_of o.kind) operator → DerivesLevel (suc k) free right os ys → DerivesLevel k free (tree.Binary operator o.span left right (across (span_of left) (span_of right))) all ys) (sym two) (λ row r. Once _ _ _ _ _ _ _ _ d row r) row r)
      (λ other. FromLeft _ _ _ _ _ _ _ _ _ other (looser base k (at-most base most k less fo) top h.0) row r)
      (is-two k)
    where
      is-two : (k : ℕ) → (k ≡ 2) ⊎ (k ≢ 2)
      is-two k = grind arith

      at-least : (base most k : ℕ) → k < most → Follows base most → k ≡ 2 → 3 ≤ base
      at-least base most k less (inl f) two = omega arith
      at-least base most k less (inr f) two = let n = f.1 in omega arith

      at-most : (base most k : ℕ) → k < most → Follows base most → k ≤ base
      at-most base most k less (inl f) = omega arith
      at-most base most k less (inr f) = let e = f.0 in omega arith

  climb-with : (level n : ℕ) (all : List Token) (again : Climbs level n all) (most base : ℕ) (left : Tree) (o : Token) (os : List Token) (operator : Binary) → Listed (shape_of o.kind) (Some operator) →
      nat_le (suc level) (level_of operator) ≡ true → nat_le (level_of operator) most ≡ true → base ≤ 9 → Follows base most → Level base all left (o ∷ os) →
      Holds (climb_by nested turns free (climb_from nested turns free (suc level) n) left (Some operator) (o ∷ os)) (Level level all)
  unfolding binary_operation spec.across
  climb-with level n all again most base left o os operator row least most' top fo h =
      let k = row.0 in
      let low : level ≤ k = let e = row.1 in let l : suc level ≤ level_of operator = grind (arith, nat_tests) in omega arith in
      let less : k < most = let e = row.1 in let l : level_of operator ≤ most = grind (arith, nat_tests) in omega arith in
      let small : k ≤ 8 = row.2 in
      let next : suc (suc k) ≡ level_of operator + 1 = let e = row.1 in omega arith in
      step (step (subst (λ m. Holds (nested (form.Operation m) free os) (λ t ys. DerivesLevel (suc k) free t os ys × Within os ys × Starts t os)) next (ih.level (suc k) (let b : suc k ≤ 9 = omega arith in b) free os))
      (λ right ys r. answered (Level k all) (tree.Binary operator o.span left right (across (span_of left) (span_of right))) ys
      (joined k base most all left o os operator less small top fo h row.3 right ys r.0, within-more h.1 (within-token o r.1), starts _ _ _ (rolls-Binary operator o.span left right (across (span_of left) (span_of right))) h.2)))
      (λ longer ys l. again (ceiling operator) k longer ys low (let b : k ≤ 9 = omega arith in b) (level-follows operator k row.1) l)

  climb-test : (level n : ℕ) (all : List Token) (again : Climbs level n all) (most base : ℕ) (left : Tree) (o : Token) (os : List Token) → level ≤ base → base ≤ 9 → Follows base most → Level base all left (o ∷ os) → (operator : Option Binary) → Listed (shape_of o.kind) operator →
      Holds (climb_by nested turns free (climb_from nested turns free (suc level) n) left (between (suc level) most operator) (o ∷ os)) (Level level all)
  climb-test level n all again most base left o os low top fo h None row = answered (Level level all) left (o ∷ os) (stays level base all left (o ∷ os) low top h)
  climb-test level n all again most base left o os low top fo h (Some operator) row = go (nat_le (suc level) (level_of operator) && nat_le (level_of operator) most) refl
    where
      go : (b : Bool) → (nat_le (suc level) (level_of operator) && nat_le (level_of operator) most) ≡ b → Holds (climb_by nested turns free (climb_from nested turns free (suc level) n) left (if b then Some operator else None) (o ∷ os)) (Level level all)
      go true e = climb-with level n all again most base left o os operator row (and-left _ _ e) (and-right (nat_le (suc level) (level_of operator)) _ e) top fo h
      go false e = answered (Level level all) left (o ∷ os) (stays level base all left (o ∷ os) low top h)

  climb-holds : (level n : ℕ) (all : List Token) → Climbs level n all
  unfolding climb_from operator_between
  climb-holds level zero all most base left xs low top fo h = refused _ _
  climb-holds level (suc n) all most base left [] low top fo h = answered (Level level all) left [] (stays level base all left [] low top h)
  climb-holds level (suc n) all most base left (o ∷ os) low top fo h = climb-test level n all (climb-holds level n all) most base left o os low top fo h (binary_of (shape_of o.kind)) (listed (shape_of o.kind))

  pub operation-holds : (level : ℕ) → level ≤ 9 → (xs : List Token) → Holds (operation nested turns free (suc level) xs) (Level level xs)
  unfolding operation climb
  operation-holds level low xs = step (negated-holds xs) (λ left ys h. climb-holds level turns xs 9 9 left ys low (let b : 9 ≤ 9 = omega arith in b) (inl (let b : 9 ≤ 9 = omega arith in b)) h)

  chosen-holds : (all : List Token) (c : Tree) (xs : List Token) → Level 0 all c xs → Holds (chosen nested turns free c xs) (Term all)
  unfolding chosen alternatives spec.across
  chosen-holds all c [] h = answered (Term all) c [] (Operated _ _ _ _ h.0, h.1, h.2)
  chosen-holds all c (q ∷ qs) h = testing
      (λ is. follow shape.Question (λ xs. DerivesLevel 0 free c all xs × Within all xs) _ _ _ (h.0, h.1) (λ q ps is k. step (ih.term free ps) (λ a us g.
      follow shape.Colon (λ us. DerivesTerm free a ps us × Within ps us) _ _ _ (g.0, g.1) (λ colon vs is2 g. step (ih.term free vs) (λ b ys i.
      answered (Term all) _ ys (Conditional _ _ _ _ _ _ _ _ _ _ k.0 is g.0 is2 i.0, within-more k.1 (within-token q (within-more g.1 (within-token colon i.1))), starts _ _ _ (rolls-Conditional _ _ _ _) h.2))))))
      (λ other. answered (Term all) c (q ∷ qs) (Operated _ _ _ _ h.0, h.1, h.2))

  pub tern-holds : (xs : List Token) → Holds (tern nested turns free xs) (Term xs)
  unfolding tern
  tern-holds xs = step (operation-holds 0 (let b : 0 ≤ 9 = omega arith in b) xs) (λ c ys h. chosen-holds xs c ys h)

  pub after-holds : (all : List Token) (first : Tree) (xs : List Token) → Front all first xs → Holds (tern_after nested turns free first xs) (Term all)
  unfolding tern_after climb
  after-holds all first xs h = step (powered-holds all first xs h) (λ left ps l. step (climb-holds 0 turns all 9 9 left ps (let b : 0 ≤ 9 = omega arith in b) (let b : 9 ≤ 9 = omega arith in b) (inl (let b : 9 ≤ 9 = omega arith in b)) l) (λ c ys k. chosen-holds all c ys k))
