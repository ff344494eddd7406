-- Operations that are begun can be completed.
use Rattle.std.proofs.Common.{◌≡◌, ◌≢◌, ℕ, zero, suc, ◌+◌, ◌≤◌, ◌<◌, ◌==◌, Bool, true, false, ◌&&◌, ◌||◌, if◌then◌else◌, List, [], ◌∷◌, Option, Some, None, ◌⊎◌, inl, inr, refl, sym, ap, subst, ◌∙◌, arith, ⊎_elim, nat_le}
use Rattle.std.proofs.lemmas.Bool.Decides.{nat_tests}
use Rattle.rb_tree.specs.Tokens.{shape_of, same_shape}
use Rattle.rb_tree.specs.declared.syntax.Binary.{Binary}
use Rattle.rb_tree.specs.declared.syntax.Unary.{Unary}
use Rattle.rb_tree.specs.declared.syntax.Unary.TheVariants as unary
use Rattle.rb_tree.specs.declared.syntax.Tree.{Tree}
use Rattle.rb_tree.specs.declared.syntax.Node.TheVariants.{rolls-Unary, rolls-Binary, rolls-Conditional}
use Rattle.rb_tree.specs.declared.token.Token.{Token}
use Rattle.rb_tree.specs.declared.token.TokenKind.TheVariants as kind
use Rattle.rb_tree.specs.declared.token.Shape.{Shape}
use Rattle.rb_tree.specs.declared.token.Shape.TheVariants as shape
use Rattle.rb_expr.specs.declared.form.Form.{Form}
use Rattle.rb_expr.specs.declared.form.Form.TheVariants as form
use Rattle.rb_expr.specs.Operators.{unary_operation, binary_operation, prefixed_by, prefixed, powered, power, negated, climb_by, climb_from, climb, operation, alternatives, chosen, tern, tern_after}
use Rattle.rb_expr.specs.Reading.{Parser, sees, after, touches}
use Rattle.rb_expr.specs.Shapes.{binary_of, level_of, ceiling, between, operator_between, sees_number, is_signed, is_sign, is_negation, prefix_by, prefix_of}
use Rattle.rb_rules.specs.Tokens.{Is, IsAny, Touches, IsBeforeNumber, IsRaised, NUMBERS}
use Rattle.rb_rules.specs.Forms.{Operates, is_begin}
use Rattle.rb_rules.specs.Grammar.{IsRow, PREFIXES, DerivesLevel}
use Rattle.rb_rules.specs.Grammar.DerivesTerm.{Operated, Conditional}
use Rattle.rb_rules.specs.Grammar.DerivesLevel.{FromLeft, Once, Negated, Raised, Plainly}
use Rattle.rb_rules.specs.Grammar.DerivesPrefixed.{Prefixed}
use Rattle.rb_grammar.proofs.Steps.{same, shown}
use Rattle.rb_grammar.proofs.Lists.{and-left, and-right}
use Rattle.rb_completion_laws.proofs.Steps.{Rel, This, Fits, Reach, Stands, Seq, seq-stands, reach-as, reach-more, reach-one, reach-this, reach-token, reach-fits, complete-as, complete-after, complete-token, complete-fits, complete-reach, bind, goes-as, choosing, Plain, seq, answering, One, one-stands, expecting, before-one, fits-before}
use Rattle.rb_completion_laws.proofs.Begins.{noded, level-begins}
use Rattle.rb_completion_laws.proofs.Viable.{Viable, ATerm, ALevel, AFront, ANegated, LikeTerm, LikeLevel, LikeFront, LikeNegated, Liking, liking, like-any, looser, term-stands}
use Rattle.rb_completion_laws.proofs.Operands.{is_number, no-number, touch, numbered, not-next}
use Rattle.rb_completion_laws.proofs.Suffixes.{post-goes}

-- ---- the table of operators

-- what the table says of a shape
abbrev Listed : Shape → Option Binary → Type 0
Listed s None = Unit {0}
Listed s (Some operator) = (k : ℕ) × (level_of operator ≡ suc k) × (k ≤ 8) × Operates k s operator

listed : (s : Shape) → Listed s (binary_of s)
listed shape.OrOr = (0, refl, omega arith, record { row = _; on_level = refl; listed = inl (refl, refl) })
listed shape.AndAnd = (1, refl, omega arith, record { row = _; on_level = refl; listed = inl (refl, refl) })
listed shape.Equal = (2, refl, omega arith, record { row = _; on_level = refl; listed = inl (refl, refl) })
listed shape.NotEqual = (2, refl, omega arith, record { row = _; on_level = refl; listed = inr (inl (refl, refl)) })
listed shape.CaseEqual = (2, refl, omega arith, record { row = _; on_level = refl; listed = inr (inr (inl (refl, refl))) })
listed shape.Compare = (2, refl, omega arith, record { row = _; on_level = refl; listed = inr (inr (inr (inl (refl, refl)))) })
listed shape.Less = (3, refl, omega arith, record { row = _; on_level = refl; listed = inl (refl, refl) })
listed shape.Greater = (3, refl, omega arith, record { row = _; on_level = refl; listed = inr (inl (refl, refl)) })
listed shape.LessEqual = (3, refl, omega arith, record { row = _; on_level = refl; listed = inr (inr (inl (refl, refl))) })
listed shape.GreaterEqual = (3, refl, omega arith, record { row = _; on_level = refl; listed = inr (inr (inr (inl (refl, refl)))) })
listed shape.Pipe = (4, refl, omega arith, record { row = _; on_level = refl; listed = inl (refl, refl) })
listed shape.Caret = (4, refl, omega arith, record { row = _; on_level = refl; listed = inr (inl (refl, refl)) })
listed shape.Ampersand = (5, refl, omega arith, record { row = _; on_level = refl; listed = inl (refl, refl) })
listed shape.ShiftLeft = (6, refl, omega arith, record { row = _; on_level = refl; listed = inl (refl, refl) })
listed shape.ShiftRight = (6, refl, omega arith, record { row = _; on_level = refl; listed = inr (inl (refl, refl)) })
listed shape.Plus = (7, refl, omega arith, record { row = _; on_level = refl; listed = inl (refl, refl) })
listed shape.Minus = (7, refl, omega arith, record { row = _; on_level = refl; listed = inr (inl (refl, refl)) })
listed shape.Star = (8, refl, omega arith, record { row = _; on_level = refl; listed = inl (refl, refl) })
listed shape.Slash = (8, refl, omega arith, record { row = _; on_level = refl; listed = inr (inl (refl, refl)) })
listed shape.Percent = (8, refl, omega arith, record { row = _; on_level = refl; listed = inr (inr (inl (refl, refl))) })
listed s = tt

-- how tight an operator may follow what derives at a level
abbrev Follows : ℕ → ℕ → Type 0
Follows base most = (most ≤ base) ⊎ ((most ≡ suc base) × (base ≢ 2))

follows : (operator : Binary) (k : ℕ) → level_of operator ≡ suc k → Follows k (ceiling operator)
follows operator k e = go (level_of operator == 3) refl
  where
    go : (b : Bool) → (level_of operator == 3) ≡ b → Follows k (if b then 2 else level_of operator)
    go true three = let n : level_of operator ≡ 3 = grind (arith, nat_tests) in inl (omega arith)
    go false other = let n : level_of operator ≢ 3 = grind (arith, nat_tests) in inr (e, λ two. n (omega arith))

-- ---- signs

before-number : (u : Token) (us : List Token) → is_sign (u ∷ us) ≡ true → IsBeforeNumber u us
unfolding is_sign is_signed
before-number u [] e = absurd (cc)
before-number u (n ∷ ns) e = (numbered n ns (and-right (touches u.span (n ∷ ns)) _ e), touch u.span n ns (and-left _ _ e))

touching : (u n : Token) (ns : List Token) → Touches u n → touches u.span (n ∷ ns) ≡ true
touching u n ns e = grind (arith, nat_tests)

number-seen : (n : Token) (ns : List Token) → IsAny NUMBERS n → sees_number (n ∷ ns) ≡ true
unfolding sees_number
number-seen n ns (inl is) = ap (λ b. b || sees shape.Float (n ∷ ns)) (shown shape.Whole n ns is)
number-seen n ns (inr (inl is)) = or-right (sees shape.Whole (n ∷ ns)) _ (shown shape.Float n ns is)
  where
    or-right : (a b : Bool) → b ≡ true → (a || b) ≡ true
    or-right true b e = refl
    or-right false b e = e
number-seen n ns (inr (inr h)) = absurd h

no-sign : (u : Token) (us : List Token) → is_sign (u ∷ us) ≡ false → ¬ IsBeforeNumber u us
unfolding is_sign is_signed
no-sign u [] e h = h
no-sign u (n ∷ ns) e h =
    let both : (touches u.span (n ∷ ns) && sees_number (n ∷ ns)) ≡ true = ap (λ x. x && sees_number (n ∷ ns)) (touching u n ns h.1) ∙ number-seen n ns h.0 in
    let none : (touches u.span (n ∷ ns) && sees_number (n ∷ ns)) ≡ false = e in
    absurd (cc)

raised : (ms : List Token) → sees shape.Power (after ms) ≡ true → IsRaised ms
raised [] e = absurd (cc)
raised (n ∷ []) e = absurd (cc)
raised (n ∷ p ∷ ps) e = inl (same _ _ e)

not-raised : (ms : List Token) → sees shape.Power (after ms) ≡ false → ¬ IsRaised ms
not-raised [] e h = h
not-raised (n ∷ ps) e h = not-next shape.Power ps e h

-- what derives with a `-` in front where it does so with a number's sign
with-minus : (free : Bool) (m : Token) (us zs : List Token) → Is shape.Minus m → ALevel 9 free us zs → (IsBeforeNumber m us → ¬ IsRaised us → ALevel 9 free (m ∷ us) zs) → ALevel 9 free (m ∷ us) zs
with-minus free m us zs is d k = by (is_sign (m ∷ us)) refl (sees shape.Power (after us)) refl
  where
    by : (sign : Bool) → is_sign (m ∷ us) ≡ sign → (raises : Bool) → sees shape.Power (after us) ≡ raises → ALevel 9 free (m ∷ us) zs
    by false e raises f = (_, Negated _ _ _ _ _ is (inl (no-sign m us e)) d.1)
    by true e true f = (_, Negated _ _ _ _ _ is (inr (raised us f)) d.1)
    by true e false f = k (before-number m us e) (not-raised us f)

plain-front : (free begins : Bool) (us zs : List Token) → LikeFront free begins us zs → LikeNegated free begins us zs
plain-front free begins us zs h = ((_, Plainly _ _ _ _ h.0.1, h.0.2), λ m is. with-minus free m us zs is (_, Plainly _ _ _ _ h.0.1) (λ b r. (_, Plainly _ _ _ _ (h.1 m is b r).1)))

raised-front : (free begins now : Bool) (us zs : List Token) → Seq (Seq (LikeFront free begins) (One shape.Power)) (ANegated free) us zs → LikeNegated free now us zs
raised-front free begins now us zs h =
    let left = before-one h.first in
    let power = h.first.second.1 in
    let right = h.second.0.1 in
    ((_, Raised _ _ _ _ _ _ _ left.0.1 power right, λ none. noded _ _ (rolls-Binary _ _ _ _ _)), λ m is. with-minus free m us zs is (_, Raised _ _ _ _ _ _ _ left.0.1 power right) (λ b r. (_, Raised _ _ _ _ _ _ _ (left.1 m is b r).1 power right)))

minus-number : (m u : Token) (us : List Token) (s : Shape) → is_number s ≡ false → Is s u → ¬ IsBeforeNumber m (u ∷ us)
minus-number m u us s e is b = no-number s e u is b.0

no-begin : (m : Token) → Is shape.Minus m → Is shape.Begin m → ⊥
no-begin m is begins = let e : shape.Minus ≡ shape.Begin = sym is ∙ begins in absurd (cc)

negated-front : (free begins : Bool) (m : Token) (us zs : List Token) → Is shape.Minus m → ANegated free us zs → LikeNegated free begins (m ∷ us) zs
negated-front free begins m us zs is h = let d = h.1 m is in ((d.0, d.1, λ none. level-begins m (no-begin m is) d.1 (us, refl)), λ n isn. (_, Negated _ _ _ _ _ isn (inl (minus-number n m us shape.Minus refl is)) d.1))

module _ (nested : Form → Bool → Parser Tree) (ih : Viable nested) (turns : ℕ) (free : Bool) where
  -- ---- operators in front

  front-goes : (operator : Unary) (s : Shape) → is_number s ≡ false → (u : Token) (us : List Token) → Is s u → IsRow PREFIXES (shape_of u.kind) operator → (operator ≡ unary.Plus → ¬ IsBeforeNumber u us) →
      Liking (u ∷ us) (unary_operation nested turns free operator form.Prefixed (u ∷ us)) (LikeFront free)
  unfolding unary_operation
  front-goes operator s e u us is row plus = goes-as (answering _ (ih.prefixed free us)) (λ t ys r. reach-token u (reach-as (reach-fits r) (made (is_begin t)))) (λ rest q. complete-token u (complete-as (complete-fits q) (made true)))
    where
      made : (begins : Bool) (vs zs : List Token) → AFront free vs zs × Fits us vs → LikeFront free begins (u ∷ vs) zs
      made begins vs zs h = ((_, Prefixed _ _ _ _ _ _ row (λ e. fits-before u us vs h.1 (plus e)) h.0.0.1, λ none. noded _ _ (rolls-Unary _ _ _)), λ m minus b r. absurd (minus-number m u vs s e is b))

  like-front : (us zs : List Token) → AFront free us zs → LikeFront free true us zs
  like-front us zs h = ((h.0.0, h.0.1, like-any _), h.1)

  post-front : (xs : List Token) → Liking xs (prefixed_by nested turns free None xs) (LikeFront free)
  post-front xs = goes-as (post-goes nested ih turns free xs) (λ t ys r. reach-as r (λ us zs h. h.0)) (λ rest q. complete-as q like-front)

  prefix-by : (s : Shape) (signs : Bool) (u : Token) (us : List Token) → Is s u → is_sign (u ∷ us) ≡ signs → Liking (u ∷ us) (prefixed_by nested turns free (prefix_by signs (Some s)) (u ∷ us)) (LikeFront free)
  prefix-by shape.Not signs u us is e = front-goes unary.Not shape.Not refl u us is (inl (is, refl)) (λ plus. absurd (cc))
  prefix-by shape.Tilde signs u us is e = front-goes unary.Tilde shape.Tilde refl u us is (inr (inl (is, refl))) (λ plus. absurd (cc))
  prefix-by shape.Plus true u us is e = post-front (u ∷ us)
  prefix-by shape.Plus false u us is e = front-goes unary.Plus shape.Plus refl u us is (inr (inr (inl (is, refl)))) (λ plus. no-sign u us e)
  prefix-by s signs u us is e = post-front (u ∷ us)

  like-prefixed-goes : (xs : List Token) → Liking xs (prefixed nested turns free xs) (LikeFront free)
  unfolding prefixed prefix_of
  like-prefixed-goes [] = post-front []
  like-prefixed-goes (u ∷ us) = prefix-by (shape_of u.kind) (is_sign (u ∷ us)) u us refl refl

  pub prefixed-goes : (xs : List Token) → Plain xs (prefixed nested turns free xs) (AFront free)
  prefixed-goes xs = liking {D = LikeFront free} (like-prefixed-goes xs) (λ begins us zs h. ((h.0.0, h.0.1), h.1))

  -- after an operand with its prefixes
  powered-goes : (all : List Token) (left : Tree) (xs : List Token) → Reach all xs (LikeFront free (is_begin left)) → Liking all (powered nested turns free left xs) (LikeNegated free)
  unfolding powered binary_operation
  powered-goes all left [] r = record { told = reach-as r (plain-front free (is_begin left)) }
  powered-goes all left (o ∷ os) r = choosing (same_shape (shape_of o.kind) shape.Power)
      (λ e. let ro = reach-more r (reach-one shape.Power o os (same _ _ e)) in
      goes-as (answering _ (ih.negated free os)) (λ t ys m. reach-as (reach-more ro m) (raised-front free (is_begin left) (is_begin t))) (λ rest q. complete-as (complete-after ro q) (raised-front free (is_begin left) true)))
      (λ e. record { told = reach-as r (plain-front free (is_begin left)) })

  power-goes : (xs : List Token) → Liking xs (power nested turns free xs) (LikeNegated free)
  unfolding power
  power-goes xs = bind (like-prefixed-goes xs) (λ rest q. complete-as q (plain-front free true)) (λ left ys r. powered-goes xs left ys r)

  like-negated-goes : (xs : List Token) → Liking xs (negated nested turns free xs) (LikeNegated free)
  unfolding negated is_negation unary_operation
  like-negated-goes [] = power-goes []
  like-negated-goes (m ∷ ms) = choosing (is_negation (m ∷ ms))
      (λ e. let is = same _ _ (and-left _ _ e) in
      goes-as (answering _ (ih.negated free ms)) (λ t ys r. reach-token m (reach-as r (λ us zs h. negated-front free (is_begin t) m us zs is h))) (λ rest q. complete-token m (complete-as q (λ us zs h. negated-front free true m us zs is h))))
      (λ e. power-goes (m ∷ ms))

  pub negated-goes : (xs : List Token) → Plain xs (negated nested turns free xs) (ANegated free)
  negated-goes xs = liking {D = LikeNegated free} (like-negated-goes xs) (λ begins us zs h. ((h.0.0, h.0.1), h.1))

  -- ---- operators between

  -- how climbing goes on after what derives at a level
  abbrev Climbs : ℕ → ℕ → List Token → Type 0
  Climbs level n all = (most base : ℕ) (left : Tree) (xs : List Token) → level ≤ base → base ≤ 9 → Follows base most → Reach all xs (LikeLevel base free (is_begin left)) → Liking all (climb_from nested turns free (suc level) n most left xs) (LikeLevel level free)

  lower : (level base : ℕ) → level ≤ base → base ≤ 9 → (begins : Bool) (us zs : List Token) → LikeLevel base free begins us zs → LikeLevel level free begins us zs
  lower level base low top begins us zs h = (_, looser base level low top h.1, h.2)

  -- the operation that an operator makes
  joined : (k base most : ℕ) (o : Token) (operator : Binary) → k < most → k ≤ 8 → base ≤ 9 → Follows base most → Operates k (shape_of o.kind) operator → (begins now : Bool) (us zs : List Token) → Seq (Seq (LikeLevel base free begins) (This o)) (ALevel (suc k) free) us zs → LikeLevel k free now us zs
  joined k base most o operator less small top fo row begins now us zs h =
      let left = subst (λ v. LikeLevel base free begins us v) h.first.second h.first.first in
      ⊎_elim
      (λ two. once two (at-least base most k less fo two) left.1 (subst (λ k. Operates k (shape_of o.kind) operator) two row) (subst (λ k. DerivesLevel (suc k) free h.second.0 h.mid zs) two h.second.1))
      (λ other. (_, FromLeft _ _ _ _ _ _ _ _ _ other (looser base k (at-most base most k less fo) top left.1) row h.second.1, λ none. noded _ _ (rolls-Binary _ _ _ _ _)))
      (is-two k)
    where
      is-two : (k : ℕ) → (k ≡ 2) ⊎ (k ≢ 2)
      is-two k = grind arith

      at-least : (base most k : ℕ) → k < most → Follows base most → k ≡ 2 → 3 ≤ base
      at-least base most k less (inl f) two = omega arith
      at-least base most k less (inr f) two = let n = f.1 in omega arith

      at-most : (base most k : ℕ) → k < most → Follows base most → k ≤ base
      at-most base most k less (inl f) = omega arith
      at-most base most k less (inr f) = let e = f.0 in omega arith

      once : k ≡ 2 → 3 ≤ base → {t : Tree} → DerivesLevel base free t us (o ∷ h.mid) → Operates 2 (shape_of o.kind) operator → DerivesLevel 3 free h.second.0 h.mid zs → LikeLevel k free now us zs
      once two three d row right = subst (λ n. LikeLevel n free now us zs) (sym two) (_, Once _ _ _ _ _ _ _ _ (looser base 3 three top d) row right, λ none. noded _ _ (rolls-Binary _ _ _ _ _))

  known : (k : ℕ) (longer : Tree) (us zs : List Token) → LikeLevel k free false us zs → LikeLevel k free (is_begin longer) us zs
  known k longer us zs h = (h.0, h.1, λ none. h.2 refl)

  climb-with : (level n : ℕ) (all : List Token) (again : Climbs level n all) (most base : ℕ) (left : Tree) (o : Token) (os : List Token) (operator : Binary) → Listed (shape_of o.kind) (Some operator) →
      nat_le (suc level) (level_of operator) ≡ true → nat_le (level_of operator) most ≡ true → base ≤ 9 → Follows base most → Reach all (o ∷ os) (LikeLevel base free (is_begin left)) →
      Liking all (climb_by nested turns free (climb_from nested turns free (suc level) n) left (Some operator) (o ∷ os)) (LikeLevel level free)
  unfolding binary_operation
  climb-with level n all again most base left o os operator row least most' top fo r =
      let k = row.0 in
      let low : level ≤ k = let e = row.1 in let l : suc level ≤ level_of operator = grind (arith, nat_tests) in omega arith in
      let less : k < most = let e = row.1 in let l : level_of operator ≤ most = grind (arith, nat_tests) in omega arith in
      let small : k ≤ 8 = row.2 in
      let top' : k ≤ 9 = omega arith in
      let next : suc (suc k) ≡ level_of operator + 1 = let e = row.1 in omega arith in
      let ro = reach-more r (reach-this o os) in
      bind (bind (subst (λ m. Plain os (nested (form.Operation m) free os) (ALevel (suc k) free)) next (ih.level (suc k) (let b : suc k ≤ 9 = omega arith in b) free os))
      (λ rest q. complete-as (complete-after ro q) (joined k base most o operator less small top fo row.3 (is_begin left) true)) (λ right ys m. record { told = reach-as (reach-more ro m) (joined k base most o operator less small top fo row.3 (is_begin left) false) }))
      (λ rest q. complete-as q (lower level k low top' true)) (λ longer ys m. again (ceiling operator) k longer ys low top' (follows operator k row.1) (reach-as m (known k longer)))

  climb-test : (level n : ℕ) (all : List Token) (again : Climbs level n all) (most base : ℕ) (left : Tree) (o : Token) (os : List Token) → level ≤ base → base ≤ 9 → Follows base most → Reach all (o ∷ os) (LikeLevel base free (is_begin left)) → (operator : Option Binary) → Listed (shape_of o.kind) operator →
      Liking all (climb_by nested turns free (climb_from nested turns free (suc level) n) left (between (suc level) most operator) (o ∷ os)) (LikeLevel level free)
  climb-test level n all again most base left o os low top fo r None row = record { told = reach-as r (lower level base low top (is_begin left)) }
  climb-test level n all again most base left o os low top fo r (Some operator) row = go (nat_le (suc level) (level_of operator) && nat_le (level_of operator) most) refl
    where
      go : (b : Bool) → (nat_le (suc level) (level_of operator) && nat_le (level_of operator) most) ≡ b → Liking all (climb_by nested turns free (climb_from nested turns free (suc level) n) left (if b then Some operator else None) (o ∷ os)) (LikeLevel level free)
      go true e = climb-with level n all again most base left o os operator row (and-left _ _ e) (and-right (nat_le (suc level) (level_of operator)) _ e) top fo r
      go false e = record { told = reach-as r (lower level base low top (is_begin left)) }

  climb-goes : (level n : ℕ) (all : List Token) → Climbs level n all
  unfolding climb_from operator_between
  climb-goes level zero all most base left xs low top fo r = record { told = complete-as (complete-reach r) (λ us zs h. let l = lower level base low top (is_begin left) us zs h in (l.0, l.1, like-any _)) }
  climb-goes level (suc n) all most base left [] low top fo r = record { told = reach-as r (lower level base low top (is_begin left)) }
  climb-goes level (suc n) all most base left (o ∷ os) low top fo r = climb-test level n all (climb-goes level n all) most base left o os low top fo r (binary_of (shape_of o.kind)) (listed (shape_of o.kind))

  to-level : (level : ℕ) → level ≤ 9 → (begins : Bool) (us zs : List Token) → LikeNegated free begins us zs → LikeLevel level free begins us zs
  to-level level low begins us zs h = lower level 9 low (omega arith) begins us zs h.0

  climbing : (level : ℕ) → level ≤ 9 → (all : List Token) (left : Tree) (xs : List Token) → Reach all xs (LikeNegated free (is_begin left)) → Liking all (climb nested turns free (suc level) left xs) (LikeLevel level free)
  unfolding climb
  climbing level low all left xs r = climb-goes level turns all 9 9 left xs low (omega arith) (inl (omega arith)) (reach-as r (λ us zs h. h.0))

  like-operation-goes : (level : ℕ) → level ≤ 9 → (xs : List Token) → Liking xs (operation nested turns free (suc level) xs) (LikeLevel level free)
  unfolding operation
  like-operation-goes level low xs = bind (like-negated-goes xs) (λ rest q. complete-as q (to-level level low true)) (λ left ys r. climbing level low xs left ys r)

  pub operation-goes : (level : ℕ) → level ≤ 9 → (xs : List Token) → Plain xs (operation nested turns free (suc level) xs) (ALevel level free)
  operation-goes level low xs = liking {D = LikeLevel level free} (like-operation-goes level low xs) (λ begins us zs h. (h.0, h.1))

  -- ---- `? :`

  question-one : Stands (One shape.Question)
  unfolding shape_of
  question-one = one-stands kind.Question shape.Question refl (λ zs. refl)

  colon-one : Stands (One shape.Colon)
  unfolding shape_of
  colon-one = one-stands kind.Colon shape.Colon refl (λ zs. refl)

  abbrev Sides : Rel
  Sides = Seq (One shape.Question) (Seq (ATerm free) (Seq (One shape.Colon) (ATerm free)))

  sides-go : (condition : Tree) (xs : List Token) → Plain xs (alternatives nested turns free condition xs) Sides
  unfolding alternatives
  sides-go condition xs =
      let t = term-stands free in
      let c = seq-stands colon-one t in
      let p = seq-stands t c in
      seq (expecting shape.Question question-one xs) p (λ _ ps. seq (ih.term free ps) c (λ _ qs. seq (expecting shape.Colon colon-one qs) t (λ _ rs. answering _ (ih.term free rs))))

  whole-term : (begins now : Bool) (us zs : List Token) → Seq (LikeLevel 0 free begins) Sides us zs → LikeTerm free now us zs
  whole-term begins now us zs h =
      let c = subst (λ v. LikeLevel 0 free begins us v) h.second.first.2 h.first in
      let a = subst (λ v. ATerm free h.second.mid v) h.second.second.second.first.2 h.second.second.first in
      (_, Conditional _ _ _ _ _ _ _ _ _ _ c.1 h.second.first.1 a.1 h.second.second.second.first.1 h.second.second.second.second.1, λ none. noded _ _ (rolls-Conditional _ _ _ _))

  as-term : (begins : Bool) (us zs : List Token) → LikeLevel 0 free begins us zs → LikeTerm free begins us zs
  as-term begins us zs h = (_, Operated _ _ _ _ h.1, h.2)

  chosen-goes : (all : List Token) (condition : Tree) (xs : List Token) → Reach all xs (LikeLevel 0 free (is_begin condition)) → Liking all (chosen nested turns free condition xs) (LikeTerm free)
  unfolding chosen
  chosen-goes all condition xs r = choosing (sees shape.Question xs)
      (λ e. goes-as (sides-go condition xs) (λ t ys m. reach-as (reach-more r m) (whole-term (is_begin condition) (is_begin t))) (λ rest q. complete-as (complete-after r q) (whole-term (is_begin condition) true)))
      (λ e. record { told = reach-as r (as-term (is_begin condition)) })

  pub like-tern-goes : (xs : List Token) → Liking xs (tern nested turns free xs) (LikeTerm free)
  unfolding tern
  like-tern-goes xs = bind (like-operation-goes 0 (omega arith) xs) (λ rest q. complete-as q (as-term true)) (λ c ys r. chosen-goes xs c ys r)

  pub tern-goes : (xs : List Token) → Plain xs (tern nested turns free xs) (ATerm free)
  tern-goes xs = liking {D = LikeTerm free} (like-tern-goes xs) (λ begins us zs h. (h.0, h.1))

  -- the rest of a term that begins with this operand
  pub after-goes : (all : List Token) (first : Tree) (xs : List Token) → Reach all xs (LikeFront free (is_begin first)) → Liking all (tern_after nested turns free first xs) (LikeTerm free)
  unfolding tern_after
  after-goes all first xs r = bind (powered-goes all first xs r) (λ rest q. complete-as q (λ us zs h. as-term true us zs (to-level 0 (omega arith) true us zs h)))
      (λ left ys m. bind (climbing 0 (omega arith) all left ys m) (λ rest q. complete-as q (as-term true)) (λ c zs k. chosen-goes all c zs k))
