-- An operation of any level is read as one of a level that an operator has.
use Rattle.std.proofs.Common.{◌≡◌, ℕ, zero, suc, ◌+◌, ◌-◌, ◌<◌, ◌≤◌, min, Bool, true, false, ◌&&◌, nat_le, if◌then◌else◌, List, [], ◌∷◌, Option, Some, None, Ok, Err, refl, sym, ap, ◌∙◌, arith}
use Rattle.std.proofs.lemmas.Bool.{leb-true, leb-false, le-leb, lt-leb}
use Rattle.rb_tree.specs.Tokens.{shape_of}
use Rattle.rb_tree.specs.declared.syntax.Binary.{Binary}
use Rattle.rb_tree.specs.declared.syntax.Binary.TheVariants as binary
use Rattle.rb_tree.specs.declared.syntax.Tree.{Tree}
use Rattle.rb_tree.specs.declared.token.Token.{Token}
use Rattle.rb_expr.specs.declared.form.Form.{Form}
use Rattle.rb_expr.specs.declared.form.Form.TheVariants as form
use Rattle.rb_expr.specs.Grammar.{parsed}
use Rattle.rb_expr.specs.Operators.{binary_operation, negated, climb_by, climb_from, climb, operation}
use Rattle.rb_expr.specs.Reading.{Outcome, Parser, and_then}
use Rattle.rb_expr.specs.Shapes.{between, binary_of, ceiling, level_of, operator_between}

-- the nearest number that is a level of operators
abbrev pub nearest : ℕ → ℕ
nearest least = suc (min 9 (least - 1))

-- ---- levels of operators

level-low : (operator : Binary) → 1 ≤ level_of operator
level-low binary.Or = omega arith
level-low _ = omega arith

ceiling-low : (operator : Binary) (most : ℕ) → level_of operator ≤ most → ceiling operator ≤ most
ceiling-low binary.Or most h = omega arith
ceiling-low _ most h = omega arith

same-le : (least level : ℕ) → 1 ≤ level → level ≤ 9 → nat_le least level ≡ nat_le (nearest least) level
same-le least level low top = by (nat_le least level) refl
  where
    by : (b : Bool) → nat_le least level ≡ b → b ≡ nat_le (nearest least) level
    by true e = let h : least ≤ level = leb-true least level e in sym (le-leb (nearest least) level (omega arith))
    by false e = let h : level < least = leb-false least level e in sym (lt-leb (nearest least) level (omega arith))

no-false : (b : Bool) → (b && false) ≡ false
no-false true = refl
no-false false = refl

-- an operator that is in reach of the one is in reach of the other
same-test : (least level most : ℕ) → 1 ≤ level → most ≤ 9 → (nat_le least level && nat_le level most) ≡ (nat_le (nearest least) level && nat_le level most)
same-test least level most low top = by (nat_le level most) refl
  where
    by : (b : Bool) → nat_le level most ≡ b → (nat_le least level && b) ≡ (nat_le (nearest least) level && b)
    by true e = let h : level ≤ most = leb-true level most e in ap (λ x. x && true) (same-le least level low (omega arith))
    by false e = no-false (nat_le least level) ∙ sym (no-false (nat_le (nearest least) level))

in-reach : (least level most : ℕ) → (nat_le least level && nat_le level most) ≡ true → level ≤ most
in-reach least level most e = by (nat_le least level) (nat_le level most) refl e
  where
    by : (a b : Bool) → nat_le level most ≡ b → (a && b) ≡ true → level ≤ most
    by true true f g = leb-true level most f
    by true false f g = absurd (cc)
    by false b f g = absurd (cc)

-- ---- climbing

then-same : {A B : Type 0} (o : Outcome A) (f g : A → Parser B) → ((a : A) (rest : List Token) → f a rest ≡ g a rest) → and_then o f ≡ and_then o g
then-same (Ok p) f g same = same p.0 p.1
then-same (Err rest) f g same = refl

module _ (nested : Form → Bool → Parser Tree) (turns : ℕ) (free : Bool) where
  -- the same is read after an operator
  abbrev Again : ℕ → ℕ → Type 0
  Again least n =
      (operator : Binary) → ceiling operator ≤ 9 → (tree : Tree) (rest : List Token)
      → climb_from nested turns free least n (ceiling operator) tree rest ≡ climb_from nested turns free (nearest least) n (ceiling operator) tree rest

  climb-same : (least n most : ℕ) → most ≤ 9 → (left : Tree) (tokens : List Token) → climb_from nested turns free least n most left tokens ≡ climb_from nested turns free (nearest least) n most left tokens
  unfolding climb_from operator_between
  climb-same least zero most top left tokens = refl
  climb-same least (suc n) most top left [] = refl
  climb-same least (suc n) most top left (t ∷ ts) = by (binary_of (shape_of t.kind)) (λ operator low tree rest. climb-same least n (ceiling operator) low tree rest)
    where
      longer : (operator : Binary) (b : Bool) → (nat_le (nearest least) (level_of operator) && nat_le (level_of operator) most) ≡ b → Again least n
          → climb_by nested turns free (climb_from nested turns free least n) left (if b then Some operator else None) (t ∷ ts)
          ≡ climb_by nested turns free (climb_from nested turns free (nearest least) n) left (if b then Some operator else None) (t ∷ ts)
      longer operator false e again = refl
      longer operator true e again =
          let c = ceiling-low operator most (in-reach (nearest least) (level_of operator) most e) in
          let low : ceiling operator ≤ 9 = omega arith in
          then-same (binary_operation nested turns free operator (form.Operation (level_of operator + 1)) left (t ∷ ts)) _ _ (again operator low)

      by : (o : Option Binary) → Again least n → climb_by nested turns free (climb_from nested turns free least n) left (between least most o) (t ∷ ts)
          ≡ climb_by nested turns free (climb_from nested turns free (nearest least) n) left (between (nearest least) most o) (t ∷ ts)
      by None again = refl
      by (Some operator) again =
          ap (λ b. climb_by nested turns free (climb_from nested turns free least n) left (if b then Some operator else None) (t ∷ ts)) (same-test least (level_of operator) most (level-low operator) top)
          ∙ longer operator (nat_le (nearest least) (level_of operator) && nat_le (level_of operator) most) refl again

  operation-same : (least : ℕ) (tokens : List Token) → operation nested turns free least tokens ≡ operation nested turns free (nearest least) tokens
  unfolding operation climb
  operation-same least tokens = then-same (negated nested turns free tokens) _ _ (λ left rest. climb-same least turns 9 (let h : 9 ≤ 9 = omega arith in h) left rest)

pub parsed-same : (depth least : ℕ) (free : Bool) (tokens : List Token) → parsed depth (form.Operation least) free tokens ≡ parsed depth (form.Operation (nearest least)) free tokens
unfolding parsed
parsed-same zero least free tokens = refl
parsed-same (suc depth) least free tokens = operation-same (parsed depth) depth free least tokens
