-- What is known where a test holds, or where an optional name is there.
use Rattle.std.proofs.Common.{◌≡◌, ℕ, Bool, true, false, ◌&&◌, ◌||◌, ◌⊎◌, inl, inr, List, bytes_eq, cond, Option, Some, None, refl, sym, ap, ◌∙◌}
use Rattle.std.specs.Option.{option_and_then, option_or}
use Rattle.std.proofs.lemmas.Bool.{true≢false}
use Rattle.std.proofs.lemmas.Slice.Eq.{bytes_eq-Decides}

pub first-holds : (a b : Bool) → (a && b) ≡ true → a ≡ true
first-holds true b h = refl
first-holds false b h = h

pub second-holds : (a b : Bool) → (a && b) ≡ true → b ≡ true
second-holds true b h = h
second-holds false b h = absurd (true≢false (sym h))

pub one-holds : (a b : Bool) → (a || b) ≡ true → (a ≡ true) ⊎ (b ≡ true)
one-holds true b h = inl refl
one-holds false b h = inr h

pub and-false : (a : Bool) → (a && false) ≡ false
and-false true = refl
and-false false = refl

pub are-same : (a b : List ℕ) → bytes_eq a b ≡ true → a ≡ b
are-same a b h = (bytes_eq-Decides a b).0 h

pub tells-same : (a b : List ℕ) → a ≡ b → bytes_eq a b ≡ true
tells-same a b h = (bytes_eq-Decides a b).1 h

-- what passes a test is what was there, and passes it
pub passes : (test : List ℕ → Bool) (o : Option (List ℕ)) (d : List ℕ) → option_and_then (λ x. cond (test x) (Some x) None) o ≡ Some d → test d ≡ true
passes test None d h = cc
passes test (Some x) d h = by (test x) refl h
  where
    by : (b : Bool) → test x ≡ b → cond b (Some x) None ≡ Some d → test d ≡ true
    by true e same = let named : x ≡ d = cc in ap test (sym named) ∙ e
    by false e same = cc

-- one of two is there
pub one-is : {X : Type 0} (a b : Option X) (d : X) → option_or a b ≡ Some d → (a ≡ Some d) ⊎ (b ≡ Some d)
one-is None b d h = inr h
one-is (Some x) b d h = inl h

-- what is there under a test
pub under-test : {X : Type 0} (b : Bool) (o : Option X) (d : X) → cond b o None ≡ Some d → o ≡ Some d
under-test true o d h = h
under-test false o d h = cc
