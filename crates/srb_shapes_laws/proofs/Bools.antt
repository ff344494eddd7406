-- Tests joined by "and" and "or".
use Rattle.std.proofs.Common.{◌≡◌, ℕ, ◌⊎◌, Bool, true, false, ◌&&◌, ◌||◌, List, [], ◌∷◌, ◌++◌, inl, inr, refl, sym, ap, subst, ◌∙◌, bytes_eq, if◌then◌else◌}
use Rattle.std.specs.Bool.{IsTrue}
use Rattle.std.specs.Cmp.Lexicographic.{bytes_decides}
use Rattle.srb_terms.specs.NameSets.{has_name}
use Rattle.srb_shapes.specs.Lineages.{Has}

pub either : {A B C : Type 0} → (A → C) → (B → C) → A ⊎ B → C
either f g (inl a) = f a
either f g (inr b) = g b

pub or-left : (a b : Bool) → IsTrue a → IsTrue (a || b)
or-left true b h = refl
or-left false b h = cc

pub or-right : (a b : Bool) → IsTrue b → IsTrue (a || b)
or-right true b h = refl
or-right false b h = h

pub or-cases : (a b : Bool) → IsTrue (a || b) → IsTrue a ⊎ IsTrue b
or-cases true b h = inl refl
or-cases false b h = inr h

pub or-map : (a b c d : Bool) → (IsTrue a → IsTrue c) → (IsTrue b → IsTrue d) → IsTrue (a || b) → IsTrue (c || d)
or-map true b c d f g h = or-left c d (f refl)
or-map false b c d f g h = or-right c d (g h)

pub and-both : (a b : Bool) → IsTrue a → IsTrue b → IsTrue (a && b)
and-both true b p q = q
and-both false b p q = p

pub and-first : (a b : Bool) → IsTrue (a && b) → IsTrue a
and-first true b h = refl
and-first false b h = h

pub and-second : (a b : Bool) → IsTrue (a && b) → IsTrue b
and-second true b h = h
and-second false b h = cc

pub and-map : (a b c d : Bool) → (IsTrue a → IsTrue c) → (IsTrue b → IsTrue d) → IsTrue (a && b) → IsTrue (c && d)
and-map a b c d f g h = and-both c d (f (and-first a b h)) (g (and-second a b h))

-- a test is true or false
pub by-test : (b : Bool) → (b ≡ true) ⊎ (b ≡ false)
by-test true = inl refl
by-test false = inr refl

-- what is false isn't true
pub never : {A : Type 0} (b : Bool) → b ≡ false → IsTrue b → A
never b f t = cc

pub and-fails : (a b : Bool) → a && b ≡ false → (a ≡ false) ⊎ (b ≡ false)
and-fails true b h = inr h
and-fails false b h = inl refl

-- ---- names

pub same-name : (a b : List ℕ) → IsTrue (bytes_eq a b) → a ≡ b
same-name a b h = (bytes_decides a b).0 h

pub name-itself : (a : List ℕ) → IsTrue (bytes_eq a a)
name-itself a = (bytes_decides a a).1 refl

step-append : (b x y : Bool) → (if b then true else (x || y)) ≡ ((if b then true else x) || y)
step-append true x y = refl
step-append false x y = refl

pub has-append : (d : List ℕ) (xs ys : List (List ℕ)) → has_name d (xs ++ ys) ≡ (has_name d xs || has_name d ys)
has-append d [] ys = refl
has-append d (x ∷ xs) ys = ap (λ b. if bytes_eq x d then true else b) (has-append d xs ys) ∙ step-append (bytes_eq x d) (has_name d xs) (has_name d ys)
