-- What holds of each row of a list holds of each that it holds.
use Rattle.std.proofs.Common.{◌≡◌, Bool, true, List, [], ◌∷◌, inl, inr, sym, subst}
use Rattle.std.specs.List.{list_all}
use Rattle.rb_rules.specs.Spellings.{Holds}
use Rattle.rb_lex_laws.proofs.Lists.{and-both}

abbrev pub EachRow : {X : Type 0} → (X → Type 0) → List X → Type 0
EachRow P [] = Unit {0}
EachRow P (x ∷ xs) = P x × EachRow P xs

pub at-row : {X : Type 0} (P : X → Type 0) (x : X) (xs : List X) → EachRow P xs → Holds x xs → P x
at-row P x [] each held = absurd held
at-row P x (y ∷ xs) each (inl e) = subst P (sym e) each.0
at-row P x (y ∷ xs) each (inr held) = at-row P x xs each.1 held

-- What a test tells of a row holds of each row of a list that passes it.
pub each-by : {X : Type 0} (P : X → Type 0) (test : X → Bool) → ((x : X) → test x ≡ true → P x) → (xs : List X) → list_all test xs ≡ true → EachRow P xs
each-by P test told [] all = tt
each-by P test told (x ∷ xs) all = let both = and-both (test x) (list_all test xs) all in (told x both.0, each-by P test told xs both.1)
