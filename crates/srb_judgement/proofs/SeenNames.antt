-- Which names stand in lists and sets.
use Rattle.std.proofs.Common.{◌≡◌, ℕ, Bool, true, false, ◌||◌, List, [], ◌∷◌, ◌++◌, bytes_eq, if◌then◌else◌, refl, sym, ap, ◌∙◌}
use Rattle.std.specs.Cmp.Lexicographic.{bytes_decides, nat_list_eq_equiv}
use Rattle.std.specs.List.{list_any}
use Rattle.indexmap.specs.IndexSet.{insert_key}
use Rattle.srb_terms.specs.NameSets.{has_name}

any-step : (b c d : Bool) → c ≡ d → (b || c) ≡ (if b then true else d)
any-step true c d h = refl
any-step false c d h = h

pub any-has : (name : List ℕ) (names : List (List ℕ)) → list_any (bytes_eq name) names ≡ has_name name names
any-has name [] = refl
any-has name (n ∷ names) =
    ap (λ b. b || list_any (bytes_eq name) names) (nat_list_eq_equiv.symm name n)
    ∙ any-step (bytes_eq n name) (list_any (bytes_eq name) names) (has_name name names) (any-has name names)

if-or : (a b c : Bool) → (if a then true else (b || c)) ≡ ((if a then true else b) || c)
if-or true b c = refl
if-or false b c = refl

pub has_name-append : (name : List ℕ) (xs ys : List (List ℕ)) → has_name name (xs ++ ys) ≡ (has_name name xs || has_name name ys)
has_name-append name [] ys = refl
has_name-append name (x ∷ xs) ys =
    ap (λ b. if bytes_eq x name then true else b) (has_name-append name xs ys)
    ∙ if-or (bytes_eq x name) (has_name name xs) (has_name name ys)

or-one : (a b : Bool) → (a || (if b then true else false)) ≡ (if b then true else a)
or-one true true = refl
or-one true false = refl
or-one false true = refl
or-one false false = refl

-- a set with a name, if it has it not, has that name besides
pub inserted : (other n : List ℕ) (keys : List (List ℕ)) →
    has_name other (insert_key bytes_eq keys n) ≡ (if bytes_eq n other then true else has_name other keys)
inserted other n keys = by (list_any (bytes_eq n) keys) refl
  where
    here : (c : Bool) → bytes_eq n other ≡ c → list_any (bytes_eq n) keys ≡ true → has_name other keys ≡ (if c then true else has_name other keys)
    here true e h = ap (λ m. has_name m keys) (sym ((bytes_decides n other).0 e)) ∙ sym (any-has n keys) ∙ h
    here false e h = refl

    by : (b : Bool) → list_any (bytes_eq n) keys ≡ b →
        has_name other (if b then keys else keys ++ n ∷ []) ≡ (if bytes_eq n other then true else has_name other keys)
    by true h = here (bytes_eq n other) refl h
    by false h = has_name-append other keys (n ∷ []) ∙ or-one (has_name other keys) (bytes_eq n other)

or-true : (a b : Bool) → a ≡ true → (a || b) ≡ a
or-true true b h = refl
or-true false b h = cc

or-false : (a b : Bool) → a ≡ false → (a || b) ≡ b
or-false true b h = cc
or-false false b h = refl

-- a name stands in the first of two lists
pub in-first : (name : List ℕ) (r : Bool) (xs ys : List (List ℕ)) → r ≡ true → r ≡ has_name name xs → r ≡ has_name name (xs ++ ys)
in-first name r xs ys h e = e ∙ sym (or-true (has_name name xs) (has_name name ys) (sym e ∙ h)) ∙ sym (has_name-append name xs ys)

-- a name doesn't stand in the first of two lists
pub in-second : (name : List ℕ) (r s : Bool) (xs ys : List (List ℕ)) → r ≡ false → r ≡ has_name name xs → s ≡ has_name name ys → s ≡ has_name name (xs ++ ys)
in-second name r s xs ys h e f = f ∙ sym (or-false (has_name name xs) (has_name name ys) (sym e ∙ h)) ∙ sym (has_name-append name xs ys)

-- the names of a set and of a list, all in a set
pub all-in : (name : List ℕ) (xs keys set : List (List ℕ)) →
    has_name name set ≡ (has_name name xs || has_name name keys) → has_name name set ≡ has_name name (xs ++ keys)
all-in name xs keys set e = e ∙ sym (has_name-append name xs keys)

-- two sets with the same names beside a list
pub beside-same : (name : List ℕ) (xs keys copy : List (List ℕ)) → has_name name copy ≡ has_name name keys →
    has_name name (xs ++ copy) ≡ has_name name (xs ++ keys)
beside-same name xs keys copy h = has_name-append name xs copy ∙ ap (λ b. has_name name xs || b) h ∙ sym (has_name-append name xs keys)
