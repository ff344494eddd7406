-- What the table of circular references tells.
use Rattle.std.proofs.Common.{◌≡◌, ℕ, Bool, true, false, ◌&&◌, ◌||◌, List, [], ◌∷◌, bytes_eq, cond, Option, Some, None, refl, sym, ap, ◌∙◌}
use Rattle.std.proofs.lemmas.Slice.Eq.{bytes_eq-Decides}
use Rattle.std.specs.List.{fold}
use Rattle.srb_terms.specs.Worlds.{is_among}
use Rattle.srb_terms.specs.declared.fact.Fact.{Fact}
use Rattle.srb_rules.specs.declared.link.Link.{Link}
use Rattle.srb_rules.specs.Circles.{circle_of, goes, is_named}
use Rattle.srb_rules.specs.FullNames.{BASIC_OBJECT}
use Rattle.srb_rules.specs.Links.{circular_links}
use Rattle.srb_rules.specs.Parents.{deciding, links}
use Rattle.srb_table.specs.Circular.{circle_after, grown}

either : (a b : Bool) → cond a true b ≡ (a || b)
either true b = refl
either false b = refl

-- the reference of one more link is told, and those before it stay
among-grown : (old : Option (List (List ℕ))) (of to c d : List ℕ)
    → is_among d (cond (bytes_eq of c) (grown old to) old) ≡ ((bytes_eq of c && bytes_eq to d) || is_among d old)
among-grown old of to c d = by (bytes_eq of c)
  where
    rest : (o : Option (List (List ℕ))) → is_among d (grown o to) ≡ (bytes_eq to d || is_among d o)
    rest None = either (bytes_eq to d) false
    rest (Some names) = either (bytes_eq to d) (is_among d (Some names))

    by : (b : Bool) → is_among d (cond b (grown old to) old) ≡ ((b && bytes_eq to d) || is_among d old)
    by true = rest old
    by false = refl

or-moves : (a b c : Bool) → (a || (b || c)) ≡ ((b || a) || c)
or-moves true true c = refl
or-moves true false c = refl
or-moves false true c = refl
or-moves false false c = refl

-- the table after all links tells those and what it told before
among-told : (ls : List Link) (old : Option (List (List ℕ))) (c d : List ℕ) → is_among d (fold (circle_after c) old ls) ≡ (goes ls c d || is_among d old)
among-told [] old c d = refl
among-told (l ∷ ls) old c d =
    among-told ls (circle_after c old l) c d
    ∙ ap (λ b. goes ls c d || b) (among-grown old l.of l.to c d)
    ∙ or-moves (goes ls c d) (bytes_eq l.of c && bytes_eq l.to d) (is_among d old)

or-false : (a : Bool) → (a || false) ≡ a
or-false true = refl
or-false false = refl

and-false : (a : Bool) → (a && false) ≡ false
and-false true = refl
and-false false = refl

or-swaps : (a b : Bool) → (a || b) ≡ (b || a)
or-swaps true true = refl
or-swaps true false = refl
or-swaps false true = refl
or-swaps false false = refl

same-either-way : (a b : List ℕ) → bytes_eq a b ≡ bytes_eq b a
same-either-way a b = by (bytes_eq a b) (bytes_eq b a) (bytes_eq-Decides a b) (bytes_eq-Decides b a)
  where
    by : (x y : Bool) → (x ≡ true → a ≡ b) × (a ≡ b → x ≡ true) → (y ≡ true → b ≡ a) × (b ≡ a → y ≡ true) → x ≡ y
    by true y one two = sym (two.1 (sym (one.0 refl)))
    by false true one two = one.1 (sym (two.0 refl))
    by false false one two = refl

-- the table of the circular links alone, where no superclass would decide for `BasicObject`
pub circles-none : (ls : List Link) (empty mid : List ℕ → Option (List (List ℕ))) → ((c : List ℕ) → empty c ≡ None)
    → ((c : List ℕ) → mid c ≡ fold (circle_after c) (empty c) ls)
    → (c d : List ℕ) → is_among d (mid c) ≡ (goes ls c d || (bytes_eq c BASIC_OBJECT && false))
circles-none ls empty mid is-empty one c d =
    ap (is_among d) (one c ∙ ap (λ o. fold (circle_after c) o ls) (is-empty c))
    ∙ among-told ls None c d
    ∙ ap (λ b. goes ls c d || b) (sym (and-false (bytes_eq c BASIC_OBJECT)))

-- the table with the superclass that would decide for `BasicObject`
pub circles-some : (ls : List Link) (of decided : List ℕ) (empty mid new : List ℕ → Option (List (List ℕ))) → of ≡ BASIC_OBJECT → ((c : List ℕ) → empty c ≡ None)
    → ((c : List ℕ) → mid c ≡ fold (circle_after c) (empty c) ls)
    → ((c : List ℕ) → new c ≡ cond (bytes_eq of c) (grown (mid c) decided) (mid c))
    → (c d : List ℕ) → is_among d (new c) ≡ (goes ls c d || (bytes_eq c BASIC_OBJECT && bytes_eq decided d))
circles-some ls of decided empty mid new is-basic is-empty one two c d =
    ap (is_among d) (two c)
    ∙ among-grown (mid c) of decided c d
    ∙ ap (λ b. (bytes_eq of c && bytes_eq decided d) || b) (ap (is_among d) (one c ∙ ap (λ o. fold (circle_after c) o ls) (is-empty c)) ∙ among-told ls None c d ∙ or-false (goes ls c d))
    ∙ ap (λ (o : List ℕ). (bytes_eq o c && bytes_eq decided d) || goes ls c d) is-basic
    ∙ ap (λ b. (b && bytes_eq decided d) || goes ls c d) (same-either-way BASIC_OBJECT c)
    ∙ or-swaps (bytes_eq c BASIC_OBJECT && bytes_eq decided d) (goes ls c d)

-- What `circles` tells of the circular links of some facts, and of the superclass that would decide for `BasicObject`, is which references
-- are circular.
pub circles_are : (fs : List Fact) (ls : List Link) (decided : Option (List ℕ)) → ls ≡ circular_links (links fs) → decided ≡ deciding fs BASIC_OBJECT
    → (c d : List ℕ) → (goes ls c d || (bytes_eq c BASIC_OBJECT && is_named d decided)) ≡ circle_of fs c d
unfolding circle_of
circles_are fs ls decided circular decides c d =
    (λ i. goes (circular i) c d || (bytes_eq c BASIC_OBJECT && is_named d (decides i)))
    ∙ ap (λ b. goes (circular_links (links fs)) c d || b) (by (bytes_eq c BASIC_OBJECT) (bytes_eq-Decides c BASIC_OBJECT).0)
  where
    by : (b : Bool) → (b ≡ true → c ≡ BASIC_OBJECT) → (b && is_named d (deciding fs BASIC_OBJECT)) ≡ (b && is_named d (deciding fs c))
    by true same = ap (λ (x : List ℕ). is_named d (deciding fs x)) (sym (same refl))
    by false same = refl
