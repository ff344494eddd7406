-- The superclass that is written for `BasicObject` and would decide is the one class to which it refers in a circle.
use Rattle.std.proofs.Common.{◌≡◌, ℕ, Bool, true, false, ◌||◌, List, [], ◌∷◌, bytes_eq, cond, Option, Some, None, refl, sym, ap, ◌∙◌, ⊎_elim}
use Rattle.std.specs.Option.{option_and_then}
use Rattle.std.proofs.lemmas.Bool.{true≢false}
use Rattle.srb_terms.specs.NameSets.{has_name}
use Rattle.srb_terms.specs.Worlds.{is_among}
use Rattle.srb_terms.specs.declared.fact.Fact.{Fact}
use Rattle.srb_terms.specs.declared.fact.Kind.{Kind}
use Rattle.srb_terms.specs.declared.fact.Kind.TheVariants as kind
use Rattle.srb_rules.specs.Circles.{circle_of, goes, is_named}
use Rattle.srb_rules.specs.FullNames.{BASIC_OBJECT}
use Rattle.srb_rules.specs.Kinds.{is_class, is_module, kind_of}
use Rattle.srb_rules.specs.Links.{circular_links, is_circular}
use Rattle.srb_rules.specs.Parents.{deciding, links}
use Rattle.srb_conflicts.specs.Tables.{first_class}
use Rattle.srb_conflicts.proofs.Choices.{are-same, one-holds, tells-same}
use Rattle.srb_conflicts.proofs.Parents.{decided-class, goes-kept, modules-from-top}

-- no class is a module
not-both : (k : Option Kind) → is_class k ≡ true → is_module k ≡ true → ⊥
not-both (Some kind.Class) c m = true≢false (sym m)
not-both (Some kind.Module) c m = true≢false (sym c)
not-both (Some kind.Value) c m = true≢false (sym c)
not-both None c m = true≢false (sym c)

-- a class to which `BasicObject` refers in a circle decides
circle-decides : (fs : List Fact) (d : List ℕ) → circle_of fs BASIC_OBJECT d ≡ true → is_class (kind_of fs d) ≡ true → deciding fs BASIC_OBJECT ≡ Some d
unfolding circle_of
circle-decides fs d h class =
    ⊎_elim
    (λ (e : goes (circular_links (links fs)) BASIC_OBJECT d ≡ true).
    absurd (not-both (kind_of fs d) class (modules-from-top fs d (goes-kept (is_circular (links fs)) (links fs) BASIC_OBJECT d e))))
    (named (deciding fs BASIC_OBJECT))
    (one-holds (goes (circular_links (links fs)) BASIC_OBJECT d) (is_named d (deciding fs BASIC_OBJECT)) h)
  where
    named : (o : Option (List ℕ)) → is_named d o ≡ true → o ≡ Some d
    named None e = cc
    named (Some other) e = ap Some (are-same other d e)

-- what decides is circular
decides-circle : (fs : List Fact) (d : List ℕ) → deciding fs BASIC_OBJECT ≡ Some d → circle_of fs BASIC_OBJECT d ≡ true
unfolding circle_of
decides-circle fs d h = later (goes (circular_links (links fs)) BASIC_OBJECT d) (ap (is_named d) h ∙ tells-same d d refl)
  where
    later : (a : Bool) → is_named d (deciding fs BASIC_OBJECT) ≡ true → (a || is_named d (deciding fs BASIC_OBJECT)) ≡ true
    later true e = refl
    later false e = e

-- the first class is among the names, and is one
first-among : (kinds : List ℕ → Option Kind) (names : List (List ℕ)) (d : List ℕ) → first_class kinds names ≡ Some d
    → (has_name d names ≡ true) × (is_class (kinds d) ≡ true)
first-among kinds [] d h = cc
first-among kinds (name ∷ names) d h = by (is_class (kinds name)) (first-among kinds names d) refl h
  where
    later : (b : Bool) → has_name d names ≡ true → cond b true (has_name d names) ≡ true
    later true e = refl
    later false e = e

    by : (b : Bool) → (first_class kinds names ≡ Some d → (has_name d names ≡ true) × (is_class (kinds d) ≡ true))
        → is_class (kinds name) ≡ b → cond b (Some name) (first_class kinds names) ≡ Some d
        → (cond (bytes_eq name d) true (has_name d names) ≡ true) × (is_class (kinds d) ≡ true)
    by true more class e =
        let same : name ≡ d = cc in
        (ap (λ b. cond b true (has_name d names)) (tells-same name d same), ap (λ x. is_class (kinds x)) (sym same) ∙ class)
    by false more class e = let rest = more e in (later (bytes_eq name d) rest.0, rest.1)

-- where there is no first class, no name among them is a class
none-first : (kinds : List ℕ → Option Kind) (names : List (List ℕ)) (d : List ℕ) → first_class kinds names ≡ None
    → has_name d names ≡ true → is_class (kinds d) ≡ true → ⊥
none-first kinds [] d h among class = true≢false (sym among)
none-first kinds (name ∷ names) d h among class = by (is_class (kinds name)) (λ rest found. none-first kinds names d rest found class) refl h
  where
    at : (b : Bool) → (first_class kinds names ≡ None → has_name d names ≡ true → ⊥) → bytes_eq name d ≡ b → is_class (kinds name) ≡ false → first_class kinds names ≡ None → cond b true (has_name d names) ≡ true → ⊥
    at true more e other rest found = true≢false (sym class ∙ ap (λ x. is_class (kinds x)) (sym (are-same name d e)) ∙ other)
    at false more e other rest found = more rest found

    by : (b : Bool) → (first_class kinds names ≡ None → has_name d names ≡ true → ⊥) → is_class (kinds name) ≡ b
        → cond b (Some name) (first_class kinds names) ≡ None → ⊥
    by true more e none = cc
    by false more e none = at (bytes_eq name d) more refl e none among

-- the names to which `BasicObject` refers in circles, if there is a list of them, tell what decides
pub top-told : (fs : List Fact) (o : Option (List (List ℕ))) → ((d : List ℕ) → is_among d o ≡ circle_of fs BASIC_OBJECT d)
    → option_and_then (first_class (kind_of fs)) o ≡ deciding fs BASIC_OBJECT
top-told fs o told = by (option_and_then (first_class (kind_of fs)) o) (deciding fs BASIC_OBJECT) refl refl
  where
    found : (o : Option (List (List ℕ))) (d : List ℕ) → option_and_then (first_class (kind_of fs)) o ≡ Some d
        → (is_among d o ≡ true) × (is_class (kind_of fs d) ≡ true)
    found None d e = cc
    found (Some names) d e = first-among (kind_of fs) names d e

    none : (o : Option (List (List ℕ))) (d : List ℕ) → option_and_then (first_class (kind_of fs)) o ≡ None → is_among d o ≡ true
        → is_class (kind_of fs d) ≡ true → ⊥
    none None d e among class = true≢false (sym among)
    none (Some names) d e among class = none-first (kind_of fs) names d e among class

    by : (a b : Option (List ℕ)) → option_and_then (first_class (kind_of fs)) o ≡ a → deciding fs BASIC_OBJECT ≡ b → a ≡ b
    by None None one two = refl
    by None (Some d) one two = absurd (none o d one (told d ∙ decides-circle fs d two) (decided-class fs BASIC_OBJECT d two))
    by (Some d) b one two =
        let at = found o d one in
        sym (circle-decides fs d (sym (told d) ∙ at.0) at.1) ∙ two
