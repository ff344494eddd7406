-- The meet of two classes or modules, by whether one stands in the linearization of the other.
use Rattle.std.proofs.Common.{◌≡◌, ℕ, Bool, true, false, List, [], ◌∷◌, Option, None, Some, refl, ap, ◌∙◌}
use Rattle.std.specs.Prelude.{not, ◌&&◌, ◌||◌, if◌then◌else◌}
use Rattle.std.specs.List.{filter}
use Rattle.srb_terms.specs.declared.ty.Ty.{Ty}
use Rattle.srb_terms.specs.declared.ty.Ty.TheVariants as ty
use Rattle.srb_shapes.specs.Lineages.{Lineage}
use Rattle.srb_types.specs.Normal.{has_two_classes, is_class, is_under, meet_names, of_names, with_name}
use Rattle.srb_types.specs.Order.{before_all, placed}

module _ (L : Lineage) where
  abbrev met : List (List ℕ) → Option Ty
  met names = if has_two_classes L names then None else Some (of_names names)

  one_met : (c : List ℕ) → met (c ∷ []) ≡ Some (ty.Class c)
  one_met c = by (is_class L c)
    where
      by : (b : Bool) → (if (b && false) || false then None else Some (ty.Class c)) ≡ Some (ty.Class c)
      by true = refl
      by false = refl

  two_met : (c d : List ℕ) → is_class L c ≡ true → is_class L d ≡ true → met (c ∷ d ∷ []) ≡ None
  two_met c d first second =
      ap (λ b. if (b && (is_class L d || false)) || has_two_classes L (d ∷ []) then None else Some (of_names (c ∷ d ∷ []))) first
      ∙ ap (λ b. if (b || false) || has_two_classes L (d ∷ []) then None else Some (of_names (c ∷ d ∷ []))) second

  module _ (c d : List ℕ) where
    pub inner_class : is_under L c d ≡ true → meet_names L (c ∷ []) (d ∷ []) ≡ Some (ty.Class c)
    unfolding meet_names with_name
    inner_class is =
        ap (λ b. met (if b || false then c ∷ [] else placed (λ n. n) d (filter (λ n. not (is_under L d n)) (c ∷ [])))) is ∙ one_met c

    apart : is_under L c d ≡ false → meet_names L (c ∷ []) (d ∷ []) ≡ met (placed (λ n. n) d (if not (is_under L d c) then c ∷ [] else []))
    unfolding meet_names with_name
    apart is =
        ap (λ b. met (if b || false then c ∷ [] else placed (λ n. n) d (filter (λ n. not (is_under L d n)) (c ∷ [])))) is

    pub outer_class : is_under L c d ≡ false → is_under L d c ≡ true → meet_names L (c ∷ []) (d ∷ []) ≡ Some (ty.Class d)
    outer_class is above =
        apart is ∙ ap (λ b. met (placed (λ n. n) d (if not b then c ∷ [] else []))) above ∙ one_met d

    pub two_classes : is_under L c d ≡ false → is_under L d c ≡ false → is_class L c ≡ true → is_class L d ≡ true
        → meet_names L (c ∷ []) (d ∷ []) ≡ None
    two_classes is above first second =
        apart is ∙ ap (λ b. met (placed (λ n. n) d (if not b then c ∷ [] else []))) above
        ∙ by (before_all (λ n. n) d (c ∷ []))
      where
        by : (b : Bool) → met (if b then d ∷ c ∷ [] else c ∷ d ∷ []) ≡ None
        by true = two_met d c second first
        by false = two_met c d first second
