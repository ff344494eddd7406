-- A class in a class, and parts that lie in others.
use Rattle.std.proofs.Common.{◌≡◌, ℕ, ◌-◌, ◌≤◌, true, cond, not, List, [], ◌∷◌, length, get_or, take, drop, ap, sym, ◌∙◌, arith}
use Rattle.std.proofs.lemmas.List.{take_rest}
use Rattle.std.specs.List.{filter, list_any}
use Rattle.srb_terms.specs.NameSets.{has_name}
use Rattle.srb_terms.specs.declared.ty.Ty.{Ty}
use Rattle.srb_terms.specs.declared.ty.Ty.TheOpen.{Ty-F}
use Rattle.srb_terms.specs.declared.ty.Ty.TheVariants as ty
use Rattle.srb_shapes.specs.Comparing.{lies_in, test_of, within}
use Rattle.srb_shapes.specs.Lineages.{Lineage}
use Rattle.srb_shapes.proofs.Variants.{holds-class, within-class}
use Rattle.srb_types.specs.Normal.{with_part, with_parts}
use Rattle.srb_types.specs.Order.{placed}
use Rattle.srb_types.specs.Shown.{shown}

-- a class lies in one that stands in its linearization
pub class_lies : (L : Lineage) (p q : Ty) (c d : List ℕ) → p ≡ ty.Class c → q ≡ ty.Class d → lies_in L p q ≡ has_name d (L.lin c)
class_lies L p q c d is of =
    within-class true L p q c is ∙ holds-class (test_of (within true L) L (Ty-F.Class c)) q d of

-- a list by its first element and those after it
pub split : {A : Type 0} (xs : List A) (x : A) → 1 ≤ length xs → x ≡ get_or xs 0 x → xs ≡ x ∷ take (length xs - 1) (drop 1 xs)
split [] x some is = absurd (omega (arith, some))
split (y ∷ ys) x some is = ap (λ z. z ∷ ys) (sym is) ∙ ap (λ zs. x ∷ zs) (sym (take_rest (y ∷ ys) 1))

module _ (L : Lineage) (parts rest : List Ty) (p : Ty) (some : 1 ≤ length rest) (first : p ≡ get_or rest 0 p) where
  pub parts_split : with_parts L parts rest ≡ with_parts L parts (p ∷ take (length rest - 1) (drop 1 rest))
  parts_split = ap (with_parts L parts) (split rest p some first)

  -- a part that lies in one of those so far adds nothing
  pub one_stays : list_any (λ q. lies_in L p q) parts ≡ true
      → with_parts L parts (take (length rest - 1) (drop 1 rest)) ≡ with_parts L parts rest
  unfolding with_part
  one_stays lies =
      ap (λ b. with_parts L (cond b parts (placed shown p (filter (λ q. not (lies_in L q p)) parts))) (take (length rest - 1) (drop 1 rest))) (sym lies)
      ∙ sym parts_split
