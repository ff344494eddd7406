-- What a type adds by its meets goes by its layer.
use Rattle.std.proofs.Common.{◌≡◌, ℕ, List, [], ◌∷◌, map, refl, ap, sym, ◌∙◌}
use Rattle.srb_terms.specs.declared.ty.Ty.{Ty, out-Ty}
use Rattle.srb_terms.specs.declared.ty.Ty.TheOpen.{Ty-F}
use Rattle.srb_terms.specs.declared.ty.Ty.TheVariants as ty
use Rattle.srb_terms.specs.declared.ty.Ty.TheVariants.{rolls-Untyped, rolls-Never, rolls-Class, rolls-Meta, rolls-Arr, rolls-Hsh, rolls-Any, rolls-All}
use Rattle.srb_terms.specs.declared.ty.Ty.TheViews.{out-roll-Ty, roll-Ty}
use Rattle.srb_terms.specs.declared.ty.Ty.TheFolds.{map-Ty, para-roll-Ty}
use Rattle.srb_shapes.specs.Lineages.{Lineage}
use Rattle.srb_types.specs.Normal.{Meets, meet_at, meet_parts, meet_plain, meets_at, meets_each, meets_of, with_meets}

each-mapped : (f : Ty → Meets) (ps : List Ty) (others parts : List Ty) →
    meets_each (λ (y : Ty × Meets). y.1) (map (λ t. (t, f t)) ps) others parts ≡ meets_each f ps others parts
each-mapped f [] others parts = refl
each-mapped f (p ∷ ps) others parts = each-mapped f ps others (f p others parts)

members-mapped : (f : Ty → Meets) (ms : List Ty) → map (λ (y : Ty × Meets). y.0) (map (λ t. (t, f t)) ms) ≡ ms
members-mapped f [] = refl
members-mapped f (m ∷ ms) = ap (λ ns. m ∷ ns) (members-mapped f ms)

all-same : (ms : List Ty) → map (λ t. t) ms ≡ ms
all-same [] = refl
all-same (m ∷ ms) = ap (λ ns. m ∷ ns) (all-same ms)

meets-same : (L : Lineage) (f : Ty → Meets) (x : Ty-F Ty) (others parts : List Ty) →
    meets_at (λ (y : Ty × Meets). y.0) (λ y. y.1) L (map-Ty Ty (Ty × Meets) (λ t. (t, f t)) x) others parts
    ≡ meets_at (λ t. t) f L x others parts
meets-same L f (Ty-F.Any ps) others parts = each-mapped f ps others parts
meets-same L f (Ty-F.All ms) others parts =
    ap (λ ns. with_meets L (meet_plain L (ty.All ns)) others parts) (members-mapped f ms ∙ sym (all-same ms))
meets-same L f x others parts = refl

meets_roll : (L : Lineage) (x : Ty-F Ty) (others parts : List Ty) →
    meets_of L (roll-Ty x) others parts ≡ meets_at (λ t. t) (meets_of L) L x others parts
unfolding meets_of
meets_roll L x others parts =
    ap (λ (m : Meets). m others parts) (para-roll-Ty Meets (meets_at (λ t. t.0) (λ t. t.1) L) x)
    ∙ meets-same L (meets_of L) x others parts

module _ (L : Lineage) (t : Ty) (others parts : List Ty) where
  -- a part adds its meets with the others
  row-is : (x : Ty-F Ty) → t ≡ roll-Ty x
      → meets_at (λ u. u) (meets_of L) L x others parts ≡ with_meets L (meet_at (λ u. u) (meets_of L) L x) others parts
      → meets_of L t others parts ≡ with_meets L (meet_parts L t) others parts
  unfolding meet_parts
  row-is x is row = ap (λ u. meets_of L u others parts) is ∙ meets_roll L x others parts ∙ row
      ∙ ap (λ y. with_meets L (meet_at (λ u. u) (meets_of L) L y) others parts) (sym (out-roll-Ty x) ∙ ap out-Ty (sym is))

  pub meets-untyped : t ≡ ty.Untyped → meets_of L t others parts ≡ with_meets L (meet_parts L t) others parts
  meets-untyped is = row-is Ty-F.Untyped (is ∙ sym rolls-Untyped) refl

  pub meets-never : t ≡ ty.Never → meets_of L t others parts ≡ parts
  meets-never is = ap (λ x. meets_of L x others parts) (is ∙ sym rolls-Never) ∙ meets_roll L Ty-F.Never others parts

  pub meets-class : (d : List ℕ) → t ≡ ty.Class d → meets_of L t others parts ≡ with_meets L (meet_parts L t) others parts
  meets-class d is = row-is (Ty-F.Class d) (is ∙ sym (rolls-Class d)) refl

  pub meets-meta : (d : List ℕ) → t ≡ ty.Meta d → meets_of L t others parts ≡ with_meets L (meet_parts L t) others parts
  meets-meta d is = row-is (Ty-F.Meta d) (is ∙ sym (rolls-Meta d)) refl

  pub meets-arr : (e : Ty) → t ≡ ty.Arr e → meets_of L t others parts ≡ with_meets L (meet_parts L t) others parts
  meets-arr e is = row-is (Ty-F.Arr e) (is ∙ sym (rolls-Arr e)) refl

  pub meets-hsh : (k v : Ty) → t ≡ ty.Hsh k v → meets_of L t others parts ≡ with_meets L (meet_parts L t) others parts
  meets-hsh k v is = row-is (Ty-F.Hsh k v) (is ∙ sym (rolls-Hsh k v)) refl

  pub meets-any : (ps : List Ty) → t ≡ ty.Any ps → meets_of L t others parts ≡ meets_each (meets_of L) ps others parts
  meets-any ps is = ap (λ x. meets_of L x others parts) (is ∙ sym (rolls-Any ps)) ∙ meets_roll L (Ty-F.Any ps) others parts

  pub meets-all : (ms : List Ty) → t ≡ ty.All ms → meets_of L t others parts ≡ with_meets L (meet_parts L t) others parts
  meets-all ms is = row-is (Ty-F.All ms) (is ∙ sym (rolls-All ms)) refl
