-- The comparison of each kind of type.
use Rattle.std.proofs.Common.{◌≡◌, ℕ, Bool, true, false, List, refl, ap, ◌∙◌, sym, if◌then◌else◌}
use Rattle.std.specs.List.{list_any, list_all}
use Rattle.srb_terms.specs.declared.ty.Ty.{Ty}
use Rattle.srb_terms.specs.declared.ty.Ty.TheVariants as ty
use Rattle.srb_terms.specs.declared.ty.Ty.TheVariants.{rolls-Untyped, rolls-Never, rolls-Class, rolls-Meta, rolls-Arr, rolls-Hsh, rolls-Any, rolls-All}
use Rattle.srb_terms.specs.declared.ty.Ty.TheOpen.{Ty-F}
use Rattle.srb_terms.specs.declared.ty.Ty.TheViews.{out-roll-Ty}
use Rattle.srb_shapes.specs.Lineages.{Lineage}
use Rattle.srb_shapes.specs.Comparing.{holds, is_nothing, test_of, within, part_test}
use Rattle.srb_shapes.proofs.Steps.{holds_roll, within_roll}

module _ (test : Ty-F Ty → Bool) (u : Ty) where
  pub holds-untyped : u ≡ ty.Untyped → holds test u ≡ true
  holds-untyped e = ap (holds test) (e ∙ sym rolls-Untyped) ∙ holds_roll test Ty-F.Untyped

  pub holds-never : u ≡ ty.Never → holds test u ≡ false
  holds-never e = ap (holds test) (e ∙ sym rolls-Never) ∙ holds_roll test Ty-F.Never

  pub holds-class : (d : List ℕ) → u ≡ ty.Class d → holds test u ≡ test (Ty-F.Class d)
  holds-class d e = ap (holds test) (e ∙ sym (rolls-Class d)) ∙ holds_roll test (Ty-F.Class d)

  pub holds-meta : (d : List ℕ) → u ≡ ty.Meta d → holds test u ≡ test (Ty-F.Meta d)
  holds-meta d e = ap (holds test) (e ∙ sym (rolls-Meta d)) ∙ holds_roll test (Ty-F.Meta d)

  pub holds-arr : (t : Ty) → u ≡ ty.Arr t → holds test u ≡ test (Ty-F.Arr t)
  holds-arr t e = ap (holds test) (e ∙ sym (rolls-Arr t)) ∙ holds_roll test (Ty-F.Arr t)

  pub holds-hsh : (k v : Ty) → u ≡ ty.Hsh k v → holds test u ≡ test (Ty-F.Hsh k v)
  holds-hsh k v e = ap (holds test) (e ∙ sym (rolls-Hsh k v)) ∙ holds_roll test (Ty-F.Hsh k v)

  pub holds-any : (parts : List Ty) → u ≡ ty.Any parts → holds test u ≡ list_any (holds test) parts
  holds-any parts e = ap (holds test) (e ∙ sym (rolls-Any parts)) ∙ holds_roll test (Ty-F.Any parts)

  pub holds-all : (parts : List Ty) → u ≡ ty.All parts → holds test u ≡ list_all (holds test) parts
  holds-all parts e = ap (holds test) (e ∙ sym (rolls-All parts)) ∙ holds_roll test (Ty-F.All parts)

module _ (extra : Bool) (L : Lineage) (t u : Ty) where
  pub within-untyped : t ≡ ty.Untyped → within extra L t u ≡ (if extra then holds is_nothing u else true)
  within-untyped is = ap (λ x. within extra L x u) (is ∙ sym rolls-Untyped) ∙ within_roll extra L Ty-F.Untyped u

  pub within-never : t ≡ ty.Never → within extra L t u ≡ true
  within-never is = ap (λ x. within extra L x u) (is ∙ sym rolls-Never) ∙ within_roll extra L Ty-F.Never u

  pub within-class : (d : List ℕ) → t ≡ ty.Class d → within extra L t u ≡ holds (test_of (within extra L) L (Ty-F.Class d)) u
  within-class d is = ap (λ x. within extra L x u) (is ∙ sym (rolls-Class d)) ∙ within_roll extra L (Ty-F.Class d) u

  pub within-meta : (d : List ℕ) → t ≡ ty.Meta d → within extra L t u ≡ holds (test_of (within extra L) L (Ty-F.Meta d)) u
  within-meta d is = ap (λ x. within extra L x u) (is ∙ sym (rolls-Meta d)) ∙ within_roll extra L (Ty-F.Meta d) u

  pub within-arr : (e : Ty) → t ≡ ty.Arr e → within extra L t u ≡ holds (test_of (within extra L) L (Ty-F.Arr e)) u
  within-arr e is = ap (λ x. within extra L x u) (is ∙ sym (rolls-Arr e)) ∙ within_roll extra L (Ty-F.Arr e) u

  pub within-hsh : (k v : Ty) → t ≡ ty.Hsh k v → within extra L t u ≡ holds (test_of (within extra L) L (Ty-F.Hsh k v)) u
  within-hsh k v is = ap (λ x. within extra L x u) (is ∙ sym (rolls-Hsh k v)) ∙ within_roll extra L (Ty-F.Hsh k v) u

  pub within-any : (parts : List Ty) → t ≡ ty.Any parts → within extra L t u ≡ list_all (λ p. within extra L p u) parts
  within-any parts is = ap (λ x. within extra L x u) (is ∙ sym (rolls-Any parts)) ∙ within_roll extra L (Ty-F.Any parts) u

  pub within-all : (parts : List Ty) → t ≡ ty.All parts → within extra L t u ≡ holds (test_of (within extra L) L (Ty-F.All parts)) u
  within-all parts is = ap (λ x. within extra L x u) (is ∙ sym (rolls-All parts)) ∙ within_roll extra L (Ty-F.All parts) u

module _ (extra : Bool) (L : Lineage) (t : Ty) where
  pub test-untyped : t ≡ ty.Untyped → part_test extra L t ≡ test_of (within extra L) L Ty-F.Untyped
  test-untyped is = ap (part_test extra L) (is ∙ sym rolls-Untyped) ∙ ap (test_of (within extra L) L) (out-roll-Ty Ty-F.Untyped)

  pub test-never : t ≡ ty.Never → part_test extra L t ≡ test_of (within extra L) L Ty-F.Never
  test-never is = ap (part_test extra L) (is ∙ sym rolls-Never) ∙ ap (test_of (within extra L) L) (out-roll-Ty Ty-F.Never)

  pub test-class : (d : List ℕ) → t ≡ ty.Class d → part_test extra L t ≡ test_of (within extra L) L (Ty-F.Class d)
  test-class d is = ap (part_test extra L) (is ∙ sym (rolls-Class d)) ∙ ap (test_of (within extra L) L) (out-roll-Ty (Ty-F.Class d))

  pub test-meta : (d : List ℕ) → t ≡ ty.Meta d → part_test extra L t ≡ test_of (within extra L) L (Ty-F.Meta d)
  test-meta d is = ap (part_test extra L) (is ∙ sym (rolls-Meta d)) ∙ ap (test_of (within extra L) L) (out-roll-Ty (Ty-F.Meta d))

  pub test-arr : (e : Ty) → t ≡ ty.Arr e → part_test extra L t ≡ test_of (within extra L) L (Ty-F.Arr e)
  test-arr e is = ap (part_test extra L) (is ∙ sym (rolls-Arr e)) ∙ ap (test_of (within extra L) L) (out-roll-Ty (Ty-F.Arr e))

  pub test-hsh : (k v : Ty) → t ≡ ty.Hsh k v → part_test extra L t ≡ test_of (within extra L) L (Ty-F.Hsh k v)
  test-hsh k v is = ap (part_test extra L) (is ∙ sym (rolls-Hsh k v)) ∙ ap (test_of (within extra L) L) (out-roll-Ty (Ty-F.Hsh k v))

  pub test-any : (parts : List Ty) → t ≡ ty.Any parts → part_test extra L t ≡ test_of (within extra L) L (Ty-F.Any parts)
  test-any parts is = ap (part_test extra L) (is ∙ sym (rolls-Any parts)) ∙ ap (test_of (within extra L) L) (out-roll-Ty (Ty-F.Any parts))

  pub test-all : (parts : List Ty) → t ≡ ty.All parts → part_test extra L t ≡ test_of (within extra L) L (Ty-F.All parts)
  test-all parts is = ap (part_test extra L) (is ∙ sym (rolls-All parts)) ∙ ap (test_of (within extra L) L) (out-roll-Ty (Ty-F.All parts))
