-- Each part of a type in normal form has a shape, and one that no other part has.
use Rattle.std.proofs.Common.{◌≡◌, false, refl, ◌∙◌}
use Rattle.std.specs.Bool.{IsTrue}
use Rattle.srb_terms.specs.declared.ty.Ty.{Ty, out-Ty}
use Rattle.srb_terms.specs.declared.ty.Ty.TheVariants as ty
use Rattle.srb_shapes.specs.Comparing.{test_of, within, lies_in}
use Rattle.srb_shapes.specs.Lineages.{Lineage, IsLineage}
use Rattle.srb_shapes.specs.Parts.{parts_of}
use Rattle.srb_shapes.specs.Shapes.{Shape, IsShape, belongs, fits, LiesIn}
use Rattle.srb_shapes.proofs.Variants.{holds-never}
use Rattle.srb_shapes_laws.proofs.Complete.{complete}
use Rattle.srb_types.specs.Normal.{is_untyped}
use Rattle.srb_types_laws.specs.NormalForms.{Among, IsNormal, is_part}
use Rattle.srb_types_laws.proofs.Elements.{among-all, one-element}
use Rattle.srb_types_laws.proofs.Parts.{is-well, parts-well}
use Rattle.srb_types_laws.proofs.Inclusions.{part-test}
use Rattle.srb_types_laws.proofs.Algebra.{included}

module _ (L : Lineage) (laws : IsLineage L) (t : Ty) (n : IsNormal L t) (typed : is_untyped t ≡ false) where
  pub part-shape : (p : Ty) → Among p (parts_of t) → (s : Shape) × IsShape false L s × IsTrue (belongs false L p s)
  part-shape p a = let
      w = parts-well L t (is-well L t n) typed in let
      test = test_of (within false L) L (out-Ty p) in let
      f = part-test false L p ty.Never (among-all is_part p (parts_of t) a w.parts) ∙ holds-never test ty.Never refl in let
      c = complete false L laws p (among-all (fits L) p (parts_of t) a w.fitting) ty.Never f in
      (c.shape, c.valid, c.inside)

  pub part-apart : (p q : Ty) → Among p (parts_of t) → Among q (parts_of t) → LiesIn L p q → p ≡ q
  part-apart p q a b h = let w = parts-well L t (is-well L t n) typed in
      one-element (lies_in L) (parts_of t) w.apart p q a b (included L laws p q (among-all (fits L) p (parts_of t) a w.fitting) h)
