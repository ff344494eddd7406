-- Types in normal form go by their shapes, and so do the laws of unions.
use Rattle.std.proofs.Common.{◌≡◌, Bool, true, false, ◌||◌, refl, sym, ap, ◌∙◌}
use Rattle.std.specs.Bool.{IsTrue}
use Rattle.srb_terms.specs.declared.ty.Ty.{Ty}
use Rattle.srb_shapes.specs.Comparing.{lies_in}
use Rattle.srb_shapes.specs.Lineages.{Lineage, IsLineage}
use Rattle.srb_shapes.specs.Shapes.{Shape, IsShape, belongs, fits}
use Rattle.srb_shapes_laws.proofs.Bools.{either, by-test}
use Rattle.srb_shapes_laws.proofs.Complete.{complete}
use Rattle.srb_types.specs.Normal.{any_of}
use Rattle.srb_types_laws.specs.NormalForms.{HasNoCircles, IsNormal, TextsTell}
use Rattle.srb_types_laws.proofs.Joined.{any-has}
use Rattle.srb_types_laws.proofs.Parts.{is-well, any-normal}
use Rattle.srb_types_laws.proofs.Unique.{unique}

or-turned : (a b : Bool) → (a || b) ≡ (b || a)
or-turned true true = refl
or-turned true false = refl
or-turned false true = refl
or-turned false false = refl

or-joined : (a b c : Bool) → ((a || b) || c) ≡ (a || (b || c))
or-joined true b c = refl
or-joined false b c = refl

or-itself : (a : Bool) → (a || a) ≡ a
or-itself true = refl
or-itself false = refl

module _ (L : Lineage) (laws : IsLineage L) where
  pub included : (t u : Ty) → IsTrue (fits L t) → ((s : Shape) → IsShape true L s → IsTrue (belongs true L t s) → IsTrue (belongs true L u s)) → IsTrue (lies_in L t u)
  included t u fit h = either (λ w. w)
      (λ f. let c = complete true L laws t fit u f in absurd (c.outside (h c.shape c.valid c.inside)))
      (by-test (lies_in L t u))

  module _ (circles : HasNoCircles L) (tell : TextsTell L) where
    pub by-shapes : (t u : Ty) → IsNormal L t → IsNormal L u → ((s : Shape) → IsShape true L s → belongs true L t s ≡ belongs true L u s) → t ≡ u
    by-shapes t u n m same = unique L laws circles tell t u (is-well L t n) (is-well L u m)
        (included t u n.fitting (λ s v h. sym (same s v) ∙ h)) (included u t m.fitting (λ s v h. same s v ∙ h))

    pub any-turned : (t u : Ty) → IsNormal L t → IsNormal L u → any_of L t u ≡ any_of L u t
    any-turned t u n m = by-shapes (any_of L t u) (any_of L u t) (any-normal L t u n m) (any-normal L u t m n)
        (λ s v. any-has L laws s v t u ∙ or-turned (belongs true L t s) (belongs true L u s) ∙ sym (any-has L laws s v u t))

    pub any-joined : (t u w : Ty) → IsNormal L t → IsNormal L u → IsNormal L w → any_of L (any_of L t u) w ≡ any_of L t (any_of L u w)
    any-joined t u w n m k = by-shapes (any_of L (any_of L t u) w) (any_of L t (any_of L u w))
        (any-normal L (any_of L t u) w (any-normal L t u n m) k) (any-normal L t (any_of L u w) n (any-normal L u w m k))
        (λ s v. any-has L laws s v (any_of L t u) w ∙ ap (λ b. b || belongs true L w s) (any-has L laws s v t u)
        ∙ or-joined (belongs true L t s) (belongs true L u s) (belongs true L w s)
        ∙ ap (λ b. belongs true L t s || b) (sym (any-has L laws s v u w)) ∙ sym (any-has L laws s v t (any_of L u w)))

    pub any-itself : (t : Ty) → IsNormal L t → any_of L t t ≡ t
    any-itself t n = by-shapes (any_of L t t) t (any-normal L t t n n) n (λ s v. any-has L laws s v t t ∙ or-itself (belongs true L t s))
