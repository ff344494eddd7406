-- Shapes that a type doesn't have, found part by part: shapes of its elements, or of its keys and values, by which one shape is made.
use Rattle.std.proofs.Common.{◌≡◌, ℕ, ◌⊎◌, Bool, true, false, ◌&&◌, ◌||◌, List, [], ◌∷◌, map, inl, inr, refl, sym, ap, subst, ◌∙◌}
use Rattle.std.specs.Bool.{IsTrue}
use Rattle.std.specs.List.{list_any, list_all}
use Rattle.srb_terms.specs.declared.ty.Ty.{Ty}
use Rattle.srb_terms.specs.declared.ty.Ty.TheOpen.{Ty-F}
use Rattle.srb_terms.specs.declared.ty.Ty.TheViews.{roll-Ty}
use Rattle.srb_terms.specs.declared.ty.Ty.TheFolds.{map-Ty, ind-Ty}
use Rattle.srb_shapes.specs.Lineages.{Lineage}
use Rattle.srb_shapes.specs.Comparing.{holds_at, holds}
use Rattle.srb_shapes.specs.Shapes.{Shape, Shapes, none, more, each_shape, IsShape, AreShapes, belongs_at, belongs}
use Rattle.srb_shapes.proofs.Steps.{holds_roll}
use Rattle.srb_shapes_laws.proofs.Bools.{or-map, and-both, and-first, and-second, and-map}
use Rattle.srb_shapes_laws.proofs.Equations.{belongs_roll}

-- ---- sets of shapes together

pub both-sets : Shapes → Shapes → Shapes
both-sets none b = b
both-sets (more s a) b = more s (both-sets a b)

are-both : (extra : Bool) (L : Lineage) (a b : Shapes) → AreShapes extra L a → AreShapes extra L b → AreShapes extra L (both-sets a b)
unfolding both-sets
are-both extra L none b v w = w
are-both extra L (more s a) b v w = (v.0, are-both extra L a b v.1 w)

each-both : (test : Shape → Bool) (a b : Shapes) → IsTrue (each_shape test a) → IsTrue (each_shape test b) → IsTrue (each_shape test (both-sets a b))
unfolding both-sets
each-both test none b h k = k
each-both test (more s a) b h k = and-both (test s) _ (and-first _ _ h) (each-both test a b (and-second (test s) _ h) k)

each-first : (test : Shape → Bool) (a b : Shapes) → IsTrue (each_shape test (both-sets a b)) → IsTrue (each_shape test a)
unfolding both-sets
each-first test none b h = refl
each-first test (more s a) b h = and-both (test s) _ (and-first _ _ h) (each-first test a b (and-second (test s) _ h))

each-second : (test : Shape → Bool) (a b : Shapes) → IsTrue (each_shape test (both-sets a b)) → IsTrue (each_shape test b)
unfolding both-sets
each-second test none b h = h
each-second test (more s a) b h = each-second test a b (and-second (test s) _ h)

-- what holds of each of the first set holds of each of the second, as where the first is larger
unfoldable pub IsLarger : Lineage → Shapes → Shapes → Type 0
IsLarger L a b = (t : Ty) → IsTrue (each_shape (belongs true L t) a) → IsTrue (each_shape (belongs true L t) b)

pub larger-itself : (L : Lineage) (a : Shapes) → IsLarger L a a
unfolding IsLarger
larger-itself L a t h = h

larger-first : (L : Lineage) (c a b : Shapes) → IsLarger L c (both-sets a b) → IsLarger L c a
unfolding IsLarger
larger-first L c a b l t h = each-first (belongs true L t) a b (l t h)

larger-second : (L : Lineage) (c a b : Shapes) → IsLarger L c (both-sets a b) → IsLarger L c b
unfolding IsLarger
larger-second L c a b l t h = each-second (belongs true L t) a b (l t h)

-- ---- what is found

-- shapes of k and of m, so that the one made of these or of more doesn't belong where the test fails
pub record Found (extra : Bool) (L : Lineage) (make : Shapes → Shapes → Shape) (k m : Ty) (test : Bool) (there : Shape → Bool) : Type 0 where
  pub left : Shapes
  pub right : Shapes
  pub left_valid : AreShapes extra L left
  pub right_valid : AreShapes extra L right
  pub left_inside : IsTrue (each_shape (belongs extra L k) left)
  pub right_inside : IsTrue (each_shape (belongs extra L m) right)
  pub outside : (a b : Shapes) → IsLarger L a left → IsLarger L b right → IsTrue (there (make a b)) → IsTrue test

module _ (extra : Bool) (L : Lineage) (make : Shapes → Shapes → Shape) (k m : Ty) where
  abbrev Finds : Bool → (Shape → Bool) → Type 0
  Finds test there = Found extra L make k m test there

  -- no shape is needed
  pub found-none : (test : Bool) (there : Shape → Bool) → ((a b : Shapes) → IsTrue (there (make a b)) → IsTrue test) → Finds test there
  found-none test there h = record {
    left = none;
    right = none;
    left_valid = tt;
    right_valid = tt;
    left_inside = refl;
    right_inside = refl;
    outside = λ a b l r t. h a b t;
  }

  found-both : (c d : Bool) (f g : Shape → Bool) (test : Bool) (there : Shape → Bool) → Finds c f → Finds d g →
      ((s : Shape) → (IsTrue (f s) → IsTrue c) → (IsTrue (g s) → IsTrue d) → IsTrue (there s) → IsTrue test) → Finds test there
  found-both c d f g test there x y h = record {
    left = both-sets x.left y.left;
    right = both-sets x.right y.right;
    left_valid = are-both extra L x.left y.left x.left_valid y.left_valid;
    right_valid = are-both extra L x.right y.right x.right_valid y.right_valid;
    left_inside = each-both (belongs extra L k) x.left y.left x.left_inside y.left_inside;
    right_inside = each-both (belongs extra L m) x.right y.right x.right_inside y.right_inside;
    outside = λ a b l r. h (make a b)
        (x.outside a b (larger-first L a x.left y.left l) (larger-first L b x.right y.right r))
        (y.outside a b (larger-second L a x.left y.left l) (larger-second L b x.right y.right r));
  }

  -- ---- in a type, from its parts

  module _ (test : Ty-F Ty → Bool)
      (class : (d : List ℕ) → Finds (test (Ty-F.Class d)) (belongs_at (belongs true L) true L (Ty-F.Class d)))
      (meta : (d : List ℕ) → Finds (test (Ty-F.Meta d)) (belongs_at (belongs true L) true L (Ty-F.Meta d)))
      (array : (e : Ty) → Finds (test (Ty-F.Arr e)) (belongs_at (belongs true L) true L (Ty-F.Arr e)))
      (hash : (a b : Ty) → Finds (test (Ty-F.Hsh a b)) (belongs_at (belongs true L) true L (Ty-F.Hsh a b))) where
    abbrev Gathers : Ty → Type 0
    Gathers u = Found extra L make k m (holds test u) (belongs true L u)

    abbrev Gathered : Type 0
    Gathered = (u : Ty) × Found extra L make k m (holds test u) (belongs true L u)

    abbrev it : Gathered → Ty
    it e = e.0

    some-gathered : (ps : List Gathered) → Finds (list_any (holds test) (map it ps)) (λ s. list_any (λ t. belongs true L t s) (map it ps))
    some-gathered [] = found-none _ _ (λ a b h. h)
    some-gathered (p ∷ ps) = found-both _ _ _ _ _ _ p.1 (some-gathered ps) (λ s f g h. or-map _ _ _ _ f g h)

    all-gathered : (ps : List Gathered) → Finds (list_all (holds test) (map it ps)) (λ s. list_all (λ t. belongs true L t s) (map it ps))
    all-gathered [] = found-none _ _ (λ a b h. h)
    all-gathered (p ∷ ps) = found-both _ _ _ _ _ _ p.1 (all-gathered ps) (λ s f g h. and-map _ _ _ _ f g h)

    layer-gathered : (y : Ty-F Gathered) → Finds (holds_at (λ t. t) (holds test) test (map-Ty Gathered Ty it y)) (belongs_at (belongs true L) true L (map-Ty Gathered Ty it y))
    layer-gathered Ty-F.Untyped = found-none _ _ (λ a b h. refl)
    layer-gathered Ty-F.Never = found-none _ _ (λ a b h. h)
    layer-gathered (Ty-F.Class d) = class d
    layer-gathered (Ty-F.Meta d) = meta d
    layer-gathered (Ty-F.Arr e) = array e.0
    layer-gathered (Ty-F.Hsh a b) = hash a.0 b.0
    layer-gathered (Ty-F.Any ps) = some-gathered ps
    layer-gathered (Ty-F.All ps) = all-gathered ps

    type-gathered : (y : Ty-F Gathered) → Gathers (roll-Ty (map-Ty Gathered Ty it y))
    type-gathered y = subst (λ (p : Bool × (Shape → Bool)). Found extra L make k m p.0 p.1)
        (λ i. (sym (holds_roll test (map-Ty Gathered Ty it y)) i, λ s. sym (belongs_roll true L (map-Ty Gathered Ty it y) s) i))
        (layer-gathered y)

    pub gathered : (u : Ty) → Gathers u
    gathered = ind-Ty Gathers (λ x y is. subst (λ z. Gathers (roll-Ty z)) is (type-gathered y))
