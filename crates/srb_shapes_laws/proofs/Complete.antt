-- What doesn't lie within another type by its parts has a shape that isn't one of it.
use Rattle.std.proofs.Common.{◌≡◌, ℕ, ◌⊎◌, Bool, true, false, ◌&&◌, ◌||◌, List, [], ◌∷◌, map, Option, Some, None, inl, inr, refl, sym, ap, subst, ◌∙◌, bytes_eq, if◌then◌else◌}
use Rattle.std.specs.Bool.{IsTrue}
use Rattle.std.specs.List.{list_any, list_all}
use Rattle.srb_terms.specs.declared.ty.Ty.{Ty}
use Rattle.srb_terms.specs.declared.ty.Ty.TheOpen.{Ty-F}
use Rattle.srb_terms.specs.declared.ty.Ty.TheViews.{roll-Ty}
use Rattle.srb_terms.specs.declared.ty.Ty.TheFolds.{map-Ty, ind-Ty}
use Rattle.srb_shapes.specs.Lineages.{Lineage, Has, IsLineage, is_body}
use Rattle.srb_shapes.specs.Comparing.{holds, is_nothing, is_below, is_object, is_array, is_hash, is_all_below, within_at, within}
use Rattle.srb_shapes.specs.Shapes.{Shape, Shapes, instance_of, object_of, array_of, hash_of, unknown, none, more, each_shape, IsShape, AreShapes, is_in_array, is_in_hash, belongs_at, belongs, name_of, all_together, fits_at, fits}
use Rattle.srb_shapes.proofs.Steps.{within_roll}
use Rattle.srb_shapes_laws.proofs.Bools.{either, name-itself, by-test, and-both, and-first, and-second, and-fails, or-left, or-right, never}
use Rattle.srb_shapes_laws.proofs.Equations.{belongs_roll, fits_roll}
use Rattle.srb_shapes_laws.proofs.Found.{IsLarger, larger-itself, Found, found-none, gathered}
use Rattle.srb_shapes_laws.proofs.Members.{lins, is-instance, all-inside, some-below}

-- a shape that belongs by the test, and not to u
pub record Counter (extra : Bool) (L : Lineage) (there : Shape → Bool) (u : Ty) : Type 0 where
  pub shape : Shape
  pub valid : IsShape extra L shape
  pub inside : IsTrue (there shape)
  pub outside : IsTrue (belongs true L u shape) → ⊥

-- what a part is compared with
is_leaf : {X : Type 0} → Ty-F X → Bool
is_leaf Ty-F.Untyped = false
is_leaf Ty-F.Never = false
is_leaf (Ty-F.Any parts) = false
is_leaf (Ty-F.All members) = false
is_leaf _ = true

module _ (extra : Bool) (L : Lineage) where
  abbrev Reads : Ty-F Ty → Shape → Bool
  Reads = belongs_at (belongs true L) true L

  -- one shape alone
  alone : (s : Shape) (test : Ty-F Ty → Bool) → IsShape extra L s → (there : Shape → Bool) → IsTrue (there s) →
      ((q : Ty-F Ty) → IsTrue (is_leaf q) → IsTrue (Reads q s) → IsTrue (test q)) → (u : Ty) → holds test u ≡ false → Counter extra L there u
  unfolding is_leaf
  alone s test v there h leaf u f = let
      g = gathered extra L (λ a b. s) u u test
      (λ d. found-none extra L (λ a b. s) u u _ _ (λ a b k. leaf (Ty-F.Class d) refl k))
      (λ d. found-none extra L (λ a b. s) u u _ _ (λ a b k. leaf (Ty-F.Meta d) refl k))
      (λ e. found-none extra L (λ a b. s) u u _ _ (λ a b k. leaf (Ty-F.Arr e) refl k))
      (λ c d. found-none extra L (λ a b. s) u u _ _ (λ a b k. leaf (Ty-F.Hsh c d) refl k)) u in
      record {
        shape = s;
        valid = v;
        inside = h;
        outside = λ k. never (holds test u) f (g.outside g.left g.right (larger-itself L g.left) (larger-itself L g.right) k);
      }

  unknown-leaf : (q : Ty-F Ty) → IsTrue (is_leaf q) → IsTrue (Reads q unknown) → IsTrue (is_nothing q)
  unfolding is_leaf
  unknown-leaf Ty-F.Untyped l h = l
  unknown-leaf Ty-F.Never l h = h
  unknown-leaf (Ty-F.Class d) l h = h
  unknown-leaf (Ty-F.Meta d) l h = h
  unknown-leaf (Ty-F.Arr e) l h = h
  unknown-leaf (Ty-F.Hsh k v) l h = h
  unknown-leaf (Ty-F.Any ps) l h = l
  unknown-leaf (Ty-F.All ps) l h = l

  below-leaf : (names : List (List ℕ)) (q : Ty-F Ty) → IsTrue (is_leaf q) → IsTrue (Reads q (instance_of names)) → IsTrue (is_below names q)
  unfolding is_leaf
  below-leaf names Ty-F.Untyped l h = l
  below-leaf names Ty-F.Never l h = h
  below-leaf names (Ty-F.Class d) l h = h
  below-leaf names (Ty-F.Meta d) l h = h
  below-leaf names (Ty-F.Arr e) l h = h
  below-leaf names (Ty-F.Hsh k v) l h = h
  below-leaf names (Ty-F.Any ps) l h = l
  below-leaf names (Ty-F.All ps) l h = l

  object-leaf : (d : List ℕ) (q : Ty-F Ty) → IsTrue (is_leaf q) → IsTrue (Reads q (object_of d)) → IsTrue (is_object L d q)
  unfolding is_leaf
  object-leaf d Ty-F.Untyped l h = l
  object-leaf d Ty-F.Never l h = h
  object-leaf d (Ty-F.Class c) l h = h
  object-leaf d (Ty-F.Meta c) l h = h
  object-leaf d (Ty-F.Arr e) l h = h
  object-leaf d (Ty-F.Hsh k v) l h = h
  object-leaf d (Ty-F.Any ps) l h = l
  object-leaf d (Ty-F.All ps) l h = l

  all-leaf : (ts : List Ty) (q : Ty-F Ty) → IsTrue (is_leaf q) → IsTrue (Reads q (instance_of (lins L (map name_of ts)))) → IsTrue (is_all_below (within extra L) ts q)
  unfolding is_leaf
  all-leaf ts Ty-F.Untyped l h = l
  all-leaf ts Ty-F.Never l h = h
  all-leaf ts (Ty-F.Class d) l h = some-below L extra d ts h
  all-leaf ts (Ty-F.Meta d) l h = h
  all-leaf ts (Ty-F.Arr e) l h = h
  all-leaf ts (Ty-F.Hsh k v) l h = h
  all-leaf ts (Ty-F.Any ps) l h = l
  all-leaf ts (Ty-F.All ps) l h = l

  -- ---- types

  abbrev Completes : Ty → Type 0
  Completes t = (u : Ty) → within extra L t u ≡ false → Counter extra L (belongs extra L t) u

  -- a shape of e that isn't one of f, where there is one
  element : (e : Ty) → Completes e → (f : Ty) → (within extra L e f ≡ true) ⊎ (within extra L e f ≡ false) →
      Found extra L (λ a b. array_of a) e e (within extra L e f) (is_in_array (belongs true L f))
  unfolding IsLarger
  element e complete f (inl yes_it_is) = found-none extra L (λ a b. array_of a) e e _ _ (λ a b h. yes_it_is)
  element e complete f (inr no_it_is_not) = let c = complete f no_it_is_not in record {
    left = more c.shape none;
    right = none;
    left_valid = (c.valid, tt);
    right_valid = tt;
    left_inside = and-both (belongs extra L e c.shape) _ c.inside refl;
    right_inside = refl;
    outside = λ a b l r h. absurd (c.outside (and-first _ _ (l f h)));
  }

  array-complete : (e : Ty) → Completes e → (u : Ty) → holds (is_array L (within extra L e)) u ≡ false →
      Counter extra L (is_in_array (belongs extra L e)) u
  array-complete e complete u f = let
      g = gathered extra L (λ a b. array_of a) e e (is_array L (within extra L e))
      (λ d. found-none extra L (λ a b. array_of a) e e _ _ (λ a b h. h))
      (λ d. found-none extra L (λ a b. array_of a) e e _ _ (λ a b h. h))
      (λ x. element e complete x (by-test (within extra L e x)))
      (λ x y. found-none extra L (λ a b. array_of a) e e _ _ (λ a b h. h)) u in
      record {
        shape = array_of g.left;
        valid = g.left_valid;
        inside = g.left_inside;
        outside = λ k. never (holds (is_array L (within extra L e)) u) f (g.outside g.left g.right (larger-itself L g.left) (larger-itself L g.right) k);
      }

  entry : (k m : Ty) → Completes k → Completes m → (x y : Ty) → (within extra L k x ≡ true) ⊎ (within extra L k x ≡ false) →
      (within extra L m y ≡ true) ⊎ (within extra L m y ≡ false) →
      Found extra L hash_of k m (within extra L k x && within extra L m y) (is_in_hash (belongs true L x) (belongs true L y))
  unfolding IsLarger
  entry k m completes complete x y (inl p) (inl q) = found-none extra L hash_of k m _ _ (λ a b h. and-both (within extra L k x) _ p q)
  entry k m completes complete x y (inr p) other = let c = completes x p in record {
    left = more c.shape none;
    right = none;
    left_valid = (c.valid, tt);
    right_valid = tt;
    left_inside = and-both (belongs extra L k c.shape) _ c.inside refl;
    right_inside = refl;
    outside = λ a b l r h. absurd (c.outside (and-first _ _ (l x (and-first (each_shape (belongs true L x) a) _ h))));
  }
  entry k m completes complete x y (inl p) (inr q) = let c = complete y q in record {
    left = none;
    right = more c.shape none;
    left_valid = tt;
    right_valid = (c.valid, tt);
    left_inside = refl;
    right_inside = and-both (belongs extra L m c.shape) _ c.inside refl;
    outside = λ a b l r h. absurd (c.outside (and-first _ _ (r y (and-second (each_shape (belongs true L x) a) _ h))));
  }

  hash-complete : (k m : Ty) → Completes k → Completes m → (u : Ty) → holds (is_hash L (within extra L k) (within extra L m)) u ≡ false →
      Counter extra L (is_in_hash (belongs extra L k) (belongs extra L m)) u
  hash-complete k m completes complete u f = let
      g = gathered extra L hash_of k m (is_hash L (within extra L k) (within extra L m))
      (λ d. found-none extra L hash_of k m _ _ (λ a b h. h))
      (λ d. found-none extra L hash_of k m _ _ (λ a b h. h))
      (λ x. found-none extra L hash_of k m _ _ (λ a b h. h))
      (λ x y. entry k m completes complete x y (by-test (within extra L k x)) (by-test (within extra L m y))) u in
      record {
        shape = hash_of g.left g.right;
        valid = (g.left_valid, g.right_valid);
        inside = and-both (each_shape (belongs extra L k) g.left) _ g.left_inside g.right_inside;
        outside = λ h. never (holds (is_hash L (within extra L k) (within extra L m)) u) f
            (g.outside g.left g.right (larger-itself L g.left) (larger-itself L g.right) h);
      }

  untyped-complete : (u : Ty) → (if extra then holds is_nothing u else true) ≡ false → (extra ≡ true) ⊎ (extra ≡ false) → Counter extra L (λ s. extra) u
  untyped-complete u f (inl e) = alone unknown is_nothing e (λ s. extra) e unknown-leaf u
      (sym (ap (λ b. if b then holds is_nothing u else true) e) ∙ f)
  untyped-complete u f (inr e) = let k = ap (λ b. if b then holds is_nothing u else true) e in cc

  -- with what the induction gives
  abbrev IsComplete : Ty → Type 0
  IsComplete t = IsTrue (fits L t) → (u : Ty) → within extra L t u ≡ false → Counter extra L (belongs extra L t) u

  abbrev Complete : Type 0
  Complete = (t : Ty) × (IsTrue (fits L t) → (u : Ty) → within extra L t u ≡ false → Counter extra L (belongs extra L t) u)

  abbrev it : Complete → Ty
  it e = e.0

  abbrev plain : Ty-F Complete → Ty-F Ty
  plain y = map-Ty Complete Ty it y

  part-first : (p : Complete) (ps : List Complete) (u : Ty) → Counter extra L (belongs extra L p.0) u → Counter extra L (λ s. list_any (λ t. belongs extra L t s) (map it (p ∷ ps))) u
  part-first p ps u c = record { shape = c.shape; valid = c.valid; inside = or-left (belongs extra L p.0 c.shape) _ c.inside; outside = c.outside }

  part-later : (p : Complete) (ps : List Complete) (u : Ty) → Counter extra L (λ s. list_any (λ t. belongs extra L t s) (map it ps)) u
      → Counter extra L (λ s. list_any (λ t. belongs extra L t s) (map it (p ∷ ps))) u
  part-later p ps u c = record { shape = c.shape; valid = c.valid; inside = or-right (belongs extra L p.0 c.shape) _ c.inside; outside = c.outside }

  parts-complete : (ps : List Complete) → IsTrue (list_all (fits L) (map it ps)) → (u : Ty) → list_all (λ t. within extra L t u) (map it ps) ≡ false →
      Counter extra L (λ s. list_any (λ t. belongs extra L t s) (map it ps)) u
  parts-complete [] fit u f = cc
  parts-complete (p ∷ ps) fit u f = either
      (λ no_first. part-first p ps u (p.1 (and-first _ _ fit) u no_first))
      (λ no_later. part-later p ps u (parts-complete ps (and-second (fits L p.0) _ fit) u no_later))
      (and-fails (within extra L p.0 u) _ f)

  module _ (laws : IsLineage L) where
    layer-complete : (y : Ty-F Complete) → IsTrue (fits_at (λ t. t) (fits L) L (plain y)) → (u : Ty) →
        within_at (within extra L) extra L (plain y) u ≡ false → Counter extra L (belongs_at (belongs extra L) extra L (plain y)) u
    layer-complete Ty-F.Untyped fit u f = untyped-complete u f (by-test extra)
    layer-complete Ty-F.Never fit u f = cc
    layer-complete (Ty-F.Class c) fit u f = alone (instance_of (L.lin c)) (is_below (L.lin c))
        (record { known = laws.known c; closed = laws.closed c; chain = laws.chain c }) _ (laws.own c fit) (below-leaf (L.lin c)) u f
    layer-complete (Ty-F.Meta d) fit u f = alone (object_of d) (is_object L d) fit _ (or-left (bytes_eq d d) _ (name-itself d)) (object-leaf d) u f
    layer-complete (Ty-F.Arr e) fit u f = array-complete e.0 (e.1 fit) u f
    layer-complete (Ty-F.Hsh k m) fit u f = hash-complete k.0 m.0 (k.1 (and-first _ _ fit)) (m.1 (and-second (fits L k.0) _ fit)) u f
    layer-complete (Ty-F.Any ps) fit u f = parts-complete ps fit u f
    layer-complete (Ty-F.All ms) fit u f = alone (instance_of (lins L (map name_of (map it ms)))) (is_all_below (within extra L) (map it ms))
        (is-instance L laws (map name_of (map it ms)) fit) _
        (all-inside L laws (map name_of (map it ms)) fit extra (map it ms) (λ n h. h)) (all-leaf (map it ms)) u f

    type-complete : (y : Ty-F Complete) → IsComplete (roll-Ty (plain y))
    type-complete y fit u f = subst (λ (g : Shape → Bool). Counter extra L g u)
        (λ i s. sym (belongs_roll extra L (plain y) s) i)
        (layer-complete y (sym (fits_roll L (plain y)) ∙ fit) u (sym (within_roll extra L (plain y) u) ∙ f))

    pub complete : (t : Ty) → IsComplete t
    complete = ind-Ty IsComplete (λ x y is. subst (λ z. IsComplete (roll-Ty z)) is (type-complete y))
