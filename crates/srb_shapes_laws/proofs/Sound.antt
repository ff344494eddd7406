-- What lies within another type by its parts does so by its shapes.
use Rattle.std.proofs.Common.{◌≡◌, ℕ, ◌⊎◌, Bool, true, false, ◌&&◌, ◌||◌, List, [], ◌∷◌, map, Option, Some, None, inl, inr, refl, sym, ap, subst, ◌∙◌, bytes_eq, codes, if◌then◌else◌}
use Rattle.std.specs.Bool.{IsTrue}
use Rattle.std.specs.List.{list_any, list_all}
use Rattle.srb_terms.specs.NameSets.{has_name}
use Rattle.srb_terms.specs.declared.fact.Kind.{Kind}
use Rattle.srb_terms.specs.declared.fact.Kind.TheVariants as kind
use Rattle.srb_terms.specs.declared.ty.Ty.{Ty}
use Rattle.srb_terms.specs.declared.ty.Ty.TheVariants as ty
use Rattle.srb_terms.specs.declared.ty.Ty.TheVariants.{rolls-Class}
use Rattle.srb_terms.specs.declared.ty.Ty.TheOpen.{Ty-F}
use Rattle.srb_terms.specs.declared.ty.Ty.TheViews.{roll-Ty}
use Rattle.srb_terms.specs.declared.ty.Ty.TheFolds.{map-Ty, ind-Ty}
use Rattle.srb_shapes.specs.Lineages.{Lineage, Has, IsLineage, is_class, object_lin}
use Rattle.srb_shapes.specs.Comparing.{holds_at, holds, is_nothing, is_below, is_meta_below, is_object, is_array, is_hash, is_all_below, within_at, within}
use Rattle.srb_shapes.specs.Shapes.{Shape, Shapes, instance_of, object_of, array_of, hash_of, unknown, none, more, each_shape, IsShape, AreShapes, is_in_class, is_in_meta, is_in_array, is_in_hash, belongs_at, belongs}
use Rattle.srb_shapes.proofs.Steps.{holds_roll, within_roll}
use Rattle.srb_shapes_laws.proofs.Bools.{either, or-cases, or-right, or-map, and-both, and-first, and-second, and-map, same-name}
use Rattle.srb_shapes_laws.proofs.Equations.{belongs_roll}

-- ---- one shape in the other type, gone through by a test

module _ (L : Lineage) (test : Ty-F Ty → Bool) (s : Shape)
    (leaf : (q : Ty-F Ty) → IsTrue (test q) → IsTrue (belongs_at (belongs true L) true L q s)) where
  Reached : Ty → Type 0
  Reached u = IsTrue (holds test u) → IsTrue (belongs true L u s)

  abbrev Reach : Type 0
  Reach = (u : Ty) × (IsTrue (holds test u) → IsTrue (belongs true L u s))

  some-reached : (ps : List Reach) → IsTrue (list_any (holds test) (map (λ (p : Reach). p.0) ps)) → IsTrue (list_any (λ t. belongs true L t s) (map (λ (p : Reach). p.0) ps))
  some-reached [] h = h
  some-reached (p ∷ ps) h = or-map _ _ _ _ p.1 (some-reached ps) h

  all-reached : (ps : List Reach) → IsTrue (list_all (holds test) (map (λ (p : Reach). p.0) ps)) → IsTrue (list_all (λ t. belongs true L t s) (map (λ (p : Reach). p.0) ps))
  all-reached [] h = h
  all-reached (p ∷ ps) h = and-map _ _ _ _ p.1 (all-reached ps) h

  layer-reached : (y : Ty-F Reach) → IsTrue (holds_at (λ t. t) (holds test) test (map-Ty Reach Ty (λ (p : Reach). p.0) y))
      → IsTrue (belongs_at (belongs true L) true L (map-Ty Reach Ty (λ (p : Reach). p.0) y) s)
  layer-reached Ty-F.Untyped h = refl
  layer-reached Ty-F.Never h = h
  layer-reached (Ty-F.Class d) h = leaf (Ty-F.Class d) h
  layer-reached (Ty-F.Meta d) h = leaf (Ty-F.Meta d) h
  layer-reached (Ty-F.Arr e) h = leaf (Ty-F.Arr e.0) h
  layer-reached (Ty-F.Hsh k v) h = leaf (Ty-F.Hsh k.0 v.0) h
  layer-reached (Ty-F.Any ps) h = some-reached ps h
  layer-reached (Ty-F.All ps) h = all-reached ps h

  type-reached : (y : Ty-F Reach) → IsTrue (holds test (roll-Ty (map-Ty Reach Ty (λ (p : Reach). p.0) y)))
      → IsTrue (belongs true L (roll-Ty (map-Ty Reach Ty (λ (p : Reach). p.0) y)) s)
  type-reached y h = belongs_roll true L (map-Ty Reach Ty (λ (p : Reach). p.0) y) s
      ∙ layer-reached y (sym (holds_roll test (map-Ty Reach Ty (λ (p : Reach). p.0) y)) ∙ h)

  reached : (u : Ty) → IsTrue (holds test u) → IsTrue (belongs true L u s)
  reached = ind-Ty (λ u. IsTrue (holds test u) → IsTrue (belongs true L u s))
      (λ x y is. subst (λ z. IsTrue (holds test (roll-Ty z)) → IsTrue (belongs true L (roll-Ty z) s)) is (type-reached y))

-- ---- one part against another

kind-of-class : (k : Option Kind) → IsTrue (is_class k) → k ≡ Some kind.Class
kind-of-class None h = cc
kind-of-class (Some kind.Class) h = refl
kind-of-class (Some kind.Module) h = cc
kind-of-class (Some kind.Value) h = cc

module _ (L : Lineage) (laws : IsLineage L) where
  object-up : (c d : List ℕ) (k : Option Kind) → Has (object_lin L k) c → Has (L.lin c) d → Has (object_lin L k) d
  object-up c d None h b = h
  object-up c d (Some kind.Class) h b = laws.closed (codes "Class") c d h b
  object-up c d (Some kind.Module) h b = laws.closed (codes "Module") c d h b
  object-up c d (Some kind.Value) h b = h

  class-up : (extra : Bool) (c d : List ℕ) (s : Shape) → IsShape extra L s → IsTrue (is_in_class L c s) → Has (L.lin c) d → IsTrue (is_in_class L d s)
  class-up extra c d (instance_of names) v h b = v.closed c d h b
  class-up extra c d (object_of e) v h b = object-up c d (L.kind e) h b
  class-up extra c d (array_of elements) v h b = laws.closed (codes "Array") c d h b
  class-up extra c d (hash_of keys values) v h b = laws.closed (codes "Hash") c d h b
  class-up extra c d unknown v h b = h

  -- a class object of a class that inherits from d is an instance of what that of d is an instance of
  object-below : (e d c : List ℕ) → IsTrue (is_meta_below L e d) → Has (object_lin L (L.kind d)) c → Has (object_lin L (L.kind e)) c
  object-below e d c h b = go (or-cases (bytes_eq e d) _ h)
    where
      go : IsTrue (bytes_eq e d) ⊎ IsTrue (is_class (L.kind e) && (is_class (L.kind d) && has_name d (L.lin e))) → Has (object_lin L (L.kind e)) c
      go (inl same) = subst (λ x. Has (object_lin L (L.kind x)) c) (sym (same-name e d same)) b
      go (inr both) = subst (λ k. Has (object_lin L k) c)
          (kind-of-class (L.kind d) (and-first _ _ (and-second (is_class (L.kind e)) _ both)) ∙ sym (kind-of-class (L.kind e) (and-first _ _ both))) b

  meta-up : (e d c : List ℕ) → IsTrue (is_meta_below L e d) → IsTrue (is_meta_below L d c) → IsTrue (is_meta_below L e c)
  meta-up e d c h b = go (or-cases (bytes_eq e d) _ h) (or-cases (bytes_eq d c) _ b)
    where
      go : IsTrue (bytes_eq e d) ⊎ IsTrue (is_class (L.kind e) && (is_class (L.kind d) && has_name d (L.lin e)))
          → IsTrue (bytes_eq d c) ⊎ IsTrue (is_class (L.kind d) && (is_class (L.kind c) && has_name c (L.lin d))) → IsTrue (is_meta_below L e c)
      go (inl same) other = subst (λ x. IsTrue (is_meta_below L x c)) (sym (same-name e d same)) b
      go (inr both) (inl same) = subst (λ x. IsTrue (is_meta_below L e x)) (same-name d c same) h
      go (inr both) (inr others) = or-right (bytes_eq e c) _ (and-both (is_class (L.kind e)) _ (and-first _ _ both)
          (and-both (is_class (L.kind c)) _ (and-first _ _ (and-second (is_class (L.kind d)) _ others))
          (laws.closed e d c (and-second (is_class (L.kind d)) _ (and-second (is_class (L.kind e)) _ both))
          (and-second (is_class (L.kind c)) _ (and-second (is_class (L.kind d)) _ others)))))

  class-leaf : (extra : Bool) (c : List ℕ) (s : Shape) → IsShape extra L s → IsTrue (is_in_class L c s) →
      (q : Ty-F Ty) → IsTrue (is_below (L.lin c) q) → IsTrue (belongs_at (belongs true L) true L q s)
  class-leaf extra c s v h (Ty-F.Class d) b = class-up extra c d s v h b
  class-leaf extra c s v h q b = cc

  meta-leaf : (d : List ℕ) (s : Shape) → IsTrue (is_in_meta L d s) →
      (q : Ty-F Ty) → IsTrue (is_object L d q) → IsTrue (belongs_at (belongs true L) true L q s)
  meta-leaf d (object_of e) h (Ty-F.Class c) b = object-below e d c h b
  meta-leaf d (object_of e) h (Ty-F.Meta c) b = meta-up e d c h b
  meta-leaf d (object_of e) h q b = cc
  meta-leaf d s h q b = cc

  -- ---- types

  module _ (extra : Bool) where
    abbrev IsSound : Ty → Type 0
    IsSound t = (u : Ty) (s : Shape) → IsShape extra L s → IsTrue (belongs extra L t s) → IsTrue (within extra L t u) → IsTrue (belongs true L u s)

    abbrev Sound : Type 0
    Sound = (t : Ty) × ((u : Ty) (s : Shape) → IsShape extra L s → IsTrue (belongs extra L t s) → IsTrue (within extra L t u) → IsTrue (belongs true L u s))

    abbrev it : Sound → Ty
    it e = e.0

    each-sound : (e : Sound) (f : Ty) → IsTrue (within extra L e.0 f) → (set : Shapes) → AreShapes extra L set →
        IsTrue (each_shape (belongs extra L e.0) set) → IsTrue (each_shape (belongs true L f) set)
    each-sound e f w none v h = h
    each-sound e f w (more s set) v h =
        and-both (belongs true L f s) _ (e.1 f s v.0 (and-first _ _ h) w) (each-sound e f w set v.1 (and-second (belongs extra L e.0 s) _ h))

    array-leaf : (e : Sound) (s : Shape) → IsShape extra L s → IsTrue (is_in_array (belongs extra L e.0) s) →
        (q : Ty-F Ty) → IsTrue (is_array L (within extra L e.0) q) → IsTrue (belongs_at (belongs true L) true L q s)
    array-leaf e (array_of set) v h (Ty-F.Arr f) b = each-sound e f b set v h
    array-leaf e (array_of set) v h (Ty-F.Class c) b = b
    array-leaf e (array_of set) v h q b = cc
    array-leaf e s v h q b = cc

    hash-leaf : (k m : Sound) (s : Shape) → IsShape extra L s → IsTrue (is_in_hash (belongs extra L k.0) (belongs extra L m.0) s) →
        (q : Ty-F Ty) → IsTrue (is_hash L (within extra L k.0) (within extra L m.0) q) → IsTrue (belongs_at (belongs true L) true L q s)
    hash-leaf k m (hash_of keys values) v h (Ty-F.Hsh f g) b = and-both (each_shape (belongs true L f) keys) _
        (each-sound k f (and-first _ _ b) keys v.0 (and-first _ _ h))
        (each-sound m g (and-second (within extra L k.0 f) _ b) values v.1 (and-second (each_shape (belongs extra L k.0) keys) _ h))
    hash-leaf k m (hash_of keys values) v h (Ty-F.Class c) b = b
    hash-leaf k m (hash_of keys values) v h q b = cc
    hash-leaf k m s v h q b = cc

    in-class : (d : List ℕ) (s : Shape) → IsTrue (belongs true L (ty.Class d) s) → IsTrue (is_in_class L d s)
    in-class d s h = sym (ap (λ t. belongs true L t s) (sym (rolls-Class d)) ∙ belongs_roll true L (Ty-F.Class d) s) ∙ h

    member-sound : (d : List ℕ) (s : Shape) → IsShape extra L s → (ms : List Sound) →
        IsTrue (list_all (λ t. belongs extra L t s) (map it ms)) → IsTrue (list_any (λ t. within extra L t (ty.Class d)) (map it ms)) → IsTrue (is_in_class L d s)
    member-sound d s v [] h b = cc
    member-sound d s v (m ∷ ms) h b = either
        (λ w. in-class d s (m.1 (ty.Class d) s v (and-first _ _ h) w))
        (λ w. member-sound d s v ms (and-second (belongs extra L m.0 s) _ h) w)
        (or-cases (within extra L m.0 (ty.Class d)) _ b)

    all-leaf : (ms : List Sound) (s : Shape) → IsShape extra L s → IsTrue (list_all (λ t. belongs extra L t s) (map it ms)) →
        (q : Ty-F Ty) → IsTrue (is_all_below (within extra L) (map it ms) q) → IsTrue (belongs_at (belongs true L) true L q s)
    all-leaf ms s v h (Ty-F.Class d) b = member-sound d s v ms h b
    all-leaf ms s v h q b = cc

    part-sound : (u : Ty) (s : Shape) → IsShape extra L s → (ps : List Sound) →
        IsTrue (list_any (λ t. belongs extra L t s) (map it ps)) → IsTrue (list_all (λ t. within extra L t u) (map it ps)) → IsTrue (belongs true L u s)
    part-sound u s v [] h b = cc
    part-sound u s v (p ∷ ps) h b = either
        (λ k. p.1 u s v k (and-first _ _ b))
        (λ k. part-sound u s v ps k (and-second (within extra L p.0 u) _ b))
        (or-cases (belongs extra L p.0 s) _ h)

  nothing-leaf : (s : Shape) (q : Ty-F Ty) → IsTrue (is_nothing q) → IsTrue (belongs_at (belongs true L) true L q s)
  nothing-leaf s q b = cc

  untyped-sound : (extra : Bool) (u : Ty) (s : Shape) → IsTrue extra → IsTrue (if extra then holds is_nothing u else true) → IsTrue (belongs true L u s)
  untyped-sound true u s h w = reached L is_nothing s (nothing-leaf s) u w
  untyped-sound false u s h w = cc

  layer-sound : (extra : Bool) (y : Ty-F (Sound extra)) (u : Ty) (s : Shape) → IsShape extra L s
      → IsTrue (belongs_at (belongs extra L) extra L (map-Ty (Sound extra) Ty (it extra) y) s)
      → IsTrue (within_at (within extra L) extra L (map-Ty (Sound extra) Ty (it extra) y) u) → IsTrue (belongs true L u s)
  layer-sound extra Ty-F.Untyped u s v h w = untyped-sound extra u s h w
  layer-sound extra Ty-F.Never u s v h w = cc
  layer-sound extra (Ty-F.Class c) u s v h w = reached L (is_below (L.lin c)) s (class-leaf extra c s v h) u w
  layer-sound extra (Ty-F.Meta d) u s v h w = reached L (is_object L d) s (meta-leaf d s h) u w
  layer-sound extra (Ty-F.Arr e) u s v h w = reached L (is_array L (within extra L e.0)) s (array-leaf extra e s v h) u w
  layer-sound extra (Ty-F.Hsh k m) u s v h w = reached L (is_hash L (within extra L k.0) (within extra L m.0)) s (hash-leaf extra k m s v h) u w
  layer-sound extra (Ty-F.Any ps) u s v h w = part-sound extra u s v ps h w
  layer-sound extra (Ty-F.All ms) u s v h w = reached L (is_all_below (within extra L) (map (it extra) ms)) s (all-leaf extra ms s v h) u w

  type-sound : (extra : Bool) (y : Ty-F (Sound extra)) → IsSound extra (roll-Ty (map-Ty (Sound extra) Ty (it extra) y))
  type-sound extra y u s v h w = layer-sound extra y u s v
      (sym (belongs_roll extra L (map-Ty (Sound extra) Ty (it extra) y) s) ∙ h)
      (sym (within_roll extra L (map-Ty (Sound extra) Ty (it extra) y) u) ∙ w)

  pub sound : (extra : Bool) (t : Ty) → IsSound extra t
  sound extra = ind-Ty (IsSound extra) (λ x y is. subst (λ z. IsSound extra (roll-Ty z)) is (type-sound extra y))
