-- Of two parts to which one shape belongs one lies in the other, where they aren't both named and don't both hold types.
use Rattle.std.proofs.Common.{◌≡◌, ℕ, ◌⊎◌, Bool, true, false, ◌&&◌, List, [], ◌∷◌, Option, Some, None, inl, inr, refl, sym, ap, subst, ◌∙◌, bytes_eq, if◌then◌else◌}
use Rattle.std.specs.Bool.{IsTrue}
use Rattle.std.specs.List.{list_all}
use Rattle.srb_terms.specs.declared.fact.Kind.{Kind}
use Rattle.srb_terms.specs.declared.fact.Kind.TheVariants as kind
use Rattle.srb_terms.specs.declared.ty.Ty.{Ty, out-Ty}
use Rattle.srb_terms.specs.declared.ty.Ty.TheOpen.{Ty-F}
use Rattle.srb_shapes.specs.Comparing.{holds_at, holds, is_meta_below, test_of, within, lies_in}
use Rattle.srb_shapes.specs.Lineages.{Lineage, IsLineage, Has, object_lin, is_class}
use Rattle.srb_shapes.specs.Shapes.{Shape, object_of, array_of, hash_of, IsShape, is_in_class, is_in_meta, is_in_array, is_in_hash, belongs_at, belongs}
use Rattle.srb_shapes.proofs.Variants.{holds-class}
use Rattle.srb_shapes_laws.proofs.Bools.{either, and-both, and-first, and-second, or-right, by-test, or-cases, same-name}
use Rattle.srb_shapes_laws.proofs.Sound.{sound}
use Rattle.srb_shapes_laws.proofs.Equations.{belongs_is}
use Rattle.srb_types.specs.Normal.{names_at, names_of, inner_part, meet_named, meet_plain}
use Rattle.srb_types_laws.specs.NormalForms.{Among, is_part, is_part_at}
use Rattle.srb_types_laws.proofs.Elements.{among-all}
use Rattle.srb_types_laws.proofs.Joined.{same-answer}
use Rattle.srb_types_laws.proofs.Layers.{IsLayer}
use Rattle.srb_types_laws.proofs.Inclusions.{holds_is, part-test, member-is}
use Rattle.srb_types_laws.proofs.Named.{class-has, InMet, IsNamed, meet-names-has, class-named, all-named}

-- classes, modules and intersections of them
abbrev pub is_named_at : Ty-F Ty → Bool
is_named_at (Ty-F.Class c) = true
is_named_at (Ty-F.All ms) = true
is_named_at _ = false

-- class objects, arrays and hashes
abbrev pub is_other_at : Ty-F Ty → Bool
is_other_at (Ty-F.Meta c) = true
is_other_at (Ty-F.Arr e) = true
is_other_at (Ty-F.Hsh k v) = true
is_other_at _ = false

-- two arrays or two hashes
abbrev pub both_hold : Ty-F Ty → Ty-F Ty → Bool
both_hold (Ty-F.Arr e) (Ty-F.Arr f) = true
both_hold (Ty-F.Hsh k v) (Ty-F.Hsh l w) = true
both_hold _ _ = false

part-other : (x : Ty-F Ty) → IsTrue (is_part_at x) → is_named_at x ≡ false → IsTrue (is_other_at x)
part-other (Ty-F.Meta c) p n = refl
part-other (Ty-F.Arr e) p n = refl
part-other (Ty-F.Hsh k v) p n = refl
part-other x p n = cc

kind-class : (k : Option Kind) → IsTrue (is_class k) → k ≡ Some kind.Class
kind-class None h = cc
kind-class (Some kind.Class) h = refl
kind-class (Some kind.Module) h = cc
kind-class (Some kind.Value) h = cc

all-from-among : {A : Type 0} (f : A → Bool) (xs : List A) → ((x : A) → Among x xs → IsTrue (f x)) → IsTrue (list_all f xs)
all-from-among f [] h = refl
all-from-among f (x ∷ xs) h = and-both (f x) _ (h x (inl refl)) (all-from-among f xs (λ y a. h y (inr a)))

meta-array : (L : Lineage) (c : List ℕ) (f : Shape → Bool) (s : Shape) → IsTrue (is_in_meta L c s) → IsTrue (is_in_array f s) → ⊥
meta-array L c f (object_of d) h k = cc
meta-array L c f s h k = cc

meta-hash : (L : Lineage) (c : List ℕ) (f g : Shape → Bool) (s : Shape) → IsTrue (is_in_meta L c s) → IsTrue (is_in_hash f g s) → ⊥
meta-hash L c f g (object_of d) h k = cc
meta-hash L c f g s h k = cc

array-hash : (e f g : Shape → Bool) (s : Shape) → IsTrue (is_in_array e s) → IsTrue (is_in_hash f g s) → ⊥
array-hash e f g (array_of set) h k = cc
array-hash e f g s h k = cc

module _ (L : Lineage) (laws : IsLineage L) where
  abbrev Test : Ty-F Ty → Ty-F Ty → Bool
  Test x = test_of (within true L) L x

  -- what a class object is an instance of, the class object of what it inherits from is one of too
  object-class : (e c d : List ℕ) → IsTrue (is_meta_below L e c) → Has (object_lin L (L.kind e)) d → Has (object_lin L (L.kind c)) d
  object-class e c d h k = either
      (λ same. subst (λ n. Has (object_lin L (L.kind n)) d) (same-name e c same) k)
      (λ both. subst (λ o. Has (object_lin L o) d)
      (kind-class (L.kind e) (and-first _ _ both) ∙ sym (kind-class (L.kind c) (and-first _ _ (and-second (is_class (L.kind e)) _ both)))) k)
      (or-cases (bytes_eq e c) _ h)

  class-test : (x : Ty-F Ty) → IsTrue (is_other_at x) → (s : Shape) → IsTrue (belongs_at (belongs true L) true L x s) → (d : List ℕ) → IsTrue (is_in_class L d s)
      → IsTrue (test_of (within true L) L x (Ty-F.Class d))
  class-test (Ty-F.Meta c) o (object_of e) h d k = object-class e c d h k
  class-test (Ty-F.Meta c) o s h d k = cc
  class-test (Ty-F.Arr e) o (array_of set) h d k = k
  class-test (Ty-F.Arr e) o s h d k = cc
  class-test (Ty-F.Hsh a b) o (hash_of keys values) h d k = k
  class-test (Ty-F.Hsh a b) o s h d k = cc
  class-test x o s h d k = cc

  -- what shares a shape with classes and modules lies in them
  other-below : (x z : Ty-F Ty) → IsTrue (is_other_at x) → IsTrue (is_named_at z) → IsLayer L z → (s : Shape) → IsTrue (belongs_at (belongs true L) true L x s)
      → IsTrue (belongs_at (belongs true L) true L z s) → IsTrue (holds_at (λ t. t) (holds (Test x)) (Test x) z)
  other-below x (Ty-F.Class d) o n w s h k = class-test x o s h d k
  other-below x (Ty-F.All ms) o n w s h k = all-from-among (holds (Test x)) ms (λ m a.
      let c = member-is L ms w.fitting m a in
      holds-class (Test x) m c.0 c.1
      ∙ class-test x o s h c.0 (sym (ap (λ t. belongs true L t s) c.1 ∙ class-has true L c.0 s) ∙ among-all (λ t. belongs true L t s) m ms a k))
  other-below x z o n w s h k = cc

  meta-pair : (c d : List ℕ) (s : Shape) → IsTrue (is_in_meta L c s) → IsTrue (is_in_meta L d s) → IsTrue (is_meta_below L c d) ⊎ IsTrue (is_meta_below L d c)
  meta-pair c d (object_of e) h k = either
      (λ same. inl (subst (λ n. IsTrue (is_meta_below L n d)) (same-name e c same) k))
      (λ up. either
      (λ same. inr (subst (λ n. IsTrue (is_meta_below L n c)) (same-name e d same) h))
      (λ down. let
      ce = and-first _ _ (and-second (is_class (L.kind e)) _ up) in let
      de = and-first _ _ (and-second (is_class (L.kind e)) _ down) in
      either
      (λ l. inl (or-right (bytes_eq c d) _ (and-both (is_class (L.kind c)) _ ce (and-both (is_class (L.kind d)) _ de l))))
      (λ l. inr (or-right (bytes_eq d c) _ (and-both (is_class (L.kind d)) _ de (and-both (is_class (L.kind c)) _ ce l))))
      (laws.chain e c d (and-second (is_class (L.kind c)) _ (and-second (is_class (L.kind e)) _ up))
      (and-second (is_class (L.kind d)) _ (and-second (is_class (L.kind e)) _ down)) ce de))
      (or-cases (bytes_eq e d) _ k))
      (or-cases (bytes_eq e c) _ h)
  meta-pair c d s h k = cc

  other-pair : (x z : Ty-F Ty) → IsTrue (is_other_at x) → IsTrue (is_other_at z) → both_hold x z ≡ false → (s : Shape) → IsTrue (belongs_at (belongs true L) true L x s)
      → IsTrue (belongs_at (belongs true L) true L z s)
      → IsTrue (holds_at (λ t. t) (holds (Test x)) (Test x) z) ⊎ IsTrue (holds_at (λ t. t) (holds (Test z)) (Test z) x)
  other-pair (Ty-F.Meta c) (Ty-F.Meta d) o p b s h k = meta-pair c d s h k
  other-pair (Ty-F.Meta c) (Ty-F.Arr e) o p b s h k = absurd (meta-array L c (belongs true L e) s h k)
  other-pair (Ty-F.Meta c) (Ty-F.Hsh e f) o p b s h k = absurd (meta-hash L c (belongs true L e) (belongs true L f) s h k)
  other-pair (Ty-F.Arr e) (Ty-F.Meta c) o p b s h k = absurd (meta-array L c (belongs true L e) s k h)
  other-pair (Ty-F.Hsh e f) (Ty-F.Meta c) o p b s h k = absurd (meta-hash L c (belongs true L e) (belongs true L f) s k h)
  other-pair (Ty-F.Arr d) (Ty-F.Hsh e f) o p b s h k = absurd (array-hash (belongs true L d) (belongs true L e) (belongs true L f) s h k)
  other-pair (Ty-F.Hsh e f) (Ty-F.Arr d) o p b s h k = absurd (array-hash (belongs true L d) (belongs true L e) (belongs true L f) s k h)
  other-pair x z o p b s h k = cc

  comparable : (x z : Ty-F Ty) → IsTrue (is_part_at x) → IsTrue (is_part_at z) → (is_named_at x && is_named_at z) ≡ false → both_hold x z ≡ false → IsLayer L x → IsLayer L z
      → (s : Shape) → IsTrue (belongs_at (belongs true L) true L x s) → IsTrue (belongs_at (belongs true L) true L z s)
      → IsTrue (holds_at (λ t. t) (holds (Test x)) (Test x) z) ⊎ IsTrue (holds_at (λ t. t) (holds (Test z)) (Test z) x)
  comparable x z p q n b w v s h k = go (by-test (is_named_at x)) (by-test (is_named_at z))
    where
      both-named : (c d : Bool) → (c && d) ≡ false → c ≡ true → d ≡ true → ⊥
      both-named true true e f g = cc
      both-named true false e f g = cc
      both-named false d e f g = cc

      go : (is_named_at x ≡ true) ⊎ (is_named_at x ≡ false) → (is_named_at z ≡ true) ⊎ (is_named_at z ≡ false)
          → IsTrue (holds_at (λ t. t) (holds (Test x)) (Test x) z) ⊎ IsTrue (holds_at (λ t. t) (holds (Test z)) (Test z) x)
      go (inl e) (inl f) = absurd (both-named (is_named_at x) (is_named_at z) n e f)
      go (inl e) (inr f) = inr (other-below z x (part-other z q f) e w s k h)
      go (inr e) (inl f) = inl (other-below x z (part-other x p e) f v s h k)
      go (inr e) (inr f) = other-pair x z (part-other x p e) (part-other z q f) b s h k

  -- ---- the part that lies in the other one

  module _ (s : Shape) (valid : IsShape true L s) where
    inner-to : (p q : Ty) → IsTrue (InMet L laws s valid (inner_part L p q)) → IsTrue (belongs true L p s) × IsTrue (belongs true L q s)
    unfolding inner_part
    inner-to p q h = go (lies_in L p q) (lies_in L q p) refl refl h
      where
        go : (a b : Bool) → lies_in L p q ≡ a → lies_in L q p ≡ b → IsTrue (InMet L laws s valid (if a then Some p else (if b then Some q else None)))
            → IsTrue (belongs true L p s) × IsTrue (belongs true L q s)
        go true b e f k = (k, sound L laws true p q s valid k e)
        go false true e f k = (sound L laws true q p s valid k f, k)
        go false false e f k = cc

    inner-from : (p q : Ty) → IsTrue (lies_in L p q) ⊎ IsTrue (lies_in L q p) → IsTrue (belongs true L p s) → IsTrue (belongs true L q s) → IsTrue (InMet L laws s valid (inner_part L p q))
    unfolding inner_part
    inner-from p q o h k = go (lies_in L p q) (lies_in L q p) refl refl
      where
        go : (a b : Bool) → lies_in L p q ≡ a → lies_in L q p ≡ b → IsTrue (InMet L laws s valid (if a then Some p else (if b then Some q else None)))
        go true b e f = h
        go false true e f = k
        go false false e f = either (λ l. let m = sym l ∙ e in cc) (λ l. let m = sym l ∙ f in cc) o

    pub inner-has : (p q : Ty) → IsTrue (is_part p) → IsTrue (is_part q) → (is_named_at (out-Ty p) && is_named_at (out-Ty q)) ≡ false → both_hold (out-Ty p) (out-Ty q) ≡ false
        → IsLayer L (out-Ty p) → IsLayer L (out-Ty q) → InMet L laws s valid (inner_part L p q) ≡ (belongs true L p s && belongs true L q s)
    inner-has p q i j n b w v = same-answer (InMet L laws s valid (inner_part L p q)) (belongs true L p s && belongs true L q s)
        (λ h. let k = inner-to p q h in and-both (belongs true L p s) _ k.0 k.1)
        (λ h. inner-from p q (lies (and-first _ _ h) (and-second (belongs true L p s) _ h)) (and-first _ _ h) (and-second (belongs true L p s) _ h))
      where
        lies : IsTrue (belongs true L p s) → IsTrue (belongs true L q s) → IsTrue (lies_in L p q) ⊎ IsTrue (lies_in L q p)
        lies h k = either
            (λ l. inl (part-test true L p q i ∙ holds_is (Test (out-Ty p)) q ∙ l))
            (λ l. inr (part-test true L q p j ∙ holds_is (Test (out-Ty q)) p ∙ l))
            (comparable (out-Ty p) (out-Ty q) i j n b w v s (sym (belongs_is true L p s) ∙ h) (sym (belongs_is true L q s) ∙ k))

    -- ---- parts with names

    no-names : (x : Ty-F Ty) → is_named_at x ≡ false → names_at x ≡ None
    no-names (Ty-F.Class c) h = cc
    no-names (Ty-F.All ms) h = cc
    no-names Ty-F.Untyped h = refl
    no-names Ty-F.Never h = refl
    no-names (Ty-F.Meta c) h = refl
    no-names (Ty-F.Arr e) h = refl
    no-names (Ty-F.Hsh k v) h = refl
    no-names (Ty-F.Any ps) h = refl

    some-names : (t : Ty) (x : Ty-F Ty) → out-Ty t ≡ x → is_named_at x ≡ true → IsLayer L x → (cs : List (List ℕ)) × (names_of t ≡ Some cs) × IsNamed L laws s valid t cs
    some-names t (Ty-F.Class c) e n w = let k = class-named L laws s valid t c e in (c ∷ [], k.0, k.1)
    some-names t (Ty-F.All ms) e n w = all-named L laws s valid t ms e w
    some-names t Ty-F.Untyped e n w = cc
    some-names t Ty-F.Never e n w = cc
    some-names t (Ty-F.Meta c) e n w = cc
    some-names t (Ty-F.Arr d) e n w = cc
    some-names t (Ty-F.Hsh k v) e n w = cc
    some-names t (Ty-F.Any ps) e n w = cc

    one-unnamed : (p q : Ty) (a b : Option (List (List ℕ))) → (a ≡ None) ⊎ (b ≡ None) → meet_named L p q a b ≡ inner_part L p q
    one-unnamed p q None None o = refl
    one-unnamed p q None (Some b) o = refl
    one-unnamed p q (Some a) None o = refl
    one-unnamed p q (Some a) (Some b) (inl e) = cc
    one-unnamed p q (Some a) (Some b) (inr e) = cc

    -- the meet of two parts that don't both hold types has exactly the shapes of both
    pub plain-has : (p q : Ty) → IsTrue (is_part p) → IsTrue (is_part q) → both_hold (out-Ty p) (out-Ty q) ≡ false
        → IsLayer L (out-Ty p) → IsLayer L (out-Ty q) → InMet L laws s valid (meet_plain L p q) ≡ (belongs true L p s && belongs true L q s)
    unfolding meet_plain names_of
    plain-has p q i j b w v = go (by-test (is_named_at (out-Ty p))) (by-test (is_named_at (out-Ty q)))
      where
        and-right : (c d : Bool) → d ≡ false → (c && d) ≡ false
        and-right true d e = e
        and-right false d e = refl

        go : (is_named_at (out-Ty p) ≡ true) ⊎ (is_named_at (out-Ty p) ≡ false) → (is_named_at (out-Ty q) ≡ true) ⊎ (is_named_at (out-Ty q) ≡ false)
            → InMet L laws s valid (meet_named L p q (names_at (out-Ty p)) (names_at (out-Ty q))) ≡ (belongs true L p s && belongs true L q s)
        go (inl e) (inl f) = let
            m = some-names p (out-Ty p) refl e w in let
            n = some-names q (out-Ty q) refl f v in let
            mh = m.2 in let
            nh = n.2 in
            (λ k. InMet L laws s valid (meet_named L p q (m.1 k) (n.1 k))) ∙ meet-names-has L laws s valid m.0 n.0 mh.apart
            ∙ (λ k. sym mh.has k && sym nh.has k)
        go (inl e) (inr f) = ap (InMet L laws s valid) (one-unnamed p q (names_at (out-Ty p)) (names_at (out-Ty q)) (inr (no-names (out-Ty q) f)))
            ∙ inner-has p q i j (and-right (is_named_at (out-Ty p)) (is_named_at (out-Ty q)) f) b w v
        go (inr e) o = ap (InMet L laws s valid) (one-unnamed p q (names_at (out-Ty p)) (names_at (out-Ty q)) (inl (no-names (out-Ty p) e)))
            ∙ inner-has p q i j (ap (λ c. c && is_named_at (out-Ty q)) e) b w v
