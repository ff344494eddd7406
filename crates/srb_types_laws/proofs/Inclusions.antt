-- A type lies in another where its parts lie in parts of the other one.
use Rattle.std.proofs.Common.{◌≡◌, ℕ, Bool, true, false, ◌&&◌, List, [], ◌∷◌, map, inl, inr, refl, sym, ap, subst, ◌∙◌}
use Rattle.std.specs.Bool.{IsTrue}
use Rattle.std.specs.List.{list_all}
use Rattle.srb_terms.specs.NameSets.{has_name}
use Rattle.srb_terms.specs.declared.ty.Ty.{Ty, out-Ty}
use Rattle.srb_terms.specs.declared.ty.Ty.TheOpen.{Ty-F}
use Rattle.srb_terms.specs.declared.ty.Ty.TheVariants as ty
use Rattle.srb_terms.specs.declared.ty.Ty.TheVariants.{rolls-Untyped, rolls-Never, rolls-Class, rolls-Any}
use Rattle.srb_terms.specs.declared.ty.Ty.TheViews.{roll-Ty, roll-out-Ty}
use Rattle.srb_shapes.specs.Comparing.{holds_at, holds, is_below, test_of, within_at, within, lies_in}
use Rattle.srb_shapes.specs.Lineages.{Lineage, IsLineage, is_body}
use Rattle.srb_shapes.specs.Parts.{of_parts, parts_at, parts_of}
use Rattle.srb_shapes.specs.Shapes.{unknown, belongs_at, belongs, name_at, name_of, go_together, all_together, fits_at, fits}
use Rattle.srb_shapes.proofs.Steps.{holds_roll, within_roll}
use Rattle.srb_shapes.proofs.Variants.{holds-class, within-class}
use Rattle.srb_shapes_laws.proofs.Bools.{either, and-first, and-second, by-test}
use Rattle.srb_shapes_laws.proofs.Equations.{belongs_roll, belongs_is, fits_roll}
use Rattle.srb_shapes_laws.proofs.Sound.{sound}
use Rattle.srb_shapes_laws.proofs.Complete.{complete}
use Rattle.srb_types.specs.Normal.{is_untyped_at, is_untyped}
use Rattle.srb_types.specs.Shown.{shown}
use Rattle.srb_types_laws.specs.NormalForms.{Among, is_part, is_part_at, is_arranged_at, is_arranged}
use Rattle.srb_types_laws.proofs.Elements.{among-all, some-among, among-mapped}
use Rattle.srb_types_laws.proofs.Layers.{arranged_is, fits_is, shown_roll}
use Rattle.srb_types_laws.proofs.Joined.{has-parts}
use Rattle.srb_types_laws.proofs.Parts.{IsWell, parts-well}

-- ---- by layers

pub holds_is : (test : Ty-F Ty → Bool) (t : Ty) → holds test t ≡ holds_at (λ u. u) (holds test) test (out-Ty t)
holds_is test t = ap (holds test) (sym (roll-out-Ty t)) ∙ holds_roll test (out-Ty t)

pub within_is : (extra : Bool) (L : Lineage) (t u : Ty) → within extra L t u ≡ within_at (within extra L) extra L (out-Ty t) u
within_is extra L t u = ap (λ x. within extra L x u) (sym (roll-out-Ty t)) ∙ within_roll extra L (out-Ty t) u

pub part-within : (extra : Bool) (L : Lineage) (x : Ty-F Ty) (u : Ty) → IsTrue (is_part_at x) → within_at (within extra L) extra L x u ≡ holds (test_of (within extra L) L x) u
part-within extra L Ty-F.Untyped u h = cc
part-within extra L Ty-F.Never u h = cc
part-within extra L (Ty-F.Any ps) u h = cc
part-within extra L (Ty-F.Class c) u h = refl
part-within extra L (Ty-F.Meta c) u h = refl
part-within extra L (Ty-F.Arr e) u h = refl
part-within extra L (Ty-F.Hsh k v) u h = refl
part-within extra L (Ty-F.All ms) u h = refl

-- what a part lies in goes by its test
pub part-test : (extra : Bool) (L : Lineage) (p u : Ty) → IsTrue (is_part p) → within extra L p u ≡ holds (test_of (within extra L) L (out-Ty p)) u
part-test extra L p u h = within_is extra L p u ∙ part-within extra L (out-Ty p) u h

-- ---- parts of both

-- each part of a type lies where the type does
pub lies-parts : (extra : Bool) (L : Lineage) (t u : Ty) → IsTrue (within extra L t u) → (p : Ty) → Among p (parts_of t) → IsTrue (within extra L p u)
unfolding parts_of
lies-parts extra L t u h p a = go (out-Ty t) refl a
  where
    alone : Among p (t ∷ []) → IsTrue (within extra L p u)
    alone (inl e) = subst (λ x. IsTrue (within extra L x u)) e h
    alone (inr k) = absurd k

    go : (x : Ty-F Ty) → out-Ty t ≡ x → Among p (parts_at t x) → IsTrue (within extra L p u)
    go Ty-F.Never e b = absurd b
    go (Ty-F.Any ps) e b = among-all (λ q. within extra L q u) p ps b (sym (within_is extra L t u ∙ ap (λ y. within_at (within extra L) extra L y u) e) ∙ h)
    go Ty-F.Untyped e b = alone b
    go (Ty-F.Class c) e b = alone b
    go (Ty-F.Meta c) e b = alone b
    go (Ty-F.Arr c) e b = alone b
    go (Ty-F.Hsh k v) e b = alone b
    go (Ty-F.All ms) e b = alone b

-- and a part lies in a part of what it lies in
pub part-lies : (extra : Bool) (L : Lineage) (p u : Ty) → IsTrue (is_part p) → IsTrue (within extra L p u) → (q : Ty) × Among q (parts_of u) × IsTrue (within extra L p q)
unfolding parts_of
part-lies extra L p u part h = go (out-Ty u) refl
  where
    go : (x : Ty-F Ty) → out-Ty u ≡ x → (q : Ty) × Among q (parts_at u x) × IsTrue (within extra L p q)
    go Ty-F.Never e = let
        test = test_of (within extra L) L (out-Ty p) in let
        f = part-test extra L p u part ∙ holds_is test u ∙ ap (holds_at (λ t. t) (holds test) test) e in cc
    go (Ty-F.Any ps) e = let
        test = test_of (within extra L) L (out-Ty p) in let
        f = part-test extra L p u part ∙ holds_is test u ∙ ap (holds_at (λ t. t) (holds test) test) e in let
        s = some-among (holds test) ps (sym f ∙ h) in (s.0, s.1, part-test extra L p s.0 part ∙ s.2)
    go Ty-F.Untyped e = (u, inl refl, h)
    go (Ty-F.Class c) e = (u, inl refl, h)
    go (Ty-F.Meta c) e = (u, inl refl, h)
    go (Ty-F.Arr c) e = (u, inl refl, h)
    go (Ty-F.Hsh k v) e = (u, inl refl, h)
    go (Ty-F.All ms) e = (u, inl refl, h)

-- ---- members of intersections

-- the members are classes and modules
pub member-is : (L : Lineage) (ms : List Ty) → IsTrue (all_together L (map name_of ms)) → (m : Ty) → Among m ms
    → (c : List ℕ) × (m ≡ ty.Class c) × IsTrue (is_body (L.kind c))
member-is L ms together m a = go (out-Ty m) refl (let
    b = among-mapped name_of m ms a in
    among-all (go_together L (name_of m)) (name_of m) (map name_of ms) b
    (among-all (λ n. list_all (go_together L n) (map name_of ms)) (name_of m) (map name_of ms) b together))
  where
    go : (x : Ty-F Ty) → out-Ty m ≡ x → IsTrue (go_together L (name_at x) (name_at x)) → (c : List ℕ) × (m ≡ ty.Class c) × IsTrue (is_body (L.kind c))
    go (Ty-F.Class c) e h = (c, sym (roll-out-Ty m) ∙ ap roll-Ty e ∙ rolls-Class c, and-first _ _ h)
    go Ty-F.Untyped e h = cc
    go Ty-F.Never e h = cc
    go (Ty-F.Meta c) e h = cc
    go (Ty-F.Arr c) e h = cc
    go (Ty-F.Hsh k v) e h = cc
    go (Ty-F.Any ps) e h = cc
    go (Ty-F.All ns) e h = cc

-- the text of a class or module is its name
pub class-shown : (c : List ℕ) → shown (ty.Class c) ≡ c
class-shown c = ap shown (sym (rolls-Class c)) ∙ shown_roll (Ty-F.Class c)

pub member-text : (L : Lineage) (ms ns : List Ty) → IsTrue (all_together L (map name_of ms)) → IsTrue (all_together L (map name_of ns))
    → (m n : Ty) → Among m ms → Among n ns → shown m ≡ shown n → m ≡ n
member-text L ms ns p q m n a b e = let
    c = member-is L ms p m a in let
    d = member-is L ns q n b in
    c.1 ∙ ap (λ x. ty.Class x) (sym (class-shown c.0) ∙ sym (ap shown c.1) ∙ e ∙ ap shown d.1 ∙ class-shown d.0) ∙ sym d.1

pub class-fits : (L : Lineage) (c : List ℕ) → fits L (ty.Class c) ≡ is_body (L.kind c)
class-fits L c = ap (fits L) (sym (rolls-Class c)) ∙ fits_roll L (Ty-F.Class c)

pub member-fits : (L : Lineage) (ms : List Ty) → IsTrue (all_together L (map name_of ms)) → (m : Ty) → Among m ms → IsTrue (fits L m)
member-fits L ms together m a = let k = member-is L ms together m a in ap (fits L) k.1 ∙ class-fits L k.0 ∙ k.2

pub class-within : (extra : Bool) (L : Lineage) (c : List ℕ) (u : Ty) → within extra L (ty.Class c) u ≡ holds (is_below (L.lin c)) u
class-within extra L c u = within-class extra L (ty.Class c) u c refl

pub class-lies : (extra : Bool) (L : Lineage) (c d : List ℕ) → within extra L (ty.Class c) (ty.Class d) ≡ has_name d (L.lin c)
class-lies extra L c d = class-within extra L c (ty.Class d) ∙ holds-class (is_below (L.lin c)) (ty.Class d) d refl

-- ---- by shapes

module _ (L : Lineage) (laws : IsLineage L) where
  pub lies-itself : (t : Ty) → IsTrue (fits L t) → IsTrue (lies_in L t t)
  lies-itself t fit = either (λ w. w) (λ f. let c = complete true L laws t fit t f in absurd (c.outside c.inside)) (by-test (lies_in L t t))

  pub lies-chain : (t u v : Ty) → IsTrue (fits L t) → IsTrue (lies_in L t u) → IsTrue (lies_in L u v) → IsTrue (lies_in L t v)
  lies-chain t u v fit h k = either (λ w. w)
      (λ f. let c = complete true L laws t fit v f in
      absurd (c.outside (sound L laws true u v c.shape c.valid (sound L laws true t u c.shape c.valid c.inside h) k)))
      (by-test (lies_in L t v))

-- ---- what belongs to `T.untyped` alone

part-knows : (L : Lineage) (x : Ty-F Ty) → IsTrue (is_part_at x) → IsTrue (fits_at (λ t. t) (fits L) L x) → IsTrue (is_arranged_at (λ t. t) (is_arranged L) L x)
    → belongs_at (belongs true L) true L x unknown ≡ false
part-knows L Ty-F.Untyped p w v = cc
part-knows L Ty-F.Never p w v = cc
part-knows L (Ty-F.Any ps) p w v = cc
part-knows L (Ty-F.Class c) p w v = refl
part-knows L (Ty-F.Meta c) p w v = refl
part-knows L (Ty-F.Arr e) p w v = refl
part-knows L (Ty-F.Hsh k m) p w v = refl
part-knows L (Ty-F.All []) p w v = cc
part-knows L (Ty-F.All (m ∷ ms)) p w v = let
    k = member-is L (m ∷ ms) w m (inl refl) in
    ap (λ b. b && list_all (λ t. belongs true L t unknown) ms)
    (ap (λ t. belongs true L t unknown) (k.1 ∙ sym (rolls-Class k.0)) ∙ belongs-class k.0)
  where
    belongs-class : (c : List ℕ) → belongs true L (roll-Ty (Ty-F.Class c)) unknown ≡ false
    belongs-class c = belongs_roll true L (Ty-F.Class c) unknown

pub typed-knows : (L : Lineage) (t : Ty) → IsWell L t → is_untyped t ≡ false → IsTrue (belongs true L t unknown) → ⊥
typed-knows L t w typed h = let
    a = parts-well L t w typed in let
    s = some-among (λ p. belongs true L p unknown) (parts_of t) (sym (has-parts true L unknown t) ∙ h) in let
    fit = among-all (fits L) s.0 (parts_of t) s.1 a.fitting in let
    arranged = among-all (is_arranged L) s.0 (parts_of t) s.1 a.arranged in let
    f = belongs_is true L s.0 unknown ∙ part-knows L (out-Ty s.0) (among-all is_part s.0 (parts_of t) s.1 a.parts)
    (sym (fits_is L s.0) ∙ fit) (sym (arranged_is L s.0) ∙ arranged) in
    false-true _ f s.2
  where
    false-true : (b : Bool) → b ≡ false → IsTrue b → ⊥
    false-true true e k = cc
    false-true false e k = cc

pub untyped-is : (t : Ty) → is_untyped t ≡ true → t ≡ ty.Untyped
untyped-is t h = go (out-Ty t) refl h
  where
    go : (x : Ty-F Ty) → out-Ty t ≡ x → is_untyped_at x ≡ true → t ≡ ty.Untyped
    go Ty-F.Untyped e k = sym (roll-out-Ty t) ∙ ap roll-Ty e ∙ rolls-Untyped
    go Ty-F.Never e k = cc
    go (Ty-F.Any ps) e k = cc
    go (Ty-F.Class d) e k = cc
    go (Ty-F.Meta d) e k = cc
    go (Ty-F.Arr d) e k = cc
    go (Ty-F.Hsh a b) e k = cc
    go (Ty-F.All ms) e k = cc

-- a type is the union of its parts
pub parts-whole : (L : Lineage) (t : Ty) → IsTrue (is_arranged L t) → of_parts (parts_of t) ≡ t
unfolding parts_of
parts-whole L t h = go (out-Ty t) refl (sym (arranged_is L t) ∙ h)
  where
    go : (x : Ty-F Ty) → out-Ty t ≡ x → IsTrue (is_arranged_at (λ u. u) (is_arranged L) L x) → of_parts (parts_at t x) ≡ t
    go Ty-F.Never e k = sym (sym (roll-out-Ty t) ∙ ap roll-Ty e ∙ rolls-Never)
    go (Ty-F.Any []) e k = cc
    go (Ty-F.Any (p ∷ [])) e k = let
        a = and-second (list_all (is_arranged L) (p ∷ [])) _ k in let
        b : IsTrue false = and-second (list_all is_part (p ∷ [])) false a in cc
    go (Ty-F.Any (p ∷ q ∷ ps)) e k = sym (sym (roll-out-Ty t) ∙ ap roll-Ty e ∙ rolls-Any (p ∷ q ∷ ps))
    go Ty-F.Untyped e k = refl
    go (Ty-F.Class d) e k = refl
    go (Ty-F.Meta d) e k = refl
    go (Ty-F.Arr d) e k = refl
    go (Ty-F.Hsh a b) e k = refl
    go (Ty-F.All ms) e k = refl
