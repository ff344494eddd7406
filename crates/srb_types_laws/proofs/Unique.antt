-- Two types in normal form of which each lies in the other are one.
use Rattle.std.proofs.Common.{◌≡◌, ℕ, Bool, true, false, List, [], ◌∷◌, map, inl, inr, refl, sym, ap, subst, ◌∙◌, bytes_eq}
use Rattle.std.specs.Bool.{IsTrue}
use Rattle.std.specs.List.{list_all}
use Rattle.srb_terms.specs.declared.ty.Ty.{Ty, out-Ty}
use Rattle.srb_terms.specs.declared.ty.Ty.TheOpen.{Ty-F}
use Rattle.srb_terms.specs.declared.ty.Ty.TheVariants as ty
use Rattle.srb_terms.specs.declared.ty.Ty.TheVariants.{rolls-Class}
use Rattle.srb_terms.specs.declared.ty.Ty.TheViews.{roll-Ty, roll-out-Ty, out-roll-Ty}
use Rattle.srb_terms.specs.declared.ty.Ty.TheFolds.{map-Ty, ind-Ty}
use Rattle.srb_shapes.specs.Comparing.{holds_at, holds, is_below, is_meta_below, is_all_below, test_of, within, lies_in}
use Rattle.srb_shapes.specs.Lineages.{Lineage, IsLineage, is_class}
use Rattle.srb_shapes.specs.Parts.{of_parts, parts_at, parts_of}
use Rattle.srb_shapes.specs.Shapes.{unknown, name_of, all_together, fits}
use Rattle.srb_shapes.proofs.Steps.{holds_roll}
use Rattle.srb_shapes.proofs.Variants.{holds-class}
use Rattle.srb_shapes_laws.proofs.Bools.{either, and-first, and-second, by-test, or-cases, same-name}
use Rattle.srb_shapes_laws.proofs.Equations.{fits_roll}
use Rattle.srb_shapes_laws.proofs.Sound.{sound}
use Rattle.srb_types.specs.Normal.{is_untyped_at, is_untyped}
use Rattle.srb_types.specs.Shown.{shown}
use Rattle.srb_types_laws.specs.NormalForms.{Among, in_order, all_apart, has_several, is_part, is_part_at, are_apart, is_arranged_at, is_arranged, HasNoCircles, TextsTell}
use Rattle.srb_types_laws.proofs.Elements.{among-all, some-among, one-element, all-there, same-lists, apart-turned, not-both}
use Rattle.srb_types_laws.proofs.Layers.{IsLayer, same-list, arranged_roll, arranged_is, fits_is}
use Rattle.srb_types_laws.proofs.Joined.{untyped-has}
use Rattle.srb_types_laws.proofs.Parts.{IsWell, parts-well}
use Rattle.srb_types_laws.proofs.Inclusions.{member-text, holds_is, part-test, lies-parts, part-lies, member-is, member-fits, class-within, class-lies, lies-itself, lies-chain, typed-knows, untyped-is, parts-whole}

module _ (L : Lineage) (laws : IsLineage L) (circles : HasNoCircles L) where
  class-same : (c d : List ℕ) → IsTrue (lies_in L (ty.Class c) (ty.Class d)) → IsTrue (lies_in L (ty.Class d) (ty.Class c)) → c ≡ d
  class-same c d h k = circles c d (sym (class-lies true L c d) ∙ h) (sym (class-lies true L d c) ∙ k)

  meta-same : (c d : List ℕ) → IsTrue (is_meta_below L c d) → IsTrue (is_meta_below L d c) → c ≡ d
  meta-same c d h k = either (λ e. same-name c d e)
      (λ up. either (λ e. sym (same-name d c e))
      (λ down. circles c d (and-second (is_class (L.kind d)) _ (and-second (is_class (L.kind c)) _ up))
      (and-second (is_class (L.kind c)) _ (and-second (is_class (L.kind d)) _ down)))
      (or-cases (bytes_eq d c) _ k))
      (or-cases (bytes_eq c d) _ h)

  -- ---- intersections

  module _ (ms : List Ty) (together : IsTrue (all_together L (map name_of ms))) where
    -- one of the members lies in what the intersection lies in
    below-some : (n : Ty) (d : List ℕ) → n ≡ ty.Class d → IsTrue (holds (is_all_below (within true L) ms) n) → (m : Ty) × Among m ms × IsTrue (lies_in L m n)
    below-some n d e h = let
        s = some-among (λ t. within true L t (ty.Class d)) ms (sym (holds-class (is_all_below (within true L) ms) n d e) ∙ h) in
        (s.0, s.1, ap (lies_in L s.0) e ∙ s.2)

    member-same : (ns : List Ty) → IsTrue (all_together L (map name_of ns)) → (m n : Ty) → Among m ms → Among n ns → IsTrue (lies_in L m n) → IsTrue (lies_in L n m) → m ≡ n
    member-same ns more m n a b h k = let
        c = member-is L ms together m a in let
        d = member-is L ns more n b in
        c.1 ∙ ap (λ x. ty.Class x) (class-same c.0 d.0
        (subst (λ (p : Ty × Ty). IsTrue (lies_in L p.0 p.1)) (λ i. (c.1 i, d.1 i)) h)
        (subst (λ (p : Ty × Ty). IsTrue (lies_in L p.1 p.0)) (λ i. (c.1 i, d.1 i)) k)) ∙ sym d.1

    -- an intersection isn't one of its members
    no-class : IsTrue (has_several ms) → IsTrue (are_apart L ms) → (c : List ℕ)
        → IsTrue (is_all_below (within true L) ms (Ty-F.Class c)) → IsTrue (list_all (holds (is_below (L.lin c))) ms) → ⊥
    no-class several apart c h k = go ms refl several
      where
        lowest : (m : Ty) × Among m ms × IsTrue (lies_in L m (ty.Class c))
        lowest = some-among (λ t. within true L t (ty.Class c)) ms h

        below : (n : Ty) → Among n ms → lowest.0 ≡ n
        below n a = one-element (lies_in L) ms (and-second (in_order shown ms) _ apart) lowest.0 n lowest.1 a
            (lies-chain L laws lowest.0 (ty.Class c) n (member-fits L ms together lowest.0 lowest.1) lowest.2
            (class-within true L c n ∙ among-all (holds (is_below (L.lin c))) n ms a k))

        go : (ns : List Ty) → ms ≡ ns → IsTrue (has_several ns) → ⊥
        go [] e s = cc
        go (n ∷ []) e s = cc
        go (n ∷ o ∷ ns) e s = let
            a : Among n ms = subst (Among n) (sym e) (inl refl) in let
            b : Among o ms = subst (Among o) (sym e) (inr (inl refl)) in let
            all = subst (λ xs. IsTrue (all_apart (lies_in L) xs)) e (and-second (in_order shown ms) _ apart) in
            not-both (lies_in L n o) (and-first _ _ (and-first _ _ (and-first _ _ all)))
            (subst (λ x. IsTrue (lies_in L n x)) (sym (below n a) ∙ below o b) (lies-itself L laws n (member-fits L ms together n a)))

  same-members : (ms ns : List Ty) → IsTrue (all_together L (map name_of ms)) → IsTrue (all_together L (map name_of ns))
      → IsTrue (are_apart L ms) → IsTrue (are_apart L ns) → IsTrue (list_all (holds (is_all_below (within true L) ms)) ns)
      → IsTrue (list_all (holds (is_all_below (within true L) ns)) ms) → ms ≡ ns
  same-members ms ns p q a b h k = same-lists shown (lies_in L) ms ns (and-first _ _ a) (and-first _ _ b)
      (and-second (in_order shown ms) _ a) (and-second (in_order shown ns) _ b)
      (λ m i. lies-itself L laws m (member-fits L ms p m i)) (λ n i. lies-itself L laws n (member-fits L ns q n i))
      (member-text L ms ns p q)
      (all-there (λ x y. lies_in L y x) ms ns (apart-turned (lies_in L) ms (and-second (in_order shown ms) _ a))
      (λ x y z i j l v w. lies-chain L laws z y x (member-fits L ms p z l) w v)
      (λ x y i j v w. member-same ms p ns q x y i j w v)
      (λ x i. lower ns q x ms p i k) (λ y i. lower ms p y ns q i h))
      (all-there (λ x y. lies_in L y x) ns ms (apart-turned (lies_in L) ns (and-second (in_order shown ns) _ b))
      (λ x y z i j l v w. lies-chain L laws z y x (member-fits L ns q z l) w v)
      (λ x y i j v w. member-same ns q ms p x y i j w v)
      (λ x i. lower ms p x ns q i h) (λ y i. lower ns q y ms p i k))
    where
      lower : (us : List Ty) → IsTrue (all_together L (map name_of us)) → (x : Ty) (vs : List Ty) → IsTrue (all_together L (map name_of vs)) → Among x vs
          → IsTrue (list_all (holds (is_all_below (within true L) us)) vs) → (y : Ty) × Among y us × IsTrue (lies_in L y x)
      lower us r x vs s i l = let d = member-is L vs s x i in
          below-some us r x d.0 d.1 (among-all (holds (is_all_below (within true L) us)) x vs i l)

  -- ---- parts

  -- with what the induction gives
  abbrev Same : Type 0
  Same = (t : Ty) × ((u : Ty) → IsWell L t → IsWell L u → IsTrue (lies_in L t u) → IsTrue (lies_in L u t) → t ≡ u)

  abbrev it : Same → Ty
  it e = e.0

  abbrev plain : Ty-F Same → Ty-F Ty
  plain y = map-Ty Same Ty it y

  abbrev Test : Ty-F Ty → Ty-F Ty → Bool
  Test x = test_of (within true L) L x

  apart-members : (ms : List Ty) → IsTrue (is_arranged_at (λ t. t) (is_arranged L) L (Ty-F.All ms)) → IsTrue (are_apart L ms)
  apart-members ms h = subst (λ ns. IsTrue (are_apart L ns)) (same-list ms) (and-second (has_several ms) _ h)

  part-same : (y : Ty-F Same) (z : Ty-F Ty) → IsTrue (is_part_at (plain y)) → IsTrue (is_part_at z) → IsLayer L (plain y) → IsLayer L z
      → IsTrue (holds_at (λ t. t) (holds (Test (plain y))) (Test (plain y)) z) → IsTrue (holds_at (λ t. t) (holds (Test z)) (Test z) (plain y))
      → roll-Ty (plain y) ≡ roll-Ty z
  part-same (Ty-F.Class c) (Ty-F.Class d) p q w v h k = ap (λ n. roll-Ty (Ty-F.Class n)) (circles c d h k)
  part-same (Ty-F.Meta c) (Ty-F.Meta d) p q w v h k = ap (λ n. roll-Ty (Ty-F.Meta n)) (meta-same c d h k)
  part-same (Ty-F.Arr e) (Ty-F.Arr f) p q w v h k = ap (λ t. roll-Ty (Ty-F.Arr t))
      (e.1 f (record { fitting = w.fitting; arranged = w.arranged }) (record { fitting = v.fitting; arranged = v.arranged }) h k)
  part-same (Ty-F.Hsh a b) (Ty-F.Hsh c d) p q w v h k = let
      e = a.1 c (record { fitting = and-first _ _ w.fitting; arranged = and-first _ _ w.arranged })
      (record { fitting = and-first _ _ v.fitting; arranged = and-first _ _ v.arranged }) (and-first _ _ h) (and-first _ _ k) in let
      f = b.1 d (record { fitting = and-second (fits L a.0) _ w.fitting; arranged = and-second (is_arranged L a.0) _ w.arranged })
      (record { fitting = and-second (fits L c) _ v.fitting; arranged = and-second (is_arranged L c) _ v.arranged })
      (and-second (lies_in L a.0 c) _ h) (and-second (lies_in L c a.0) _ k) in
      λ i. roll-Ty (Ty-F.Hsh (e i) (f i))
  part-same (Ty-F.All ms) (Ty-F.All ns) p q w v h k = ap (λ ts. roll-Ty (Ty-F.All ts))
      (same-members (map it ms) ns w.fitting v.fitting (apart-members (map it ms) w.arranged) (apart-members ns v.arranged) h k)
  part-same (Ty-F.All ms) (Ty-F.Class c) p q w v h k = absurd (no-class (map it ms) w.fitting (and-first _ _ w.arranged) (apart-members (map it ms) w.arranged) c h k)
  part-same (Ty-F.Class c) (Ty-F.All ns) p q w v h k = absurd (no-class ns v.fitting (and-first _ _ v.arranged) (apart-members ns v.arranged) c k h)
  part-same y z p q w v h k = cc

  alone-same : (y : Ty-F Same) (t : Ty) → t ≡ roll-Ty (plain y) → IsWell L t → IsTrue (is_part_at (plain y)) → (q : Ty) → IsWell L q → IsTrue (is_part q)
      → IsTrue (lies_in L t q) → IsTrue (lies_in L q t) → t ≡ q
  alone-same y t e w part q v other h k = let
      f : out-Ty t ≡ plain y = ap out-Ty e ∙ out-roll-Ty (plain y) in let
      tested : IsTrue (is_part t) = ap is_part_at f ∙ part in
      e ∙ part-same y (out-Ty q) part other
      (record { fitting = sym (ap (fits L) e ∙ fits_roll L (plain y)) ∙ w.fitting; arranged = sym (ap (is_arranged L) e ∙ arranged_roll L (plain y)) ∙ w.arranged })
      (record { fitting = sym (fits_is L q) ∙ v.fitting; arranged = sym (arranged_is L q) ∙ v.arranged })
      (sym (part-test true L t q tested ∙ ap (λ x. holds (Test x) q) f ∙ holds_is (Test (plain y)) q) ∙ h)
      (sym (part-test true L q t other ∙ ap (holds (Test (out-Ty q))) e ∙ holds_roll (Test (out-Ty q)) (plain y)) ∙ k)
      ∙ roll-out-Ty q

  -- a part of a type of which the induction speaks
  abbrev IsKnown : Ty → Type 0
  IsKnown p = (q : Ty) → IsWell L p → IsWell L q → IsTrue (is_part q) → IsTrue (lies_in L p q) → IsTrue (lies_in L q p) → p ≡ q

  some-known : (ps : List Same) (p : Ty) → Among p (map it ps) → IsKnown p
  some-known [] p a = absurd a
  some-known (s ∷ ps) p (inl e) = subst IsKnown e (λ q w v part h k. s.1 q w v h k)
  some-known (s ∷ ps) p (inr a) = some-known ps p a

  known-at : (y : Ty-F Same) (t : Ty) → t ≡ roll-Ty (plain y) → is_untyped_at (plain y) ≡ false → (p : Ty) → Among p (parts_at t (plain y)) → IsKnown p
  known-at Ty-F.Untyped t e typed p a = cc
  known-at Ty-F.Never t e typed p a = absurd a
  known-at (Ty-F.Any ps) t e typed p a = some-known ps p a
  known-at (Ty-F.Class c) t e typed p (inl f) = subst IsKnown f (λ q w v part h k. alone-same (Ty-F.Class c) t e w refl q v part h k)
  known-at (Ty-F.Class c) t e typed p (inr k) = absurd k
  known-at (Ty-F.Meta c) t e typed p (inl f) = subst IsKnown f (λ q w v part h k. alone-same (Ty-F.Meta c) t e w refl q v part h k)
  known-at (Ty-F.Meta c) t e typed p (inr k) = absurd k
  known-at (Ty-F.Arr c) t e typed p (inl f) = subst IsKnown f (λ q w v part h k. alone-same (Ty-F.Arr c) t e w refl q v part h k)
  known-at (Ty-F.Arr c) t e typed p (inr k) = absurd k
  known-at (Ty-F.Hsh c d) t e typed p (inl f) = subst IsKnown f (λ q w v part h k. alone-same (Ty-F.Hsh c d) t e w refl q v part h k)
  known-at (Ty-F.Hsh c d) t e typed p (inr k) = absurd k
  known-at (Ty-F.All ms) t e typed p (inl f) = subst IsKnown f (λ q w v part h k. alone-same (Ty-F.All ms) t e w refl q v part h k)
  known-at (Ty-F.All ms) t e typed p (inr k) = absurd k

  -- ---- types

  module _ (tell : TextsTell L) where
    both-typed : (t u : Ty) → ((p : Ty) → Among p (parts_of t) → IsKnown p) → IsWell L t → IsWell L u → is_untyped t ≡ false → is_untyped u ≡ false
        → IsTrue (lies_in L t u) → IsTrue (lies_in L u t) → t ≡ u
    both-typed t u known w v typed others h k = let
        a = parts-well L t w typed in let
        b = parts-well L u v others in let
        fit = λ (p : Ty) (i : Among p (parts_of t)). among-all (fits L) p (parts_of t) i a.fitting in let
        fits-too = λ (p : Ty) (i : Among p (parts_of u)). among-all (fits L) p (parts_of u) i b.fitting in let
        arranged = λ (p : Ty) (i : Among p (parts_of t)). among-all (is_arranged L) p (parts_of t) i a.arranged in let
        arranged-too = λ (p : Ty) (i : Among p (parts_of u)). among-all (is_arranged L) p (parts_of u) i b.arranged in let
        part = λ (p : Ty) (i : Among p (parts_of t)). among-all is_part p (parts_of t) i a.parts in let
        part-too = λ (p : Ty) (i : Among p (parts_of u)). among-all is_part p (parts_of u) i b.parts in let
        same = λ (p q : Ty) (i : Among p (parts_of t)) (j : Among q (parts_of u)) (x : IsTrue (lies_in L p q)) (y : IsTrue (lies_in L q p)).
        known p i q (record { fitting = fit p i; arranged = arranged p i }) (record { fitting = fits-too q j; arranged = arranged-too q j }) (part-too q j) x y in let
        up = λ (p : Ty) (i : Among p (parts_of t)). part-lies true L p u (part p i) (lies-parts true L t u h p i) in let
        down = λ (q : Ty) (j : Among q (parts_of u)). part-lies true L q t (part-too q j) (lies-parts true L u t k q j) in
        sym (parts-whole L t w.arranged) ∙ ap of_parts
        (same-lists shown (lies_in L) (parts_of t) (parts_of u) a.ordered b.ordered a.apart b.apart
        (λ p i. lies-itself L laws p (fit p i)) (λ q j. lies-itself L laws q (fits-too q j))
        (λ p q i j e. tell p q (fit p i) (fits-too q j) (arranged p i) (arranged-too q j) (part p i) (part-too q j) e)
        (all-there (lies_in L) (parts_of t) (parts_of u) a.apart (λ x y z i j l. lies-chain L laws x y z (fit x i)) same up down)
        (all-there (lies_in L) (parts_of u) (parts_of t) b.apart (λ x y z i j l. lies-chain L laws x y z (fits-too x i))
        (λ q p j i x y. sym (same p q i j y x)) down up))
        ∙ parts-whole L u v.arranged

    -- what lies in each other is untyped where one is
    untyped-too : (t u : Ty) → IsWell L u → is_untyped t ≡ true → is_untyped u ≡ false → IsTrue (lies_in L t u) → ⊥
    untyped-too t u v e f h = typed-knows L u v f (sound L laws true t u unknown refl (untyped-has L unknown t e) h)

    type-same : (y : Ty-F Same) (t : Ty) → t ≡ roll-Ty (plain y) → (u : Ty) → IsWell L t → IsWell L u → IsTrue (lies_in L t u) → IsTrue (lies_in L u t) → t ≡ u
    unfolding parts_of
    type-same y t e u w v h k = either
        (λ a. either (λ b. untyped-is t a ∙ sym (untyped-is u b)) (λ b. absurd (untyped-too t u v a b h)) (by-test (is_untyped u)))
        (λ a. either (λ b. absurd (untyped-too u t w b a k))
        (λ b. both-typed t u (λ p i. known-at y t e (sym (ap is_untyped_at layer) ∙ a) p (subst (λ x. Among p (parts_at t x)) layer i)) w v a b h k)
        (by-test (is_untyped u)))
        (by-test (is_untyped t))
      where
        layer : out-Ty t ≡ plain y
        layer = ap out-Ty e ∙ out-roll-Ty (plain y)

    pub unique : (t u : Ty) → IsWell L t → IsWell L u → IsTrue (lies_in L t u) → IsTrue (lies_in L u t) → t ≡ u
    unique = ind-Ty (λ t. (u : Ty) → IsWell L t → IsWell L u → IsTrue (lies_in L t u) → IsTrue (lies_in L u t) → t ≡ u)
        (λ x y is u. type-same y (roll-Ty x) (ap roll-Ty (sym is)) u)
