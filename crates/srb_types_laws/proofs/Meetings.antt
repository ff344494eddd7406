-- The meet of two types has the shapes that belong to both, where no `T.untyped` stands in them; it lacks none in any case.
use Rattle.std.proofs.Common.{◌≡◌, Bool, true, false, ◌&&◌, ◌||◌, List, [], ◌∷◌, map, Option, Some, None, inl, inr, refl, sym, ap, subst, ◌∙◌, if◌then◌else◌}
use Rattle.std.specs.Bool.{IsTrue}
use Rattle.std.specs.List.{list_all, list_any}
use Rattle.srb_terms.specs.declared.ty.Ty.{Ty, out-Ty}
use Rattle.srb_terms.specs.declared.ty.Ty.TheOpen.{Ty-F}
use Rattle.srb_terms.specs.declared.ty.Ty.TheVariants as ty
use Rattle.srb_terms.specs.declared.ty.Ty.TheVariants.{rolls-Untyped, rolls-Never, rolls-Class, rolls-Meta, rolls-Arr, rolls-Hsh, rolls-Any, rolls-All}
use Rattle.srb_terms.specs.declared.ty.Ty.TheViews.{roll-Ty, roll-out-Ty, out-roll-Ty}
use Rattle.srb_terms.specs.declared.ty.Ty.TheFolds.{map-Ty, ind-Ty}
use Rattle.srb_shapes.specs.Comparing.{lies_in}
use Rattle.srb_shapes.specs.Lineages.{Lineage, IsLineage}
use Rattle.srb_shapes.specs.Parts.{of_parts, parts_at, parts_of}
use Rattle.srb_shapes.specs.Shapes.{Shape, Shapes, array_of, hash_of, none, more, each_shape, IsShape, AreShapes, is_in_array, is_in_hash, belongs_at, belongs, fits}
use Rattle.srb_shapes_laws.proofs.Bools.{either, and-both, and-first, and-second, or-left, or-right, or-cases}
use Rattle.srb_shapes_laws.proofs.Equations.{belongs_roll, belongs_is}
use Rattle.srb_types.specs.Normal.{is_untyped_at, is_untyped, one_untyped, inner_part, meet_plain, with_met, with_meets, meet_array_at, meet_array, meet_hash_at, meet_hash, meets_each, meet_at, meets_of, meet_parts, all_of, meet_of}
use Rattle.srb_types.proofs.Meeting.{meets-never, meets-class, meets-meta, meets-arr, meets-hsh, meets-any, meets-all}
use Rattle.srb_types_laws.specs.NormalForms.{Among, is_part, is_part_at, is_arranged, is_typed_at, is_typed, is_apart}
use Rattle.srb_types_laws.proofs.Elements.{among-all}
use Rattle.srb_types_laws.proofs.Joined.{same-answer, or-nothing, has-parts, of-parts-has, part-adds, untyped-has}
use Rattle.srb_types_laws.proofs.Layers.{IsLayer, arranged_is, fits_is, typed_is, same-list}
use Rattle.srb_types_laws.proofs.Parts.{IsWell, AreWell, parts-well, union-well, neither}
use Rattle.srb_types_laws.proofs.Named.{InMet}
use Rattle.srb_types_laws.proofs.Comparable.{both_hold, inner-has, plain-has, is_named_at}

-- ---- types without `T.untyped`

pub typed-no-untyped : (t : Ty) → IsTrue (is_typed t) → is_untyped t ≡ false
typed-no-untyped t h = go (out-Ty t) (sym (typed_is t) ∙ h)
  where
    go : (x : Ty-F Ty) → IsTrue (is_typed_at is_typed x) → is_untyped_at x ≡ false
    go Ty-F.Untyped k = cc
    go Ty-F.Never k = refl
    go (Ty-F.Class c) k = refl
    go (Ty-F.Meta c) k = refl
    go (Ty-F.Arr e) k = refl
    go (Ty-F.Hsh a b) k = refl
    go (Ty-F.Any ps) k = refl
    go (Ty-F.All ms) k = refl

pub parts-typed : (t : Ty) → IsTrue (is_typed t) → IsTrue (list_all is_typed (parts_of t))
unfolding parts_of
parts-typed t h = go (out-Ty t) refl
  where
    go : (x : Ty-F Ty) → out-Ty t ≡ x → IsTrue (list_all is_typed (parts_at t x))
    go Ty-F.Never e = refl
    go (Ty-F.Any ps) e = sym (typed_is t ∙ ap (is_typed_at is_typed) e) ∙ h
    go Ty-F.Untyped e = and-both (is_typed t) _ h refl
    go (Ty-F.Class c) e = and-both (is_typed t) _ h refl
    go (Ty-F.Meta c) e = and-both (is_typed t) _ h refl
    go (Ty-F.Arr d) e = and-both (is_typed t) _ h refl
    go (Ty-F.Hsh a b) e = and-both (is_typed t) _ h refl
    go (Ty-F.All ms) e = and-both (is_typed t) _ h refl

pub rest-well : (L : Lineage) (q : Ty) (qs : List Ty) → AreWell L (q ∷ qs) → AreWell L qs
rest-well L q qs g = record {
  fitting = and-second (fits L q) _ g.fitting;
  arranged = and-second (is_arranged L q) _ g.arranged;
  parts = and-second (is_part q) _ g.parts;
  ordered = and-second (list_all _ qs) _ g.ordered;
  apart = and-second (list_all (is_apart (lies_in L) q) qs) _ g.apart;
}

pub part-typed : (x : Ty-F Ty) → IsTrue (is_part_at x) → is_untyped_at x ≡ false
part-typed Ty-F.Untyped h = cc
part-typed x h = refl

-- what is asked of a test a: b is enough for it, and where `sure` holds, a is enough for b
record IsBounded (sure : Type 0) (a b : Bool) : Type 0 where
  pub keeps : IsTrue b → IsTrue a
  pub adds : sure → IsTrue a → IsTrue b

exactly : (sure : Type 0) (a b : Bool) → a ≡ b → IsBounded sure a b
exactly sure a b e = record { keeps = λ h. e ∙ h; adds = λ s h. sym e ∙ h }

-- ---- lists of parts

module _ (L : Lineage) (laws : IsLineage L) (s : Shape) (valid : IsShape true L s) where
  abbrev Of : Ty → Bool
  Of t = belongs true L t s

  abbrev In : List Ty → Bool
  In ts = list_any (λ t. belongs true L t s) ts

  met-has : (parts : List Ty) (o : Option Ty) → In (with_met L parts o) ≡ (In parts || InMet L laws s valid o)
  met-has parts None = sym (or-nothing (In parts))
  met-has parts (Some m) = part-adds L laws s valid parts m

  -- a part meets each other part as is asked
  row-bounded : (sure : Type 0) (p : Ty) (meet : Ty → Option Ty) (others parts : List Ty)
      → ((q : Ty) → Among q others → IsBounded sure (InMet L laws s valid (meet q)) (Of p && Of q))
      → IsBounded sure (In (with_meets L meet others parts)) (In parts || (Of p && In others))
  row-bounded sure p meet [] parts h = record {
    keeps = λ k. either (λ a. a) (λ b. let c = and-second (Of p) _ b in cc) (or-cases (In parts) _ k);
    adds = λ y k. or-left (In parts) _ k;
  }
  row-bounded sure p meet (q ∷ others) parts h = let
      first = h q (inl refl) in let
      rest = row-bounded sure p meet others (with_met L parts (meet q)) (λ o a. h o (inr a)) in record {
        keeps = λ k. rest.keeps (either
            (λ a. or-left (In (with_met L parts (meet q))) _ (met-has parts (meet q) ∙ or-left (In parts) _ a))
            (λ b. either
            (λ c. or-left (In (with_met L parts (meet q))) _ (met-has parts (meet q) ∙ or-right (In parts) _ (first.keeps (and-both (Of p) _ (and-first _ _ b) c))))
            (λ c. or-right (In (with_met L parts (meet q))) _ (and-both (Of p) _ (and-first _ _ b) c))
            (or-cases (Of q) _ (and-second (Of p) _ b)))
            (or-cases (In parts) _ k));
        adds = λ y k. either
            (λ a. either
            (λ b. or-left (In parts) _ b)
            (λ b. let c = first.adds y b in or-right (In parts) _ (and-both (Of p) _ (and-first _ _ c) (or-left (Of q) _ (and-second (Of p) _ c))))
            (or-cases (In parts) _ (sym (met-has parts (meet q)) ∙ a)))
            (λ b. or-right (In parts) _ (and-both (Of p) _ (and-first _ _ b) (or-right (Of q) _ (and-second (Of p) _ b))))
            (or-cases (In (with_met L parts (meet q))) _ (rest.adds y k));
      }

-- ---- sets of shapes

each-both : (L : Lineage) (e f x : Ty) → ((s : Shape) → IsShape true L s → IsTrue (belongs true L e s && belongs true L f s) → IsTrue (belongs true L x s)) → (set : Shapes) → AreShapes true L set
    → IsTrue (each_shape (belongs true L e) set) → IsTrue (each_shape (belongs true L f) set) → IsTrue (each_shape (belongs true L x) set)
each-both L e f x h none v k l = refl
each-both L e f x h (more s set) v k l = and-both (belongs true L x s) _
    (h s v.0 (and-both (belongs true L e s) _ (and-first _ _ k) (and-first _ _ l)))
    (each-both L e f x h set v.1 (and-second (belongs true L e s) _ k) (and-second (belongs true L f s) _ l))

each-less : (L : Lineage) (x e : Ty) → ((s : Shape) → IsShape true L s → IsTrue (belongs true L x s) → IsTrue (belongs true L e s)) → (set : Shapes) → AreShapes true L set
    → IsTrue (each_shape (belongs true L x) set) → IsTrue (each_shape (belongs true L e) set)
each-less L x e h none v k = refl
each-less L x e h (more s set) v k = and-both (belongs true L e s) _ (h s v.0 (and-first _ _ k)) (each-less L x e h set v.1 (and-second (belongs true L x s) _ k))

-- the meet of two types, where what is met goes by shapes so
abbrev Meeting : Lineage → Type 0 → Ty → Ty → Ty → Type 0
Meeting L sure e f x = (s : Shape) → IsShape true L s → IsBounded sure (belongs true L x s) (belongs true L e s && belongs true L f s)

array-bounded : (L : Lineage) (sure : Type 0) (e f x : Ty) → Meeting L sure e f x → (s : Shape) → IsShape true L s
    → IsBounded sure (is_in_array (belongs true L x) s) (is_in_array (belongs true L e) s && is_in_array (belongs true L f) s)
array-bounded L sure e f x m (array_of set) v = record {
  keeps = λ k. each-both L e f x (λ s w. let b = m s w in b.keeps) set v (and-first _ _ k) (and-second (each_shape (belongs true L e) set) _ k);
  adds = λ y k. and-both (each_shape (belongs true L e) set) _
      (each-less L x e (λ s w h. let b = m s w in and-first _ _ (b.adds y h)) set v k)
      (each-less L x f (λ s w h. let b = m s w in and-second (belongs true L e s) _ (b.adds y h)) set v k);
}
array-bounded L sure e f x m s v = record { keeps = λ k. cc; adds = λ y k. cc }

hash-bounded : (L : Lineage) (sure : Type 0) (a b c d x y : Ty) → Meeting L sure a c x → Meeting L sure b d y → (s : Shape) → IsShape true L s
    → IsBounded sure (is_in_hash (belongs true L x) (belongs true L y) s) (is_in_hash (belongs true L a) (belongs true L b) s && is_in_hash (belongs true L c) (belongs true L d) s)
hash-bounded L sure a b c d x y m n (hash_of keys values) v = record {
  keeps = λ k. let
      first = and-first _ _ k in let
      second = and-second (each_shape (belongs true L a) keys && each_shape (belongs true L b) values) _ k in
      and-both (each_shape (belongs true L x) keys) _
      (each-both L a c x (λ s w. let e = m s w in e.keeps) keys v.0 (and-first _ _ first) (and-first _ _ second))
      (each-both L b d y (λ s w. let e = n s w in e.keeps) values v.1 (and-second (each_shape (belongs true L a) keys) _ first) (and-second (each_shape (belongs true L c) keys) _ second));
  adds = λ z k. let
      first = and-first _ _ k in let
      second = and-second (each_shape (belongs true L x) keys) _ k in
      and-both (each_shape (belongs true L a) keys && each_shape (belongs true L b) values) _
      (and-both (each_shape (belongs true L a) keys) _
      (each-less L x a (λ s w h. let e = m s w in and-first _ _ (e.adds z h)) keys v.0 first)
      (each-less L y b (λ s w h. let e = n s w in and-first _ _ (e.adds z h)) values v.1 second))
      (and-both (each_shape (belongs true L c) keys) _
      (each-less L x c (λ s w h. let e = m s w in and-second (belongs true L a s) _ (e.adds z h)) keys v.0 first)
      (each-less L y d (λ s w h. let e = n s w in and-second (belongs true L b s) _ (e.adds z h)) values v.1 second));
}
hash-bounded L sure a b c d x y m n s v = record { keeps = λ k. cc; adds = λ z k. cc }

-- ---- types

module _ (L : Lineage) (laws : IsLineage L) where
  -- what a type adds to parts by its meets
  abbrev IsMet : Ty → Type 0
  IsMet t = IsWell L t → is_untyped t ≡ false → (others : List Ty) → AreWell L others → (parts : List Ty) (s : Shape) → IsShape true L s
      → IsBounded (IsTrue (is_typed t && list_all is_typed others)) (list_any (λ p. belongs true L p s) (meets_of L t others parts))
      (list_any (λ p. belongs true L p s) parts || (belongs true L t s && list_any (λ p. belongs true L p s) others))

  -- and so of `T.all`
  all-met : (t u : Ty) → IsMet t → IsWell L t → IsWell L u → Meeting L (IsTrue (is_typed t && is_typed u)) t u (all_of L t u)
  all-met t u met w v s valid = go (one_untyped t u) refl
    where
      go : (b : Bool) → one_untyped t u ≡ b → IsBounded (IsTrue (is_typed t && is_typed u)) (belongs true L (if b then ty.Untyped else of_parts (meets_of L t (parts_of u) [])) s)
          (belongs true L t s && belongs true L u s)
      go true e = record {
        keeps = λ h. ap (λ x. belongs true L x s) (sym rolls-Untyped) ∙ belongs_roll true L Ty-F.Untyped s;
        adds = λ sure h. let
            a = typed-no-untyped t (and-first _ _ sure) in let
            b = typed-no-untyped u (and-second (is_typed t) _ sure) in let
            f : (is_untyped t || is_untyped u) ≡ false = (λ i. a i || b i) in let
            g = sym e ∙ f in cc;
      }
      go false e = let
          typed = neither (is_untyped t) (is_untyped u) e in let
          m = met w typed.0 (parts_of u) (parts-well L u v typed.1) [] s valid in let
          same = of-parts-has true L s (meets_of L t (parts_of u) []) in let
          parts = has-parts true L s u in record {
            keeps = λ h. same ∙ m.keeps (subst (λ b. IsTrue (belongs true L t s && b)) parts h);
            adds = λ sure h. subst (λ b. IsTrue (belongs true L t s && b)) (sym parts)
                (m.adds (and-both (is_typed t) _ (and-first _ _ sure) (parts-typed u (and-second (is_typed t) _ sure))) (sym same ∙ h));
          }

  -- with what the induction gives
  abbrev Met : Type 0
  Met = (t : Ty) × (IsWell L t → is_untyped t ≡ false → (others : List Ty) → AreWell L others → (parts : List Ty) (s : Shape) → IsShape true L s
      → IsBounded (IsTrue (is_typed t && list_all is_typed others)) (list_any (λ p. belongs true L p s) (meets_of L t others parts))
      (list_any (λ p. belongs true L p s) parts || (belongs true L t s && list_any (λ p. belongs true L p s) others)))

  abbrev it : Met → Ty
  it e = e.0

  abbrev plain : Ty-F Met → Ty-F Ty
  plain y = map-Ty Met Ty it y

  -- ---- two parts

  weaker : (a b : Type 0) (x y : Bool) → (a → b) → IsBounded b x y → IsBounded a x y
  weaker a b x y f h = record { keeps = h.keeps; adds = λ k. h.adds (f k) }

  layer-of : (t : Ty) → IsWell L t → IsLayer L (out-Ty t)
  layer-of t w = record { fitting = sym (fits_is L t) ∙ w.fitting; arranged = sym (arranged_is L t) ∙ w.arranged }

  module _ (p q : Ty) (s : Shape) (valid : IsShape true L s) (w : IsWell L p) (v : IsWell L q) (i : IsTrue (is_part p)) (j : IsTrue (is_part q)) where
    abbrev Bounded : Option Ty → Type 0
    Bounded o = IsBounded (IsTrue (is_typed p && is_typed q)) (InMet L laws s valid o) (belongs true L p s && belongs true L q s)

    plain-bounded : both_hold (out-Ty p) (out-Ty q) ≡ false → Bounded (meet_plain L p q)
    plain-bounded b = exactly _ _ _ (plain-has L laws s valid p q i j b (layer-of p w) (layer-of q v))

    inner-bounded : (is_named_at (out-Ty p) && is_named_at (out-Ty q)) ≡ false → both_hold (out-Ty p) (out-Ty q) ≡ false → Bounded (inner_part L p q)
    inner-bounded n b = exactly _ _ _ (inner-has L laws s valid p q i j n b (layer-of p w) (layer-of q v))

    -- an array
    array-met : (e : Ty) → IsMet e → out-Ty p ≡ Ty-F.Arr e → Bounded (meet_array L e (meets_of L e) q)
    unfolding meet_array
    array-met e met is = go (out-Ty q) refl
      where
        itself : ty.Arr e ≡ p
        itself = sym (rolls-Arr e) ∙ ap roll-Ty (sym is) ∙ roll-out-Ty p

        apart : (z : Ty-F Ty) → out-Ty q ≡ z → both_hold (Ty-F.Arr e) z ≡ false → Bounded (inner_part L (ty.Arr e) q)
        apart z f b = subst (λ t. Bounded (inner_part L t q)) (sym itself)
            (inner-bounded (ap (λ x. is_named_at x && is_named_at (out-Ty q)) is) ((λ k. both_hold (is k) (f k)) ∙ b))

        go : (z : Ty-F Ty) → out-Ty q ≡ z → Bounded (meet_array_at L e (meets_of L e) q z)
        go (Ty-F.Arr f) g = let
            x = all_of L e f in let
            lw = layer-of p w in let
            lv = layer-of q v in let
            we : IsLayer L (Ty-F.Arr e) = subst (IsLayer L) is lw in let
            wf : IsLayer L (Ty-F.Arr f) = subst (IsLayer L) g lv in let
            pe = belongs_is true L p s ∙ ap (λ y. belongs_at (belongs true L) true L y s) is in let
            qf = belongs_is true L q s ∙ ap (λ y. belongs_at (belongs true L) true L y s) g in let
            mx = ap (λ t. belongs true L t s) (sym (rolls-Arr x)) ∙ belongs_roll true L (Ty-F.Arr x) s in let
            b = array-bounded L (IsTrue (is_typed e && is_typed f)) e f x (all-met e f met
            (record { fitting = we.fitting; arranged = we.arranged }) (record { fitting = wf.fitting; arranged = wf.arranged })) s valid in let
            te = typed_is p ∙ ap (is_typed_at is_typed) is in let
            tf = typed_is q ∙ ap (is_typed_at is_typed) g in
            subst (λ (r : Bool × Bool × Bool × Bool × Bool). IsBounded (IsTrue (r.0 && r.1)) r.2 (r.3 && r.4))
            (λ k. (sym te k, sym tf k, sym mx k, sym pe k, sym qf k)) b
        go Ty-F.Untyped g = apart Ty-F.Untyped g refl
        go Ty-F.Never g = apart Ty-F.Never g refl
        go (Ty-F.Class c) g = apart (Ty-F.Class c) g refl
        go (Ty-F.Meta c) g = apart (Ty-F.Meta c) g refl
        go (Ty-F.Hsh a b) g = apart (Ty-F.Hsh a b) g refl
        go (Ty-F.Any ps) g = apart (Ty-F.Any ps) g refl
        go (Ty-F.All ms) g = apart (Ty-F.All ms) g refl

    -- a hash
    hash-met : (a b : Ty) → IsMet a → IsMet b → out-Ty p ≡ Ty-F.Hsh a b → Bounded (meet_hash L a (meets_of L a) b (meets_of L b) q)
    unfolding meet_hash
    hash-met a b ma mb is = go (out-Ty q) refl
      where
        itself : ty.Hsh a b ≡ p
        itself = sym (rolls-Hsh a b) ∙ ap roll-Ty (sym is) ∙ roll-out-Ty p

        apart : (z : Ty-F Ty) → out-Ty q ≡ z → both_hold (Ty-F.Hsh a b) z ≡ false → Bounded (inner_part L (ty.Hsh a b) q)
        apart z f n = subst (λ t. Bounded (inner_part L t q)) (sym itself)
            (inner-bounded (ap (λ x. is_named_at x && is_named_at (out-Ty q)) is) ((λ k. both_hold (is k) (f k)) ∙ n))

        four : (x y z t : Bool) → IsTrue ((x && y) && (z && t)) → IsTrue (x && z) × IsTrue (y && t)
        four true true true true h = (refl, refl)
        four true true true false h = cc
        four true true false t h = cc
        four true false z t h = cc
        four false y z t h = cc

        go : (z : Ty-F Ty) → out-Ty q ≡ z → Bounded (meet_hash_at L a (meets_of L a) b (meets_of L b) q z)
        go (Ty-F.Hsh c d) g = let
            x = all_of L a c in let
            y = all_of L b d in let
            wp : IsLayer L (Ty-F.Hsh a b) = subst (IsLayer L) is (layer-of p w) in let
            wq : IsLayer L (Ty-F.Hsh c d) = subst (IsLayer L) g (layer-of q v) in let
            pe = belongs_is true L p s ∙ ap (λ o. belongs_at (belongs true L) true L o s) is in let
            qf = belongs_is true L q s ∙ ap (λ o. belongs_at (belongs true L) true L o s) g in let
            mx = ap (λ t. belongs true L t s) (sym (rolls-Hsh x y)) ∙ belongs_roll true L (Ty-F.Hsh x y) s in let
            sure = IsTrue ((is_typed a && is_typed b) && (is_typed c && is_typed d)) in let
            keys = all-met a c ma (record { fitting = and-first _ _ wp.fitting; arranged = and-first _ _ wp.arranged })
            (record { fitting = and-first _ _ wq.fitting; arranged = and-first _ _ wq.arranged }) in let
            values = all-met b d mb (record { fitting = and-second (fits L a) _ wp.fitting; arranged = and-second (is_arranged L a) _ wp.arranged })
            (record { fitting = and-second (fits L c) _ wq.fitting; arranged = and-second (is_arranged L c) _ wq.arranged }) in let
            m = hash-bounded L sure a b c d x y
            (λ r k. weaker sure (IsTrue (is_typed a && is_typed c)) _ _ (λ h. let f = four (is_typed a) (is_typed b) (is_typed c) (is_typed d) h in f.0) (keys r k))
            (λ r k. weaker sure (IsTrue (is_typed b && is_typed d)) _ _ (λ h. let f = four (is_typed a) (is_typed b) (is_typed c) (is_typed d) h in f.1) (values r k))
            s valid in let
            te = typed_is p ∙ ap (is_typed_at is_typed) is in let
            tf = typed_is q ∙ ap (is_typed_at is_typed) g in
            subst (λ (r : Bool × Bool × Bool × Bool × Bool). IsBounded (IsTrue (r.0 && r.1)) r.2 (r.3 && r.4))
            (λ k. (sym te k, sym tf k, sym mx k, sym pe k, sym qf k)) m
        go Ty-F.Untyped g = apart Ty-F.Untyped g refl
        go Ty-F.Never g = apart Ty-F.Never g refl
        go (Ty-F.Class c) g = apart (Ty-F.Class c) g refl
        go (Ty-F.Meta c) g = apart (Ty-F.Meta c) g refl
        go (Ty-F.Arr e) g = apart (Ty-F.Arr e) g refl
        go (Ty-F.Any ps) g = apart (Ty-F.Any ps) g refl
        go (Ty-F.All ms) g = apart (Ty-F.All ms) g refl

    whole : (x : Ty-F Ty) (t : Ty) → t ≡ roll-Ty x → out-Ty p ≡ x → t ≡ p
    whole x t r e = r ∙ ap roll-Ty (sym e) ∙ roll-out-Ty p

    pair-met : (y : Ty-F Met) → out-Ty p ≡ plain y → Bounded (meet_at (λ t. t) (meets_of L) L (plain y) q)
    pair-met Ty-F.Untyped e = let f = sym (ap is_part_at e) ∙ i in cc
    pair-met Ty-F.Never e = let f = sym (ap is_part_at e) ∙ i in cc
    pair-met (Ty-F.Any ps) e = let f = sym (ap is_part_at e) ∙ i in cc
    pair-met (Ty-F.Class c) e = subst (λ t. Bounded (meet_plain L t q)) (sym (whole (Ty-F.Class c) (ty.Class c) (sym (rolls-Class c)) e))
        (plain-bounded (ap (λ x. both_hold x (out-Ty q)) e))
    pair-met (Ty-F.Meta c) e = subst (λ t. Bounded (meet_plain L t q)) (sym (whole (Ty-F.Meta c) (ty.Meta c) (sym (rolls-Meta c)) e))
        (plain-bounded (ap (λ x. both_hold x (out-Ty q)) e))
    pair-met (Ty-F.All ms) e = subst (λ t. Bounded (meet_plain L t q))
        (sym (ap ty.All (same-list (map it ms)) ∙ whole (Ty-F.All (map it ms)) (ty.All (map it ms)) (sym (rolls-All (map it ms))) e))
        (plain-bounded (ap (λ x. both_hold x (out-Ty q)) e))
    pair-met (Ty-F.Arr d) e = array-met d.0 d.1 e
    pair-met (Ty-F.Hsh a b) e = hash-met a.0 b.0 a.1 b.1 e

  -- ---- each type

  -- a part with the other ones
  part-met : (y : Ty-F Met) (t : Ty) → t ≡ roll-Ty (plain y) → IsTrue (is_part_at (plain y)) → IsWell L t → (others : List Ty) → AreWell L others → (parts : List Ty) (s : Shape) → IsShape true L s
      → IsBounded (IsTrue (is_typed t && list_all is_typed others)) (list_any (λ p. belongs true L p s) (with_meets L (meet_parts L t) others parts))
      (list_any (λ p. belongs true L p s) parts || (belongs true L t s && list_any (λ p. belongs true L p s) others))
  unfolding meet_parts
  part-met y t e part w others g parts s valid = row-bounded L laws s valid (IsTrue (is_typed t && list_all is_typed others)) t (meet_at (λ u. u) (meets_of L) L (out-Ty t)) others parts
      (λ q a. weaker (IsTrue (is_typed t && list_all is_typed others)) (IsTrue (is_typed t && is_typed q)) _ _
      (λ h. and-both (is_typed t) _ (and-first _ _ h) (among-all is_typed q others a (and-second (is_typed t) _ h)))
      (subst (λ x. IsBounded (IsTrue (is_typed t && is_typed q)) (InMet L laws s valid (meet_at (λ u. u) (meets_of L) L x q)) (belongs true L t s && belongs true L q s))
      (sym layer)
      (pair-met t q s valid w (record { fitting = among-all (fits L) q others a g.fitting; arranged = among-all (is_arranged L) q others a g.arranged })
      (ap is_part_at layer ∙ part) (among-all is_part q others a g.parts) y layer)))
    where
      layer : out-Ty t ≡ plain y
      layer = ap out-Ty e ∙ out-roll-Ty (plain y)

  over : (sure : Type 0) (s : Shape) (b : Bool) (xs ys : List Ty) → xs ≡ ys → IsBounded sure (list_any (λ p. belongs true L p s) xs) b
      → IsBounded sure (list_any (λ p. belongs true L p s) ys) b
  over sure s b xs ys e h = subst (λ l. IsBounded sure (list_any (λ p. belongs true L p s) l) b) e h

  or-joins : (a b c d : Bool) → IsTrue (a || ((b || c) && d)) → IsTrue ((a || (b && d)) || (c && d))
  or-joins true b c d h = refl
  or-joins false true c d h = or-left d (c && d) h
  or-joins false false c d h = h

  or-parts : (a b c d : Bool) → IsTrue ((a || (b && d)) || (c && d)) → IsTrue (a || ((b || c) && d))
  or-parts true b c d h = refl
  or-parts false true c true h = refl
  or-parts false true true false h = h
  or-parts false true false false h = h
  or-parts false false c d h = h

  -- each part of a union
  each-met : (ps : List Met) → AreWell L (map it ps) → (others : List Ty) → AreWell L others → (parts : List Ty) (s : Shape) → IsShape true L s
      → IsBounded (IsTrue (list_all is_typed (map it ps) && list_all is_typed others)) (list_any (λ p. belongs true L p s) (meets_each (meets_of L) (map it ps) others parts))
      (list_any (λ p. belongs true L p s) parts || (list_any (λ p. belongs true L p s) (map it ps) && list_any (λ p. belongs true L p s) others))
  each-met [] a others g parts s valid = exactly _ _ _ (sym (or-nothing (list_any (λ p. belongs true L p s) parts)))
  each-met (p ∷ ps) a others g parts s valid = let
      B = λ (ts : List Ty). list_any (λ t. belongs true L t s) ts in let
      first = p.1 (record { fitting = and-first _ _ a.fitting; arranged = and-first _ _ a.arranged })
      (part-typed (out-Ty p.0) (and-first _ _ a.parts)) others g parts s valid in let
      later = each-met ps (rest-well L p.0 (map it ps) a) others g (meets_of L p.0 others parts) s valid in record {
        keeps = λ h. later.keeps (either
            (λ k. or-left (B (meets_of L p.0 others parts)) _ (first.keeps k))
            (λ k. or-right (B (meets_of L p.0 others parts)) _ k)
            (or-cases (B parts || (belongs true L p.0 s && B others)) (B (map it ps) && B others) (or-joins (B parts) (belongs true L p.0 s) (B (map it ps)) (B others) h)));
        adds = λ y h. or-parts (B parts) (belongs true L p.0 s) (B (map it ps)) (B others) (either
            (λ k. or-left (B parts || (belongs true L p.0 s && B others)) _
            (first.adds (and-both (is_typed p.0) _ (and-first _ _ (and-first _ _ y)) (and-second (is_typed p.0 && list_all is_typed (map it ps)) _ y)) k))
            (λ k. or-right (B parts || (belongs true L p.0 s && B others)) _ k)
            (or-cases (B (meets_of L p.0 others parts)) _
            (later.adds (and-both (list_all is_typed (map it ps)) _ (and-second (is_typed p.0) _ (and-first _ _ y)) (and-second (is_typed p.0 && list_all is_typed (map it ps)) _ y)) h)));
      }

  type-met : (y : Ty-F Met) (t : Ty) → t ≡ roll-Ty (plain y) → IsMet t
  type-met Ty-F.Untyped t e w typed others g parts s valid = let f = sym (ap is_untyped_at (ap out-Ty e ∙ out-roll-Ty Ty-F.Untyped)) ∙ typed in cc
  type-met Ty-F.Never t e w typed others g parts s valid = exactly _ _ _
      (ap (list_any (λ p. belongs true L p s)) (meets-never L t others parts (e ∙ rolls-Never)) ∙ sym (or-nothing (list_any (λ p. belongs true L p s) parts))
      ∙ ap (λ b. list_any (λ p. belongs true L p s) parts || (b && list_any (λ p. belongs true L p s) others)) (sym (ap (λ u. belongs true L u s) e ∙ belongs_roll true L Ty-F.Never s)))
  type-met (Ty-F.Class c) t e w typed others g parts s valid = over _ s _ _ _ (sym (meets-class L t others parts c (e ∙ rolls-Class c)))
      (part-met (Ty-F.Class c) t e refl w others g parts s valid)
  type-met (Ty-F.Meta c) t e w typed others g parts s valid = over _ s _ _ _ (sym (meets-meta L t others parts c (e ∙ rolls-Meta c)))
      (part-met (Ty-F.Meta c) t e refl w others g parts s valid)
  type-met (Ty-F.Arr d) t e w typed others g parts s valid = over _ s _ _ _ (sym (meets-arr L t others parts d.0 (e ∙ rolls-Arr d.0)))
      (part-met (Ty-F.Arr d) t e refl w others g parts s valid)
  type-met (Ty-F.Hsh a b) t e w typed others g parts s valid = over _ s _ _ _ (sym (meets-hsh L t others parts a.0 b.0 (e ∙ rolls-Hsh a.0 b.0)))
      (part-met (Ty-F.Hsh a b) t e refl w others g parts s valid)
  type-met (Ty-F.All ms) t e w typed others g parts s valid = over _ s _ _ _ (sym (meets-all L t others parts (map it ms) (e ∙ rolls-All (map it ms))))
      (part-met (Ty-F.All ms) t e refl w others g parts s valid)
  type-met (Ty-F.Any ps) t e w typed others g parts s valid = let
      layer : out-Ty t ≡ Ty-F.Any (map it ps) = ap out-Ty e ∙ out-roll-Ty (Ty-F.Any (map it ps)) in let
      l : IsLayer L (Ty-F.Any (map it ps)) = subst (IsLayer L) layer (layer-of t w) in let
      tested = typed_is t ∙ ap (is_typed_at is_typed) layer in let
      has = belongs_is true L t s ∙ ap (λ x. belongs_at (belongs true L) true L x s) layer in
      over _ s _ _ _ (sym (meets-any L t others parts (map it ps) (e ∙ rolls-Any (map it ps))))
      (subst (λ (r : Bool × Bool). IsBounded (IsTrue (r.0 && list_all is_typed others)) (list_any (λ p. belongs true L p s) (meets_each (meets_of L) (map it ps) others parts))
      (list_any (λ p. belongs true L p s) parts || (r.1 && list_any (λ p. belongs true L p s) others)))
      (λ k. (sym tested k, sym has k))
      (each-met ps (union-well L (map it ps) l.fitting l.arranged) others g parts s valid))

  met : (t : Ty) → IsMet t
  met = ind-Ty IsMet (λ x y is. type-met y (roll-Ty x) (ap roll-Ty (sym is)))

  -- ---- the operations

  all-bounded : (t u : Ty) → IsWell L t → IsWell L u → (s : Shape) → IsShape true L s
      → IsBounded (IsTrue (is_typed t && is_typed u)) (belongs true L (all_of L t u) s) (belongs true L t s && belongs true L u s)
  all-bounded t u w v s valid = all-met t u (met t) w v s valid

  pub all-exact : (t u : Ty) → IsWell L t → IsWell L u → (s : Shape) → IsShape true L s → IsTrue (is_typed t && is_typed u)
      → belongs true L (all_of L t u) s ≡ (belongs true L t s && belongs true L u s)
  all-exact t u w v s valid sure = let b = all-bounded t u w v s valid in
      same-answer (belongs true L (all_of L t u) s) (belongs true L t s && belongs true L u s) (b.adds sure) b.keeps

  pub all-keeps : (t u : Ty) → IsWell L t → IsWell L u → (s : Shape) → IsShape true L s → IsTrue (belongs true L t s && belongs true L u s)
      → IsTrue (belongs true L (all_of L t u) s)
  all-keeps t u w v s valid = let b = all-bounded t u w v s valid in b.keeps

  and-true : (b : Bool) → (b && true) ≡ b
  and-true true = refl
  and-true false = refl

  meet-bounded : (t u : Ty) → IsWell L t → IsWell L u → (s : Shape) → IsShape true L s
      → IsBounded (IsTrue (one_untyped t u || (is_typed t && is_typed u))) (belongs true L (meet_of L t u) s) (belongs true L t s && belongs true L u s)
  unfolding meet_of
  meet-bounded t u w v s valid = go (is_untyped t) (is_untyped u) refl refl
    where
      go : (a b : Bool) → is_untyped t ≡ a → is_untyped u ≡ b
          → IsBounded (IsTrue ((a || b) || (is_typed t && is_typed u))) (belongs true L (if a then u else (if b then t else all_of L t u)) s) (belongs true L t s && belongs true L u s)
      go true b e f = exactly _ _ _ (ap (λ x. x && belongs true L u s) (sym (untyped-has L s t e)))
      go false true e f = exactly _ _ _ (sym (ap (λ x. belongs true L t s && x) (untyped-has L s u f) ∙ and-true (belongs true L t s)))
      go false false e f = all-bounded t u w v s valid

  pub meet-exact : (t u : Ty) → IsWell L t → IsWell L u → (s : Shape) → IsShape true L s → IsTrue (one_untyped t u || (is_typed t && is_typed u))
      → belongs true L (meet_of L t u) s ≡ (belongs true L t s && belongs true L u s)
  meet-exact t u w v s valid sure = let b = meet-bounded t u w v s valid in
      same-answer (belongs true L (meet_of L t u) s) (belongs true L t s && belongs true L u s) (b.adds sure) b.keeps

  pub meet-keeps : (t u : Ty) → IsWell L t → IsWell L u → (s : Shape) → IsShape true L s → IsTrue (belongs true L t s && belongs true L u s)
      → IsTrue (belongs true L (meet_of L t u) s)
  meet-keeps t u w v s valid = let b = meet-bounded t u w v s valid in b.keeps
