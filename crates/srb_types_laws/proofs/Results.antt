-- The meet of two types in normal form is in normal form.
use Rattle.std.proofs.Common.{◌≡◌, ℕ, ◌-◌, Bool, true, false, not, ◌&&◌, ◌||◌, List, [], ◌∷◌, map, Option, Some, None, inl, inr, refl, sym, ap, subst, ◌∙◌, nat_eq, if◌then◌else◌}
use Rattle.std.specs.Bool.{IsTrue}
use Rattle.std.specs.List.{filter, list_all, list_any}
use Rattle.srb_terms.specs.NameSets.{has_name}
use Rattle.srb_terms.specs.declared.ty.Ty.{Ty, out-Ty}
use Rattle.srb_terms.specs.declared.ty.Ty.TheOpen.{Ty-F}
use Rattle.srb_terms.specs.declared.ty.Ty.TheVariants as ty
use Rattle.srb_terms.specs.declared.ty.Ty.TheVariants.{rolls-Untyped, rolls-Never, rolls-Class, rolls-Meta, rolls-Arr, rolls-Hsh, rolls-Any, rolls-All}
use Rattle.srb_terms.specs.declared.ty.Ty.TheViews.{roll-Ty, roll-out-Ty, out-roll-Ty}
use Rattle.srb_terms.specs.declared.ty.Ty.TheFolds.{map-Ty, ind-Ty}
use Rattle.srb_shapes.specs.Comparing.{lies_in}
use Rattle.srb_shapes.specs.Lineages.{Lineage, IsLineage, is_body, is_class}
use Rattle.srb_shapes.specs.Parts.{of_parts, parts_of}
use Rattle.srb_shapes.specs.Shapes.{name_at, name_of, go_together, all_together, fits}
use Rattle.srb_shapes.proofs.Steps.{all-mapped}
use Rattle.srb_shapes_laws.proofs.Bools.{either, and-both, and-first, and-second, or-left, or-right, by-test}
use Rattle.srb_shapes_laws.proofs.Equations.{fits_roll}
use Rattle.srb_types.specs.Normal as normal
use Rattle.srb_types.specs.Normal.{is_untyped_at, is_untyped, one_untyped, with_part, class_names, names_at, names_of, is_under, with_name, with_names, has_two_classes, of_names, meet_names, inner_part, meet_named, meet_plain, with_met, with_meets, meet_array_at, meet_array, meet_hash_at, meet_hash, meets_each, meet_at, meets_of, meet_parts, all_of, meet_of}
use Rattle.srb_types.specs.Order.{is_before, placed}
use Rattle.srb_types.specs.Shown.{shown}
use Rattle.srb_types.proofs.Meeting.{meets-never, meets-class, meets-meta, meets-arr, meets-hsh, meets-any, meets-all}
use Rattle.srb_types_laws.specs.NormalForms.{Among, in_order, all_apart, has_several, is_part, is_part_at, are_apart, is_arranged, is_cut_argument, is_cut_at, is_cut, IsNormal}
use Rattle.srb_types_laws.proofs.Elements.{among-all, among-some}
use Rattle.srb_types_laws.proofs.Joined.{any-placed}
use Rattle.srb_types_laws.proofs.Lists.{all-filtered, ordered-filtered, all-placed, ordered-placed}
use Rattle.srb_types_laws.proofs.Layers.{IsLayer, same-list, arranged_roll, arranged_is, cut_roll, cut_is, fits_is}
use Rattle.srb_types_laws.proofs.Parts.{IsWell, AreWell, is-well, none-well, parts-well, parts-cut, union-well, of-parts-well, of-parts-cut, with-part-well, with-part-all, untyped-normal, neither}
use Rattle.srb_types_laws.proofs.Inclusions.{member-is, class-fits, class-lies, class-shown}
use Rattle.srb_types_laws.proofs.Meetings.{rest-well, part-typed}
use Rattle.srb_types_laws.proofs.Named.{apart-mapped, class-kind, class-names-are, with-names-apart}

-- ---- the names of intersections

-- the members of an intersection, by their names
body-members : (L : Lineage) (ms : List Ty) → ((m : Ty) → Among m ms → (c : List ℕ) × (m ≡ ty.Class c) × IsTrue (is_body (L.kind c)))
    → (cs : List (List ℕ)) × (ms ≡ map (λ c. ty.Class c) cs) × IsTrue (list_all (λ c. is_body (L.kind c)) cs)
body-members L [] h = ([], refl, refl)
body-members L (m ∷ ms) h = let
    k = h m (inl refl) in let
    rest = body-members L ms (λ n a. h n (inr a)) in
    (k.0 ∷ rest.0, (λ i. k.1 i ∷ rest.1 i), and-both (is_body (L.kind k.0)) _ k.2 rest.2)

ordered-names : (cs : List (List ℕ)) → in_order shown (map (λ c. ty.Class c) cs) ≡ in_order (λ (d : List ℕ). d) cs
ordered-names [] = refl
ordered-names (c ∷ cs) = let
    e = all-mapped (λ y. not (is_before (shown y) (shown (ty.Class c)))) (λ d. ty.Class d) cs
    ∙ ap (λ (f : List ℕ → Bool). list_all f cs) (λ i d. not (is_before (class-shown d i) (class-shown c i))) in let
    rest = ordered-names cs in λ i. e i && rest i

pub class-part : (c : List ℕ) → IsTrue (is_part (ty.Class c))
class-part c = ap is_part_at (ap out-Ty (sym (rolls-Class c)) ∙ out-roll-Ty (Ty-F.Class c))

all-part : (ms : List Ty) → IsTrue (is_part (ty.All ms))
all-part ms = ap is_part_at (ap out-Ty (sym (rolls-All ms)) ∙ out-roll-Ty (Ty-F.All ms))

class-name : (c : List ℕ) → name_of (ty.Class c) ≡ Some c
class-name c = ap name_at (ap out-Ty (sym (rolls-Class c)) ∙ out-roll-Ty (Ty-F.Class c))

-- what passes stands twice in no list without two classes
two-stand : (L : Lineage) (c d : List ℕ) (cs : List (List ℕ)) (rest : Bool) → ((normal.is_class L c && list_any (normal.is_class L) cs) || rest) ≡ false
    → IsTrue (normal.is_class L c) → IsTrue (normal.is_class L d) → Among d cs → ⊥
two-stand L c d cs rest f p q a = let
    k = or-left (normal.is_class L c && list_any (normal.is_class L) cs) rest (and-both (normal.is_class L c) _ p (among-some (normal.is_class L) d cs a q)) in let
    l = sym k ∙ f in cc

-- of two classes among names without two, they are one
one-class : (L : Lineage) (cs : List (List ℕ)) → has_two_classes L cs ≡ false → (c d : List ℕ) → Among c cs → Among d cs → IsTrue (normal.is_class L c) → IsTrue (normal.is_class L d) → c ≡ d
one-class L [] h c d a b p q = absurd a
one-class L (x ∷ cs) h c d (inl e) (inl f) p q = sym e ∙ f
one-class L (x ∷ cs) h c d (inl e) (inr b) p q = absurd (two-stand L x d cs (has_two_classes L cs) h (ap (normal.is_class L) e ∙ p) q b)
one-class L (x ∷ cs) h c d (inr a) (inl f) p q = absurd (two-stand L x c cs (has_two_classes L cs) h (ap (normal.is_class L) f ∙ q) p a)
one-class L (x ∷ cs) h c d (inr a) (inr b) p q = let
    k = neither (normal.is_class L x && list_any (normal.is_class L) cs) (has_two_classes L cs) h in
    one-class L cs k.1 c d a b p q

-- the names of an intersection in normal form
record AreNames (L : Lineage) (cs : List (List ℕ)) : Type 0 where
  pub some : IsTrue (list_any (λ c. true) cs)
  pub ordered : IsTrue (in_order (λ (d : List ℕ). d) cs)
  pub apart : IsTrue (all_apart (is_under L) cs)
  pub bodies : IsTrue (list_all (λ c. is_body (L.kind c)) cs)

-- a type in normal form but for its depth, which is cut so
record IsGood (L : Lineage) (n : ℕ) (t : Ty) : Type 0 where
  pub well : IsWell L t
  pub cut : IsTrue (is_cut t n)

record AreGood (L : Lineage) (n : ℕ) (ts : List Ty) : Type 0 where
  pub well : AreWell L ts
  pub cut : IsTrue (list_all (λ t. is_cut t n) ts)

placed-some : (c : List ℕ) (cs : List (List ℕ)) → IsTrue (list_any (λ d. true) (placed (λ (d : List ℕ). d) c cs))
placed-some c cs = any-placed (λ d. true) (λ (d : List ℕ). d) c cs

module _ (L : Lineage) (laws : IsLineage L) where
  with-name-some : (cs : List (List ℕ)) (c : List ℕ) → IsTrue (list_any (λ d. true) cs) → IsTrue (list_any (λ d. true) (with_name L cs c))
  unfolding with_name
  with-name-some cs c h = go (list_any (λ d. is_under L d c) cs)
    where
      go : (b : Bool) → IsTrue (list_any (λ d. true) (if b then cs else placed (λ d. d) c (filter (λ d. not (is_under L c d)) cs)))
      go true = h
      go false = placed-some c (filter (λ d. not (is_under L c d)) cs)

  with-name-ordered : (cs : List (List ℕ)) (c : List ℕ) → IsTrue (in_order (λ (d : List ℕ). d) cs) → IsTrue (in_order (λ (d : List ℕ). d) (with_name L cs c))
  unfolding with_name
  with-name-ordered cs c h = go (list_any (λ d. is_under L d c) cs)
    where
      go : (b : Bool) → IsTrue (in_order (λ (d : List ℕ). d) (if b then cs else placed (λ d. d) c (filter (λ d. not (is_under L c d)) cs)))
      go true = h
      go false = ordered-placed (λ (d : List ℕ). d) c (filter (λ d. not (is_under L c d)) cs) (ordered-filtered (λ (d : List ℕ). d) (λ d. not (is_under L c d)) cs h)

  with-name-bodies : (cs : List (List ℕ)) (c : List ℕ) → IsTrue (list_all (λ d. is_body (L.kind d)) cs) → IsTrue (is_body (L.kind c))
      → IsTrue (list_all (λ d. is_body (L.kind d)) (with_name L cs c))
  unfolding with_name
  with-name-bodies cs c h b = go (list_any (λ d. is_under L d c) cs)
    where
      go : (t : Bool) → IsTrue (list_all (λ d. is_body (L.kind d)) (if t then cs else placed (λ d. d) c (filter (λ d. not (is_under L c d)) cs)))
      go true = h
      go false = all-placed (λ d. is_body (L.kind d)) (λ d. d) c (filter (λ d. not (is_under L c d)) cs) b (all-filtered (λ d. is_body (L.kind d)) (λ d. not (is_under L c d)) cs h)

  with-names-good : (cs more : List (List ℕ)) → AreNames L cs → IsTrue (list_all (λ d. is_body (L.kind d)) more) → AreNames L (with_names L cs more)
  with-names-good cs [] a h = a
  with-names-good cs (c ∷ more) a h = with-names-good (with_name L cs c) more
      (record {
        some = with-name-some cs c a.some;
        ordered = with-name-ordered cs c a.ordered;
        apart = with-names-apart L laws cs (c ∷ []) a.apart;
        bodies = with-name-bodies cs c a.bodies (and-first _ _ h);
      })
      (and-second (is_body (L.kind c)) _ h)

  -- ---- the intersection of names

  together : (cs : List (List ℕ)) → IsTrue (list_all (λ c. is_body (L.kind c)) cs) → has_two_classes L cs ≡ false → IsTrue (all_together L (map name_of (map (λ c. ty.Class c) cs)))
  together cs bodies two = subst (λ ns. IsTrue (all_together L ns)) (sym (names-are cs))
      (all-mapped (λ c. list_all (go_together L c) (map (λ d. Some d) cs)) (λ d. Some d) cs
      ∙ from-among (λ c. list_all (go_together L (Some c)) (map (λ d. Some d) cs)) cs (λ c a.
      all-mapped (go_together L (Some c)) (λ d. Some d) cs ∙ from-among (λ d. go_together L (Some c) (Some d)) cs (λ d b.
      and-both (is_body (L.kind c)) _ (among-all (λ x. is_body (L.kind x)) c cs a bodies)
      (and-both (is_body (L.kind d)) _ (among-all (λ x. is_body (L.kind x)) d cs b bodies)
      (either
      (λ both. or-right (not (is_class (L.kind c) && is_class (L.kind d))) _ (or-left (has_name d (L.lin c)) _
      (subst (λ x. IsTrue (has_name x (L.lin c)))
      (one-class L cs two c d a b (class-kind (L.kind c) ∙ and-first _ _ both) (class-kind (L.kind d) ∙ and-second (is_class (L.kind c)) _ both))
      (laws.own c (among-all (λ x. is_body (L.kind x)) c cs a bodies)))))
      (λ f. or-left (not (is_class (L.kind c) && is_class (L.kind d))) _ (ap not f))
      (by-test (is_class (L.kind c) && is_class (L.kind d))))))))
    where
      names-are : (xs : List (List ℕ)) → map name_of (map (λ c. ty.Class c) xs) ≡ map (λ d. Some d) xs
      names-are [] = refl
      names-are (x ∷ xs) = let e = class-name x in let rest = names-are xs in λ i. e i ∷ rest i

      from-among : (f : List ℕ → Bool) (xs : List (List ℕ)) → ((x : List ℕ) → Among x xs → IsTrue (f x)) → IsTrue (list_all f xs)
      from-among f [] h = refl
      from-among f (x ∷ xs) h = and-both (f x) _ (h x (inl refl)) (from-among f xs (λ y a. h y (inr a)))

  of-names-good : (n : ℕ) (cs : List (List ℕ)) → AreNames L cs → has_two_classes L cs ≡ false → IsGood L n (of_names cs) × IsTrue (is_part (of_names cs))
  of-names-good n [] a two = let f = a.some in cc
  of-names-good n (c ∷ []) a two = (
    record {
      well = record { fitting = class-fits L c ∙ and-first _ _ a.bodies; arranged = ap (is_arranged L) (sym (rolls-Class c)) ∙ arranged_roll L (Ty-F.Class c) };
      cut = ap (λ t. is_cut t n) (sym (rolls-Class c)) ∙ cut_roll (Ty-F.Class c) n;
    },
    class-part c,
  )
  of-names-good n (c ∷ d ∷ cs) a two = let
      ms = map (λ x. ty.Class x) (c ∷ d ∷ cs) in let
      apart : IsTrue (all_apart (lies_in L) ms) = apart-mapped (lies_in L) (λ x. ty.Class x) (c ∷ d ∷ cs)
      ∙ ap (λ (test : List ℕ → List ℕ → Bool). all_apart test (c ∷ d ∷ cs)) (λ i x y. class-lies true L x y i) ∙ a.apart in let
      arranged : IsTrue (are_apart L ms) = and-both (in_order shown ms) _ (ordered-names (c ∷ d ∷ cs) ∙ a.ordered) apart in (
        record {
          well = record {
            fitting = ap (fits L) (sym (rolls-All ms)) ∙ fits_roll L (Ty-F.All ms) ∙ together (c ∷ d ∷ cs) a.bodies two;
            arranged = ap (is_arranged L) (sym (rolls-All ms)) ∙ arranged_roll L (Ty-F.All ms) ∙ subst (λ ns. IsTrue (are_apart L ns)) (sym (same-list ms)) arranged;
          };
          cut = ap (λ t. is_cut t n) (sym (rolls-All ms)) ∙ cut_roll (Ty-F.All ms) n;
        },
        all-part ms,
      )

  -- ---- the meet of two parts

  -- a part with what is asked of it, where there is one
  IsMet : ℕ → Option Ty → Type 0
  IsMet n None = Unit {0}
  IsMet n (Some m) = IsGood L n m × IsTrue (is_part m)

  names-met : (n : ℕ) (cs more : List (List ℕ)) → AreNames L cs → IsTrue (list_all (λ d. is_body (L.kind d)) more) → IsMet n (meet_names L cs more)
  unfolding meet_names IsMet
  names-met n cs more a h = go (has_two_classes L (with_names L cs more)) refl
    where
      go : (b : Bool) → has_two_classes L (with_names L cs more) ≡ b → IsMet n (if b then None else Some (of_names (with_names L cs more)))
      go true e = tt
      go false e = of-names-good n (with_names L cs more) (with-names-good cs more a h) e

  inner-met : (n : ℕ) (p q : Ty) → IsGood L n p × IsTrue (is_part p) → IsGood L n q × IsTrue (is_part q) → IsMet n (inner_part L p q)
  unfolding inner_part IsMet
  inner-met n p q g h = go (lies_in L p q) (lies_in L q p)
    where
      go : (a b : Bool) → IsMet n (if a then Some p else (if b then Some q else None))
      go true b = g
      go false true = h
      go false false = tt

  -- the names of a part in normal form, where it has some
  Named : Option (List (List ℕ)) → Type 0
  Named None = Unit {0}
  Named (Some cs) = AreNames L cs

  names-good : (x : Ty-F Ty) → IsLayer L x → Named (names_at x)
  unfolding Named
  names-good (Ty-F.Class c) w = record { some = refl; ordered = refl; apart = refl; bodies = and-both (is_body (L.kind c)) _ w.fitting refl }
  names-good (Ty-F.All ms) w = let
      k = body-members L ms (member-is L ms w.fitting) in let
      apart = subst (λ ns. IsTrue (are_apart L ns)) (same-list ms ∙ k.1) (and-second (has_several ms) _ w.arranged) in
      subst (AreNames L) (sym (ap class_names k.1 ∙ class-names-are k.0)) (record {
        some = several-some k.0 (subst (λ ns. IsTrue (has_several ns)) k.1 (and-first _ _ w.arranged));
        ordered = sym (ordered-names k.0) ∙ and-first _ _ apart;
        apart = sym (ap (λ (test : List ℕ → List ℕ → Bool). all_apart test k.0) (λ i x y. class-lies true L x y i)) ∙ sym (apart-mapped (lies_in L) (λ x. ty.Class x) k.0)
            ∙ and-second (in_order shown (map (λ c. ty.Class c) k.0)) _ apart;
        bodies = k.2;
      })
    where
      several-some : (cs : List (List ℕ)) → IsTrue (has_several (map (λ c. ty.Class c) cs)) → IsTrue (list_any (λ c. true) cs)
      several-some [] h = cc
      several-some (c ∷ cs) h = refl
  names-good Ty-F.Untyped w = tt
  names-good Ty-F.Never w = tt
  names-good (Ty-F.Meta c) w = tt
  names-good (Ty-F.Arr e) w = tt
  names-good (Ty-F.Hsh k v) w = tt
  names-good (Ty-F.Any ps) w = tt

  layer-good : (n : ℕ) (t : Ty) → IsGood L n t → IsLayer L (out-Ty t)
  layer-good n t g = let w = g.well in record { fitting = sym (fits_is L t) ∙ w.fitting; arranged = sym (arranged_is L t) ∙ w.arranged }

  plain-met : (n : ℕ) (p q : Ty) → IsGood L n p × IsTrue (is_part p) → IsGood L n q × IsTrue (is_part q) → IsMet n (meet_plain L p q)
  unfolding meet_plain names_of Named
  plain-met n p q g h = go (names_at (out-Ty p)) (names_at (out-Ty q)) (names-good (out-Ty p) (layer-good n p g.0)) (names-good (out-Ty q) (layer-good n q h.0))
    where
      go : (a b : Option (List (List ℕ))) → Named a → Named b → IsMet n (meet_named L p q a b)
      go (Some cs) (Some ds) k l = let m = l in names-met n cs ds k m.bodies
      go (Some cs) None k l = inner-met n p q g h
      go None (Some ds) k l = inner-met n p q g h
      go None None k l = inner-met n p q g h

  -- ---- lists of parts

  part-good : (n : ℕ) (ts : List Ty) → AreGood L n ts → (p : Ty) → Among p ts → IsGood L n p × IsTrue (is_part p)
  part-good n ts g p a = let w = g.well in (
    record {
      well = record { fitting = among-all (fits L) p ts a w.fitting; arranged = among-all (is_arranged L) p ts a w.arranged };
      cut = among-all (λ t. is_cut t n) p ts a g.cut;
    },
    among-all is_part p ts a w.parts,
  )

  met-good : (n : ℕ) (parts : List Ty) (o : Option Ty) → AreGood L n parts → IsMet n o → AreGood L n (with_met L parts o)
  unfolding IsMet
  met-good n parts None g h = g
  met-good n parts (Some m) g h = let k = h.0 in record {
    well = with-part-well L parts m g.well k.well h.1;
    cut = with-part-all (λ t. is_cut t n) L parts m g.cut k.cut;
  }

  row-good : (n : ℕ) (meet : Ty → Option Ty) (others parts : List Ty) → AreGood L n parts → ((q : Ty) → Among q others → IsMet n (meet q)) → AreGood L n (with_meets L meet others parts)
  row-good n meet [] parts g h = g
  row-good n meet (q ∷ others) parts g h = row-good n meet others (with_met L parts (meet q)) (met-good n parts (meet q) g (h q (inl refl))) (λ r a. h r (inr a))

  -- ---- types

  untyped-good : (n : ℕ) → IsGood L n ty.Untyped
  untyped-good n = let u = untyped-normal L in record {
    well = record { fitting = u.fitting; arranged = u.arranged };
    cut = ap (λ t. is_cut t n) (sym rolls-Untyped) ∙ cut_roll Ty-F.Untyped n;
  }

  -- what a type adds to parts by its meets
  abbrev AddsGood : Ty → Type 0
  AddsGood t = (n : ℕ) → IsGood L n t → is_untyped t ≡ false → (others : List Ty) → AreGood L n others → (parts : List Ty) → AreGood L n parts → AreGood L n (meets_of L t others parts)

  all-good : (t : Ty) → AddsGood t → (n : ℕ) (u : Ty) → IsGood L n t → IsGood L n u → IsGood L n (all_of L t u)
  all-good t adds n u g h = go (one_untyped t u) refl
    where
      go : (b : Bool) → one_untyped t u ≡ b → IsGood L n (if b then ty.Untyped else of_parts (meets_of L t (parts_of u) []))
      go true e = untyped-good n
      go false e = let
          typed = neither (is_untyped t) (is_untyped u) e in let
          k = adds n g typed.0 (parts_of u) (record { well = parts-well L u h.well typed.1; cut = parts-cut u n h.cut }) [] (record { well = none-well L; cut = refl }) in
          record { well = of-parts-well L (meets_of L t (parts_of u) []) k.well; cut = of-parts-cut (meets_of L t (parts_of u) []) n k.cut }

  all-untyped : (t u : Ty) → IsTrue (is_untyped t) → all_of L t u ≡ ty.Untyped
  all-untyped t u h = ap (λ b. if (b || is_untyped u) then ty.Untyped else of_parts (meets_of L t (parts_of u) [])) h

  pub is-untyped : IsTrue (is_untyped ty.Untyped)
  is-untyped = ap is_untyped_at (ap out-Ty (sym rolls-Untyped) ∙ out-roll-Ty Ty-F.Untyped)

  -- the meet of two arguments
  argument-good : (e f : Ty) → AddsGood e → (n : ℕ) → IsWell L e → IsWell L f → IsTrue (is_cut_argument e (is_cut e) n) → IsTrue (is_cut_argument f (is_cut f) n)
      → IsWell L (all_of L e f) × IsTrue (is_cut_argument (all_of L e f) (is_cut (all_of L e f)) n)
  argument-good e f adds n w v h k = go (nat_eq n 0) h k
    where
      go : (b : Bool) → IsTrue (if b then is_untyped e else is_cut e (n - 1)) → IsTrue (if b then is_untyped f else is_cut f (n - 1))
          → IsWell L (all_of L e f) × IsTrue (if b then is_untyped (all_of L e f) else is_cut (all_of L e f) (n - 1))
      go true i j = let g = untyped-good n in
          (subst (IsWell L) (sym (all-untyped e f i)) g.well, ap is_untyped (all-untyped e f i) ∙ is-untyped)
      go false i j = let g = all-good e adds (n - 1) f (record { well = w; cut = i }) (record { well = v; cut = j }) in (g.well, g.cut)

  -- with what the induction gives
  abbrev Adds : Type 0
  Adds = (t : Ty) × ((n : ℕ) → IsGood L n t → is_untyped t ≡ false → (others : List Ty) → AreGood L n others → (parts : List Ty) → AreGood L n parts → AreGood L n (meets_of L t others parts))

  abbrev it : Adds → Ty
  it e = e.0

  abbrev plain : Ty-F Adds → Ty-F Ty
  plain y = map-Ty Adds Ty it y

  pub arr-part : (x : Ty) → IsTrue (is_part (ty.Arr x))
  arr-part x = ap is_part_at (ap out-Ty (sym (rolls-Arr x)) ∙ out-roll-Ty (Ty-F.Arr x))

  pub hsh-part : (x y : Ty) → IsTrue (is_part (ty.Hsh x y))
  hsh-part x y = ap is_part_at (ap out-Ty (sym (rolls-Hsh x y)) ∙ out-roll-Ty (Ty-F.Hsh x y))

  module _ (n : ℕ) (p q : Ty) (g : IsGood L n p × IsTrue (is_part p)) (h : IsGood L n q × IsTrue (is_part q)) where
    array-met : (e : Ty) → AddsGood e → out-Ty p ≡ Ty-F.Arr e → IsMet n (meet_array L e (meets_of L e) q)
    unfolding meet_array IsMet
    array-met e adds is = go (out-Ty q) refl
      where
        apart : IsMet n (inner_part L (ty.Arr e) q)
        apart = subst (λ t. IsMet n (inner_part L t q)) (sym (sym (rolls-Arr e) ∙ ap roll-Ty (sym is) ∙ roll-out-Ty p)) (inner-met n p q g h)

        go : (z : Ty-F Ty) → out-Ty q ≡ z → IsMet n (meet_array_at L e (meets_of L e) q z)
        go (Ty-F.Arr f) k = let
            gp = g.0 in let
            hq = h.0 in let
            lp : IsLayer L (Ty-F.Arr e) = subst (IsLayer L) is (layer-good n p gp) in let
            lq : IsLayer L (Ty-F.Arr f) = subst (IsLayer L) k (layer-good n q hq) in let
            x = all_of L e f in let
            m = argument-good e f adds n (record { fitting = lp.fitting; arranged = lp.arranged }) (record { fitting = lq.fitting; arranged = lq.arranged })
            (sym (cut_is p n ∙ ap (λ y. is_cut_at (λ t. t) is_cut y n) is) ∙ gp.cut) (sym (cut_is q n ∙ ap (λ y. is_cut_at (λ t. t) is_cut y n) k) ∙ hq.cut) in let
            w = m.0 in (
              record {
                well = record { fitting = ap (fits L) (sym (rolls-Arr x)) ∙ fits_roll L (Ty-F.Arr x) ∙ w.fitting; arranged = ap (is_arranged L) (sym (rolls-Arr x)) ∙ arranged_roll L (Ty-F.Arr x) ∙ w.arranged };
                cut = ap (λ t. is_cut t n) (sym (rolls-Arr x)) ∙ cut_roll (Ty-F.Arr x) n ∙ m.1;
              },
              arr-part x,
            )
        go Ty-F.Untyped k = apart
        go Ty-F.Never k = apart
        go (Ty-F.Class c) k = apart
        go (Ty-F.Meta c) k = apart
        go (Ty-F.Hsh a b) k = apart
        go (Ty-F.Any ps) k = apart
        go (Ty-F.All ms) k = apart

    hash-met : (a b : Ty) → AddsGood a → AddsGood b → out-Ty p ≡ Ty-F.Hsh a b → IsMet n (meet_hash L a (meets_of L a) b (meets_of L b) q)
    unfolding meet_hash IsMet
    hash-met a b fa fb is = go (out-Ty q) refl
      where
        apart : IsMet n (inner_part L (ty.Hsh a b) q)
        apart = subst (λ t. IsMet n (inner_part L t q)) (sym (sym (rolls-Hsh a b) ∙ ap roll-Ty (sym is) ∙ roll-out-Ty p)) (inner-met n p q g h)

        go : (z : Ty-F Ty) → out-Ty q ≡ z → IsMet n (meet_hash_at L a (meets_of L a) b (meets_of L b) q z)
        go (Ty-F.Hsh c d) k = let
            gp = g.0 in let
            hq = h.0 in let
            lp : IsLayer L (Ty-F.Hsh a b) = subst (IsLayer L) is (layer-good n p gp) in let
            lq : IsLayer L (Ty-F.Hsh c d) = subst (IsLayer L) k (layer-good n q hq) in let
            cp = sym (cut_is p n ∙ ap (λ y. is_cut_at (λ t. t) is_cut y n) is) ∙ gp.cut in let
            cq = sym (cut_is q n ∙ ap (λ y. is_cut_at (λ t. t) is_cut y n) k) ∙ hq.cut in let
            x = all_of L a c in let
            y = all_of L b d in let
            m = argument-good a c fa n (record { fitting = and-first _ _ lp.fitting; arranged = and-first _ _ lp.arranged })
            (record { fitting = and-first _ _ lq.fitting; arranged = and-first _ _ lq.arranged })
            (and-first (is_cut_argument a (is_cut a) n) _ cp) (and-first (is_cut_argument c (is_cut c) n) _ cq) in let
            o = argument-good b d fb n (record { fitting = and-second (fits L a) _ lp.fitting; arranged = and-second (is_arranged L a) _ lp.arranged })
            (record { fitting = and-second (fits L c) _ lq.fitting; arranged = and-second (is_arranged L c) _ lq.arranged })
            (and-second (is_cut_argument a (is_cut a) n) _ cp) (and-second (is_cut_argument c (is_cut c) n) _ cq) in let
            w = m.0 in let
            v = o.0 in (
              record {
                well = record {
                  fitting = ap (fits L) (sym (rolls-Hsh x y)) ∙ fits_roll L (Ty-F.Hsh x y) ∙ and-both (fits L x) _ w.fitting v.fitting;
                  arranged = ap (is_arranged L) (sym (rolls-Hsh x y)) ∙ arranged_roll L (Ty-F.Hsh x y) ∙ and-both (is_arranged L x) _ w.arranged v.arranged;
                };
                cut = ap (λ t. is_cut t n) (sym (rolls-Hsh x y)) ∙ cut_roll (Ty-F.Hsh x y) n ∙ and-both (is_cut_argument x (is_cut x) n) _ m.1 o.1;
              },
              hsh-part x y,
            )
        go Ty-F.Untyped k = apart
        go Ty-F.Never k = apart
        go (Ty-F.Class c) k = apart
        go (Ty-F.Meta c) k = apart
        go (Ty-F.Arr e) k = apart
        go (Ty-F.Any ps) k = apart
        go (Ty-F.All ms) k = apart

    whole : (x : Ty-F Ty) (t : Ty) → t ≡ roll-Ty x → out-Ty p ≡ x → t ≡ p
    whole x t r e = r ∙ ap roll-Ty (sym e) ∙ roll-out-Ty p

    pair-good : (y : Ty-F Adds) → out-Ty p ≡ plain y → IsMet n (meet_at (λ t. t) (meets_of L) L (plain y) q)
    pair-good Ty-F.Untyped e = let f = sym (ap is_part_at e) ∙ g.1 in cc
    pair-good Ty-F.Never e = let f = sym (ap is_part_at e) ∙ g.1 in cc
    pair-good (Ty-F.Any ps) e = let f = sym (ap is_part_at e) ∙ g.1 in cc
    pair-good (Ty-F.Class c) e = subst (λ t. IsMet n (meet_plain L t q)) (sym (whole (Ty-F.Class c) (ty.Class c) (sym (rolls-Class c)) e)) (plain-met n p q g h)
    pair-good (Ty-F.Meta c) e = subst (λ t. IsMet n (meet_plain L t q)) (sym (whole (Ty-F.Meta c) (ty.Meta c) (sym (rolls-Meta c)) e)) (plain-met n p q g h)
    pair-good (Ty-F.All ms) e = subst (λ t. IsMet n (meet_plain L t q))
        (sym (ap ty.All (same-list (map it ms)) ∙ whole (Ty-F.All (map it ms)) (ty.All (map it ms)) (sym (rolls-All (map it ms))) e)) (plain-met n p q g h)
    pair-good (Ty-F.Arr d) e = array-met d.0 d.1 e
    pair-good (Ty-F.Hsh a b) e = hash-met a.0 b.0 a.1 b.1 e

  part-adds-good : (y : Ty-F Adds) (t : Ty) → t ≡ roll-Ty (plain y) → IsTrue (is_part_at (plain y)) → (n : ℕ) → IsGood L n t → (others : List Ty) → AreGood L n others → (parts : List Ty) → AreGood L n parts
      → AreGood L n (with_meets L (meet_parts L t) others parts)
  unfolding meet_parts
  part-adds-good y t e part n g others h parts k = row-good n (meet_at (λ u. u) (meets_of L) L (out-Ty t)) others parts k
      (λ q a. subst (λ x. IsMet n (meet_at (λ u. u) (meets_of L) L x q)) (sym layer)
      (pair-good n t q (g, ap is_part_at layer ∙ part) (part-good n others h q a) y layer))
    where
      layer : out-Ty t ≡ plain y
      layer = ap out-Ty e ∙ out-roll-Ty (plain y)

  each-good : (ps : List Adds) (n : ℕ) → AreGood L n (map it ps) → (others : List Ty) → AreGood L n others → (parts : List Ty) → AreGood L n parts → AreGood L n (meets_each (meets_of L) (map it ps) others parts)
  each-good [] n a others h parts k = k
  each-good (p ∷ ps) n a others h parts k = let
      first = part-good n (p.0 ∷ map it ps) a p.0 (inl refl) in let
      w = a.well in
      each-good ps n (record { well = rest-well L p.0 (map it ps) w; cut = and-second (is_cut p.0 n) _ a.cut }) others h (meets_of L p.0 others parts)
      (p.1 n first.0 (part-typed (out-Ty p.0) first.1) others h parts k)

  type-good : (y : Ty-F Adds) (t : Ty) → t ≡ roll-Ty (plain y) → AddsGood t
  type-good Ty-F.Untyped t e n g typed others h parts k = let f = sym (ap is_untyped_at (ap out-Ty e ∙ out-roll-Ty Ty-F.Untyped)) ∙ typed in cc
  type-good Ty-F.Never t e n g typed others h parts k = subst (AreGood L n) (sym (meets-never L t others parts (e ∙ rolls-Never))) k
  type-good (Ty-F.Class c) t e n g typed others h parts k = subst (AreGood L n) (sym (meets-class L t others parts c (e ∙ rolls-Class c))) (part-adds-good (Ty-F.Class c) t e refl n g others h parts k)
  type-good (Ty-F.Meta c) t e n g typed others h parts k = subst (AreGood L n) (sym (meets-meta L t others parts c (e ∙ rolls-Meta c))) (part-adds-good (Ty-F.Meta c) t e refl n g others h parts k)
  type-good (Ty-F.Arr d) t e n g typed others h parts k = subst (AreGood L n) (sym (meets-arr L t others parts d.0 (e ∙ rolls-Arr d.0))) (part-adds-good (Ty-F.Arr d) t e refl n g others h parts k)
  type-good (Ty-F.Hsh a b) t e n g typed others h parts k = subst (AreGood L n) (sym (meets-hsh L t others parts a.0 b.0 (e ∙ rolls-Hsh a.0 b.0)))
      (part-adds-good (Ty-F.Hsh a b) t e refl n g others h parts k)
  type-good (Ty-F.All ms) t e n g typed others h parts k = subst (AreGood L n) (sym (meets-all L t others parts (map it ms) (e ∙ rolls-All (map it ms))))
      (part-adds-good (Ty-F.All ms) t e refl n g others h parts k)
  type-good (Ty-F.Any ps) t e n g typed others h parts k = let
      layer : out-Ty t ≡ Ty-F.Any (map it ps) = ap out-Ty e ∙ out-roll-Ty (Ty-F.Any (map it ps)) in let
      l : IsLayer L (Ty-F.Any (map it ps)) = subst (IsLayer L) layer (layer-good n t g) in
      subst (AreGood L n) (sym (meets-any L t others parts (map it ps) (e ∙ rolls-Any (map it ps))))
      (each-good ps n (record { well = union-well L (map it ps) l.fitting l.arranged; cut = sym (cut_is t n ∙ ap (λ y. is_cut_at (λ u. u) is_cut y n) layer) ∙ g.cut }) others h parts k)

  adds-good : (t : Ty) → AddsGood t
  adds-good = ind-Ty AddsGood (λ x y is. type-good y (roll-Ty x) (ap roll-Ty (sym is)))

  pub all-normal : (t u : Ty) → IsNormal L t → IsNormal L u → IsNormal L (all_of L t u)
  all-normal t u n m = let
      g = all-good t (adds-good t) 8 u (record { well = is-well L t n; cut = n.shallow }) (record { well = is-well L u m; cut = m.shallow }) in let
      w = g.well in
      record { fitting = w.fitting; arranged = w.arranged; shallow = g.cut }

  pub meet-normal : (t u : Ty) → IsNormal L t → IsNormal L u → IsNormal L (meet_of L t u)
  unfolding meet_of
  meet-normal t u n m = go (is_untyped t) (is_untyped u)
    where
      go : (a b : Bool) → IsNormal L (if a then u else (if b then t else all_of L t u))
      go true b = m
      go false true = n
      go false false = all-normal t u n m
