-- A type that is cut is in normal form, and has all the shapes that it had.
use Rattle.std.proofs.Common.{◌≡◌, ℕ, ◌-◌, Bool, true, false, not, ◌&&◌, ◌||◌, List, [], ◌∷◌, map, inl, inr, refl, sym, ap, subst, ◌∙◌, nat_eq, if◌then◌else◌}
use Rattle.std.specs.Bool.{IsTrue}
use Rattle.std.specs.List.{list_all, list_any}
use Rattle.srb_terms.specs.declared.ty.Ty.{Ty, out-Ty}
use Rattle.srb_terms.specs.declared.ty.Ty.TheOpen.{Ty-F}
use Rattle.srb_terms.specs.declared.ty.Ty.TheVariants as ty
use Rattle.srb_terms.specs.declared.ty.Ty.TheVariants.{rolls-Untyped, rolls-Never, rolls-Class, rolls-Meta, rolls-Arr, rolls-Hsh, rolls-Any, rolls-All}
use Rattle.srb_terms.specs.declared.ty.Ty.TheViews.{roll-Ty, out-roll-Ty}
use Rattle.srb_terms.specs.declared.ty.Ty.TheFolds.{map-Ty, fold-roll-Ty, ind-Ty}
use Rattle.srb_shapes.specs.Lineages.{Lineage, IsLineage}
use Rattle.srb_shapes.specs.Shapes.{Shape, Shapes, array_of, hash_of, none, more, each_shape, IsShape, AreShapes, is_in_array, is_in_hash, belongs, fits}
use Rattle.srb_shapes_laws.proofs.Bools.{either, and-both, and-first, and-second, or-left, or-right, or-cases}
use Rattle.srb_shapes_laws.proofs.Equations.{fits_roll, belongs_roll}
use Rattle.srb_types.specs.Normal as normal
use Rattle.srb_types.specs.Normal.{is_untyped, with_part, is_shallow_argument, is_shallow_at, is_shallow, cut_argument, cut_each, cut_at, cut_anew, cut}
use Rattle.srb_types_laws.specs.NormalForms.{Among, is_part, is_part_at, is_arranged, is_cut_argument, is_cut_at, is_cut, IsNormal}
use Rattle.srb_types_laws.proofs.Layers.{IsLayer, arranged_roll, arranged_is, cut_roll, fits_is}
use Rattle.srb_types_laws.proofs.Parts.{IsWell, AreWell, is-well, none-well, union-well, of-parts-well, of-parts-cut, with-part-well, with-part-all, untyped-normal}
use Rattle.srb_types_laws.proofs.Joined.{of-parts-has, part-adds}
use Rattle.srb_types_laws.proofs.Inclusions.{member-is}
use Rattle.srb_types_laws.proofs.Results.{is-untyped, arr-part, hsh-part}

-- ---- by layers

shallow_roll : (x : Ty-F Ty) (n : ℕ) → is_shallow (roll-Ty x) n ≡ is_shallow_at (map-Ty Ty (ℕ → Bool) is_shallow x) n
unfolding is_shallow
shallow_roll x n = ap (λ (f : ℕ → Bool). f n) (fold-roll-Ty (ℕ → Bool) (λ t. is_shallow_at t) x)

anew_roll : (L : Lineage) (x : Ty-F Ty) (n : ℕ) → cut_anew L (roll-Ty x) n ≡ cut_at L (map-Ty Ty (ℕ → Ty) (cut_anew L) x) n
unfolding cut_anew
anew_roll L x n = ap (λ (f : ℕ → Ty). f n) (fold-roll-Ty (ℕ → Ty) (λ t. cut_at L t) x)

-- ---- what isn't so deep is cut so

-- with what the induction gives
abbrev Shallow : Type 0
Shallow = (t : Ty) × ((n : ℕ) → IsTrue (is_shallow t n) → IsTrue (is_cut t n))

abbrev shallow-it : Shallow → Ty
shallow-it e = e.0

shallow-argument : (e : Shallow) (n : ℕ) → IsTrue (is_shallow_argument (is_shallow e.0) n) → IsTrue (is_cut_argument e.0 (is_cut e.0) n)
shallow-argument e n h = go (nat_eq n 0) h
  where
    go : (b : Bool) → IsTrue (not b && is_shallow e.0 (n - 1)) → IsTrue (if b then is_untyped e.0 else is_cut e.0 (n - 1))
    go true k = cc
    go false k = e.1 (n - 1) k

shallow-each : (ps : List Shallow) (n : ℕ) → IsTrue (list_all (λ (p : ℕ → Bool). p n) (map is_shallow (map shallow-it ps))) → IsTrue (list_all (λ t. is_cut t n) (map shallow-it ps))
shallow-each [] n h = refl
shallow-each (p ∷ ps) n h = and-both (is_cut p.0 n) _ (p.1 n (and-first _ _ h)) (shallow-each ps n (and-second (is_shallow p.0 n) _ h))

shallow-layer : (y : Ty-F Shallow) (n : ℕ) → IsTrue (is_shallow_at (map-Ty Ty (ℕ → Bool) is_shallow (map-Ty Shallow Ty shallow-it y)) n)
    → IsTrue (is_cut_at (λ t. t) is_cut (map-Ty Shallow Ty shallow-it y) n)
shallow-layer (Ty-F.Arr e) n h = shallow-argument e n h
shallow-layer (Ty-F.Hsh k v) n h = and-both (is_cut_argument k.0 (is_cut k.0) n) _ (shallow-argument k n (and-first _ _ h))
    (shallow-argument v n (and-second (is_shallow_argument (is_shallow k.0) n) _ h))
shallow-layer (Ty-F.Any ps) n h = shallow-each ps n h
shallow-layer y n h = refl

shallow-type : (y : Ty-F Shallow) (n : ℕ) → IsTrue (is_shallow (roll-Ty (map-Ty Shallow Ty shallow-it y)) n) → IsTrue (is_cut (roll-Ty (map-Ty Shallow Ty shallow-it y)) n)
shallow-type y n h = cut_roll (map-Ty Shallow Ty shallow-it y) n ∙ shallow-layer y n (sym (shallow_roll (map-Ty Shallow Ty shallow-it y) n) ∙ h)

shallow-cut : (t : Ty) (n : ℕ) → IsTrue (is_shallow t n) → IsTrue (is_cut t n)
shallow-cut = ind-Ty (λ t. (n : ℕ) → IsTrue (is_shallow t n) → IsTrue (is_cut t n))
    (λ x y is. subst (λ z. (n : ℕ) → IsTrue (is_shallow (roll-Ty z) n) → IsTrue (is_cut (roll-Ty z) n)) is (shallow-type y))

-- ---- types that are cut anew

module _ (L : Lineage) (laws : IsLineage L) where
  -- what is asked of a type that is cut: it is in normal form, as deep as it may be, a part where it was one, and lacks no shape
  record IsAnew (t u : Ty) (n : ℕ) : Type 0 where
    pub well : IsWell L u
    pub cut : IsTrue (is_cut u n)
    pub part : IsTrue (is_part t) → IsTrue (is_part u)
    pub keeps : (s : Shape) → IsShape true L s → IsTrue (belongs true L t s) → IsTrue (belongs true L u s)

  -- with what the induction gives
  abbrev Anew : Type 0
  Anew = (t : Ty) × ((n : ℕ) → IsWell L t → IsAnew t (cut_anew L t n) n)

  abbrev it : Anew → Ty
  it e = e.0

  abbrev plain : Ty-F Anew → Ty-F Ty
  plain y = map-Ty Anew Ty it y

  same-anew : (t u : Ty) (n : ℕ) → t ≡ u → IsWell L t → IsTrue (is_cut t n) → IsAnew t u n
  same-anew t u n e w c = subst (λ x. IsAnew t x n) e (record { well = w; cut = c; part = λ h. h; keeps = λ s v h. h })

  -- an argument
  record IsArgument (e x : Ty) (n : ℕ) : Type 0 where
    pub well : IsWell L x
    pub cut : IsTrue (is_cut_argument x (is_cut x) n)
    pub keeps : (s : Shape) → IsShape true L s → IsTrue (belongs true L e s) → IsTrue (belongs true L x s)

  untyped-keeps : (s : Shape) → IsTrue (belongs true L ty.Untyped s)
  untyped-keeps s = ap (λ t. belongs true L t s) (sym rolls-Untyped) ∙ belongs_roll true L Ty-F.Untyped s

  argument-anew : (e : Anew) (n : ℕ) → IsWell L e.0 → IsArgument e.0 (cut_argument (cut_anew L e.0) n) n
  argument-anew e n w = go (nat_eq n 0) refl
    where
      go : (b : Bool) → nat_eq n 0 ≡ b → IsArgument e.0 (if b then ty.Untyped else cut_anew L e.0 (n - 1)) n
      go true f = let u = untyped-normal L in record {
        well = is-well L ty.Untyped u;
        cut = ap (λ b. if b then is_untyped ty.Untyped else is_cut ty.Untyped (n - 1)) f ∙ is-untyped L laws;
        keeps = λ s v h. untyped-keeps s;
      }
      go false f = let a = e.1 (n - 1) w in record {
        well = a.well;
        cut = ap (λ b. if b then is_untyped (cut_anew L e.0 (n - 1)) else is_cut (cut_anew L e.0 (n - 1)) (n - 1)) f ∙ a.cut;
        keeps = a.keeps;
      }

  each-kept : (e x : Ty) → ((s : Shape) → IsShape true L s → IsTrue (belongs true L e s) → IsTrue (belongs true L x s)) → (set : Shapes) → AreShapes true L set
      → IsTrue (each_shape (belongs true L e) set) → IsTrue (each_shape (belongs true L x) set)
  each-kept e x h none v k = refl
  each-kept e x h (more s set) v k = and-both (belongs true L x s) _ (h s v.0 (and-first _ _ k)) (each-kept e x h set v.1 (and-second (belongs true L e s) _ k))

  array-kept : (e x : Ty) → ((s : Shape) → IsShape true L s → IsTrue (belongs true L e s) → IsTrue (belongs true L x s)) → (s : Shape) → IsShape true L s
      → IsTrue (is_in_array (belongs true L e) s) → IsTrue (is_in_array (belongs true L x) s)
  array-kept e x h (array_of set) v k = each-kept e x h set v k
  array-kept e x h s v k = cc

  hash-kept : (a b x y : Ty) → ((s : Shape) → IsShape true L s → IsTrue (belongs true L a s) → IsTrue (belongs true L x s))
      → ((s : Shape) → IsShape true L s → IsTrue (belongs true L b s) → IsTrue (belongs true L y s)) → (s : Shape) → IsShape true L s
      → IsTrue (is_in_hash (belongs true L a) (belongs true L b) s) → IsTrue (is_in_hash (belongs true L x) (belongs true L y) s)
  hash-kept a b x y f g (hash_of keys values) v k = and-both (each_shape (belongs true L x) keys) _ (each-kept a x f keys v.0 (and-first _ _ k))
      (each-kept b y g values v.1 (and-second (each_shape (belongs true L a) keys) _ k))
  hash-kept a b x y f g s v k = cc

  arr-anew : (t e x : Ty) (n : ℕ) → t ≡ roll-Ty (Ty-F.Arr e) → IsArgument e x n → IsAnew t (ty.Arr x) n
  arr-anew t e x n is a = let w = a.well in record {
    well = record { fitting = ap (fits L) (sym (rolls-Arr x)) ∙ fits_roll L (Ty-F.Arr x) ∙ w.fitting; arranged = ap (is_arranged L) (sym (rolls-Arr x)) ∙ arranged_roll L (Ty-F.Arr x) ∙ w.arranged };
    cut = ap (λ t. is_cut t n) (sym (rolls-Arr x)) ∙ cut_roll (Ty-F.Arr x) n ∙ a.cut;
    part = λ h. arr-part L laws x;
    keeps = λ s v h. ap (λ t. belongs true L t s) (sym (rolls-Arr x)) ∙ belongs_roll true L (Ty-F.Arr x) s
        ∙ array-kept e x a.keeps s v (sym (ap (λ t. belongs true L t s) is ∙ belongs_roll true L (Ty-F.Arr e) s) ∙ h);
  }

  hsh-anew : (t c d x y : Ty) (n : ℕ) → t ≡ roll-Ty (Ty-F.Hsh c d) → IsArgument c x n → IsArgument d y n → IsAnew t (ty.Hsh x y) n
  hsh-anew t c d x y n is a b = let w = a.well in let v = b.well in record {
    well = record {
      fitting = ap (fits L) (sym (rolls-Hsh x y)) ∙ fits_roll L (Ty-F.Hsh x y) ∙ and-both (fits L x) _ w.fitting v.fitting;
      arranged = ap (is_arranged L) (sym (rolls-Hsh x y)) ∙ arranged_roll L (Ty-F.Hsh x y) ∙ and-both (is_arranged L x) _ w.arranged v.arranged;
    };
    cut = ap (λ t. is_cut t n) (sym (rolls-Hsh x y)) ∙ cut_roll (Ty-F.Hsh x y) n ∙ and-both (is_cut_argument x (is_cut x) n) _ a.cut b.cut;
    part = λ h. hsh-part L laws x y;
    keeps = λ s k h. ap (λ t. belongs true L t s) (sym (rolls-Hsh x y)) ∙ belongs_roll true L (Ty-F.Hsh x y) s
        ∙ hash-kept c d x y a.keeps b.keeps s k (sym (ap (λ t. belongs true L t s) is ∙ belongs_roll true L (Ty-F.Hsh c d) s) ∙ h);
  }

  -- ---- the parts of a union

  record AreAnew (ps : List Ty) (parts : List Ty) (n : ℕ) (ts : List Ty) : Type 0 where
    pub well : AreWell L ts
    pub cut : IsTrue (list_all (λ t. is_cut t n) ts)
    pub keeps : (s : Shape) → IsShape true L s → IsTrue (list_any (λ t. belongs true L t s) parts || list_any (λ t. belongs true L t s) ps) → IsTrue (list_any (λ t. belongs true L t s) ts)

  each-anew : (ps : List Anew) (n : ℕ) → IsTrue (list_all (fits L) (map it ps)) → IsTrue (list_all (is_arranged L) (map it ps)) → IsTrue (list_all is_part (map it ps))
      → (parts : List Ty) → AreWell L parts → IsTrue (list_all (λ t. is_cut t n) parts) → AreAnew (map it ps) parts n (cut_each L (map (cut_anew L) (map it ps)) n parts)
  each-anew [] n f a p parts w c = record { well = w; cut = c; keeps = λ s v h. either (λ k. k) (λ k. cc) (or-cases (list_any (λ t. belongs true L t s) parts) _ h) }
  each-anew (q ∷ ps) n f a p parts w c = let
      m = q.1 n (record { fitting = and-first _ _ f; arranged = and-first _ _ a }) in let
      u = cut_anew L q.0 n in let
      rest = each-anew ps n (and-second (fits L q.0) _ f) (and-second (is_arranged L q.0) _ a) (and-second (is_part q.0) _ p) (with_part L parts u)
      (with-part-well L parts u w m.well (m.part (and-first _ _ p))) (with-part-all (λ t. is_cut t n) L parts u c m.cut) in record {
        well = rest.well;
        cut = rest.cut;
        keeps = λ s v h. rest.keeps s v (either
            (λ k. or-left (list_any (λ t. belongs true L t s) (with_part L parts u)) _ (part-adds L laws s v parts u ∙ or-left (list_any (λ t. belongs true L t s) parts) _ k))
            (λ k. either
            (λ b. or-left (list_any (λ t. belongs true L t s) (with_part L parts u)) _
            (part-adds L laws s v parts u ∙ or-right (list_any (λ t. belongs true L t s) parts) _ (m.keeps s v b)))
            (λ b. or-right (list_any (λ t. belongs true L t s) (with_part L parts u)) _ b)
            (or-cases (belongs true L q.0 s) _ k))
            (or-cases (list_any (λ t. belongs true L t s) parts) _ h));
      }

  -- the members of an intersection stay
  class-anew : (c : List ℕ) (n : ℕ) → cut_anew L (ty.Class c) n ≡ ty.Class c
  class-anew c n = ap (λ t. cut_anew L t n) (sym (rolls-Class c)) ∙ anew_roll L (Ty-F.Class c) n

  members-anew : (ms : List Ty) (n : ℕ) → ((m : Ty) → Among m ms → (c : List ℕ) × (m ≡ ty.Class c)) → map (λ (m : ℕ → Ty). m n) (map (cut_anew L) ms) ≡ ms
  members-anew [] n h = refl
  members-anew (m ∷ ms) n h = let
      k = h m (inl refl) in let
      first = ap (λ t. cut_anew L t n) k.1 ∙ class-anew k.0 n ∙ sym k.1 in let
      rest = members-anew ms n (λ x a. h x (inr a)) in
      λ i. first i ∷ rest i

  -- ---- each type

  type-anew : (y : Ty-F Anew) (t : Ty) → t ≡ roll-Ty (plain y) → (n : ℕ) → IsWell L t → IsAnew t (cut_at L (map-Ty Ty (ℕ → Ty) (cut_anew L) (plain y)) n) n
  type-anew y t e n w = go y e (subst (IsLayer L) (ap out-Ty e ∙ out-roll-Ty (plain y)) (record { fitting = sym (fits_is L t) ∙ w.fitting; arranged = sym (arranged_is L t) ∙ w.arranged }))
    where
      leaf : (x : Ty-F Ty) (u : Ty) → t ≡ roll-Ty x → roll-Ty x ≡ u → is_cut_at (λ z. z) is_cut x n ≡ true → IsAnew t u n
      leaf x u f r c = same-anew t u n (f ∙ r) w (ap (λ z. is_cut z n) f ∙ cut_roll x n ∙ c)

      go : (y : Ty-F Anew) → t ≡ roll-Ty (plain y) → IsLayer L (plain y) → IsAnew t (cut_at L (map-Ty Ty (ℕ → Ty) (cut_anew L) (plain y)) n) n
      go Ty-F.Untyped f l = leaf Ty-F.Untyped ty.Untyped f rolls-Untyped refl
      go Ty-F.Never f l = leaf Ty-F.Never ty.Never f rolls-Never refl
      go (Ty-F.Class c) f l = leaf (Ty-F.Class c) (ty.Class c) f (rolls-Class c) refl
      go (Ty-F.Meta c) f l = leaf (Ty-F.Meta c) (ty.Meta c) f (rolls-Meta c) refl
      go (Ty-F.All ms) f l = leaf (Ty-F.All (map it ms)) (ty.All (map (λ (m : ℕ → Ty). m n) (map (cut_anew L) (map it ms)))) f
          (rolls-All (map it ms) ∙ ap ty.All (sym (members-anew (map it ms) n (λ m a. let k = member-is L (map it ms) l.fitting m a in (k.0, k.1))))) refl
      go (Ty-F.Arr d) f l = arr-anew t d.0 (cut_argument (cut_anew L d.0) n) n f (argument-anew d n (record { fitting = l.fitting; arranged = l.arranged }))
      go (Ty-F.Hsh a b) f l = hsh-anew t a.0 b.0 (cut_argument (cut_anew L a.0) n) (cut_argument (cut_anew L b.0) n) n f
          (argument-anew a n (record { fitting = and-first _ _ l.fitting; arranged = and-first _ _ l.arranged }))
          (argument-anew b n (record { fitting = and-second (fits L a.0) _ l.fitting; arranged = and-second (is_arranged L a.0) _ l.arranged }))
      go (Ty-F.Any ps) f l = let
          a = union-well L (map it ps) l.fitting l.arranged in let
          m = each-anew ps n a.fitting a.arranged a.parts [] (none-well L) refl in let
          ts = cut_each L (map (cut_anew L) (map it ps)) n [] in record {
            well = of-parts-well L ts m.well;
            cut = of-parts-cut ts n m.cut;
            part = λ h. let g = sym (ap is_part_at (ap out-Ty f ∙ out-roll-Ty (Ty-F.Any (map it ps)))) ∙ h in cc;
            keeps = λ s v h. of-parts-has true L s ts ∙ m.keeps s v (sym (ap (λ z. belongs true L z s) f ∙ belongs_roll true L (Ty-F.Any (map it ps)) s) ∙ h);
          }

  anew : (t : Ty) (n : ℕ) → IsWell L t → IsAnew t (cut_anew L t n) n
  anew = ind-Ty (λ t. (n : ℕ) → IsWell L t → IsAnew t (cut_anew L t n) n)
      (λ x y is n w. subst (λ u. IsAnew (roll-Ty x) u n)
      (ap (λ z. cut_at L (map-Ty Ty (ℕ → Ty) (cut_anew L) z) n) is ∙ sym (anew_roll L x n)) (type-anew y (roll-Ty x) (ap roll-Ty (sym is)) n w))

  -- ---- arrays and hashes

  cut-argument : (e : Ty) → IsNormal L e → IsArgument e (cut L 7 e) 8
  unfolding cut
  cut-argument e n = go (is_shallow e 7) refl
    where
      go : (b : Bool) → is_shallow e 7 ≡ b → IsArgument e (if b then e else cut_anew L e 7) 8
      go true f = record { well = is-well L e n; cut = shallow-cut e 7 f; keeps = λ s v h. h }
      go false f = let a = anew e 7 (is-well L e n) in record { well = a.well; cut = a.cut; keeps = a.keeps }

  normal-anew : (t u : Ty) → IsAnew t u 8 → IsNormal L u
  normal-anew t u a = let w = a.well in record { fitting = w.fitting; arranged = w.arranged; shallow = a.cut }

  array-anew : (e : Ty) → IsNormal L e → IsAnew (ty.Arr e) (normal.array_of L e) 8
  unfolding normal.array_of
  array-anew e n = arr-anew (ty.Arr e) e (cut L 7 e) 8 (sym (rolls-Arr e)) (cut-argument e n)

  hash-anew : (k v : Ty) → IsNormal L k → IsNormal L v → IsAnew (ty.Hsh k v) (normal.hash_of L k v) 8
  unfolding normal.hash_of
  hash-anew k v n m = hsh-anew (ty.Hsh k v) k v (cut L 7 k) (cut L 7 v) 8 (sym (rolls-Hsh k v)) (cut-argument k n) (cut-argument v m)

  pub array-normal : (e : Ty) → IsNormal L e → IsNormal L (normal.array_of L e)
  array-normal e n = normal-anew (ty.Arr e) (normal.array_of L e) (array-anew e n)

  pub hash-normal : (k v : Ty) → IsNormal L k → IsNormal L v → IsNormal L (normal.hash_of L k v)
  hash-normal k v n m = normal-anew (ty.Hsh k v) (normal.hash_of L k v) (hash-anew k v n m)

  pub array-keeps : (e : Ty) (s : Shape) → IsNormal L e → IsShape true L s → IsTrue (belongs true L (ty.Arr e) s) → IsTrue (belongs true L (normal.array_of L e) s)
  array-keeps e s n = let a = array-anew e n in a.keeps s

  pub hash-keeps : (k v : Ty) (s : Shape) → IsNormal L k → IsNormal L v → IsShape true L s → IsTrue (belongs true L (ty.Hsh k v) s) → IsTrue (belongs true L (normal.hash_of L k v) s)
  hash-keeps k v s n m = let a = hash-anew k v n m in a.keeps s

-- what isn't too deep stays as it is
cut-stays : (L : Lineage) (e : Ty) → IsTrue (is_shallow e 7) → cut L 7 e ≡ e
unfolding cut
cut-stays L e h = ap (λ b. if b then e else cut_anew L e 7) h

pub array-stays : (L : Lineage) (e : Ty) → IsTrue (is_shallow e 7) → normal.array_of L e ≡ ty.Arr e
unfolding normal.array_of
array-stays L e h = ap ty.Arr (cut-stays L e h)

pub hash-stays : (L : Lineage) (k v : Ty) → IsTrue (is_shallow k 7 && is_shallow v 7) → normal.hash_of L k v ≡ ty.Hsh k v
unfolding normal.hash_of
hash-stays L k v h = let a = cut-stays L k (and-first _ _ h) in let b = cut-stays L v (and-second (is_shallow k 7) _ h) in λ i. ty.Hsh (a i) (b i)
