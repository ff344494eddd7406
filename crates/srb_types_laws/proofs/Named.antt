-- Intersections of classes and modules have the shapes that belong to each of them.
use Rattle.std.proofs.Common.{◌≡◌, ℕ, ◌⊎◌, Bool, true, false, not, cond, ◌&&◌, List, [], ◌∷◌, map, Option, Some, None, inl, inr, refl, sym, ap, subst, ◌∙◌, codes, if◌then◌else◌}
use Rattle.std.specs.Bool.{IsTrue}
use Rattle.std.specs.List.{filter, list_all, list_any}
use Rattle.srb_terms.specs.declared.fact.Kind.{Kind}
use Rattle.srb_terms.specs.declared.fact.Kind.TheVariants as kind
use Rattle.srb_terms.specs.declared.ty.Ty.{Ty, out-Ty}
use Rattle.srb_terms.specs.declared.ty.Ty.TheOpen.{Ty-F}
use Rattle.srb_terms.specs.declared.ty.Ty.TheVariants as ty
use Rattle.srb_terms.specs.declared.ty.Ty.TheVariants.{rolls-Class, rolls-All}
use Rattle.srb_terms.specs.declared.ty.Ty.TheViews.{out-roll-Ty}
use Rattle.srb_shapes.specs.Comparing.{lies_in}
use Rattle.srb_shapes.specs.Lineages.{Lineage, IsLineage, Has, object_lin, is_class}
use Rattle.srb_shapes.specs.Shapes.{Shape, instance_of, object_of, array_of, hash_of, unknown, IsShape, is_in_class, belongs_at, belongs}
use Rattle.srb_shapes.proofs.Steps.{all-mapped}
use Rattle.srb_shapes_laws.proofs.Bools.{either, and-both, and-first, and-second, or-cases}
use Rattle.srb_shapes_laws.proofs.Equations.{belongs_roll, belongs_is}
use Rattle.srb_shapes_laws.proofs.Sound.{sound}
use Rattle.srb_types.specs.Normal as normal
use Rattle.srb_types.specs.Normal.{class_name_at, name_before, class_names, names_at, names_of, is_under, with_name, with_names, is_class_kind, has_two_classes, of_names, meet_names}
use Rattle.srb_types.specs.Order.{before_all, placed}
use Rattle.srb_types_laws.specs.NormalForms.{Among, is_apart, all_apart, are_apart}
use Rattle.srb_types_laws.proofs.Elements.{among-all, some-among, not-both}
use Rattle.srb_types_laws.proofs.Joined.{same-answer}
use Rattle.srb_types_laws.proofs.Lists.{all-both, none-passes, all-filtered, filtered-pass, apart-filtered, all-placed, apart-placed}
use Rattle.srb_types_laws.proofs.Layers.{IsLayer, same-list}
use Rattle.srb_types_laws.proofs.Inclusions.{member-is, class-lies}

and-true : (a : Bool) → (a && true) ≡ a
and-true true = refl
and-true false = refl

-- what all of a list with one more pass, both pass
pub placed-first : {A : Type 0} (p : A → Bool) (text : A → List ℕ) (x : A) (xs : List A) → IsTrue (list_all p (placed text x xs)) → IsTrue (p x) × IsTrue (list_all p xs)
placed-first p text x [] h = (and-first _ _ h, refl)
placed-first {A} p text x (y ∷ ys) h = go (before_all text (text x) (y ∷ ys)) h (placed-first p text x ys)
  where
    go : (b : Bool) → IsTrue (list_all p (if b then x ∷ y ∷ ys else y ∷ placed text x ys)) → (IsTrue (list_all p (placed text x ys)) → IsTrue (p x) × IsTrue (list_all p ys))
        → IsTrue (p x) × IsTrue (list_all p (y ∷ ys))
    go true k next = (and-first _ _ k, and-second (p x) _ k)
    go false k next = let n = next (and-second (p y) _ k) in (n.0, and-both (p y) _ (and-first _ _ k) n.1)

-- what those that are left pass, and those that are left out too, all pass
all-from-left : {A : Type 0} (p out : A → Bool) (xs : List A) → ((x : A) → IsTrue (out x) → IsTrue (p x)) → IsTrue (list_all p (filter (λ x. not (out x)) xs)) → IsTrue (list_all p xs)
all-from-left p out [] f h = refl
all-from-left p out (x ∷ xs) f h = go (out x) refl h (all-from-left p out xs f)
  where
    go : (b : Bool) → out x ≡ b → IsTrue (list_all p (cond (not b) (x ∷ filter (λ y. not (out y)) xs) (filter (λ y. not (out y)) xs)))
        → (IsTrue (list_all p (filter (λ y. not (out y)) xs)) → IsTrue (list_all p xs)) → IsTrue (p x && list_all p xs)
    go true e k next = and-both (p x) _ (f x e) (next k)
    go false e k next = and-both (p x) _ (and-first _ _ k) (next (and-second (p x) _ k))

pub apart-mapped : {A B : Type 0} (test : B → B → Bool) (g : A → B) (xs : List A) → all_apart test (map g xs) ≡ all_apart (λ x y. test (g x) (g y)) xs
apart-mapped test g [] = refl
apart-mapped test g (x ∷ xs) = let a = all-mapped (is_apart test (g x)) g xs in let b = apart-mapped test g xs in λ i. a i && b i

pub class-kind : (k : Option Kind) → is_class_kind k ≡ is_class k
class-kind None = refl
class-kind (Some kind.Class) = refl
class-kind (Some kind.Module) = refl
class-kind (Some kind.Value) = refl

-- the members of an intersection, by their names
named-members : (L : Lineage) (ms : List Ty) → ((m : Ty) → Among m ms → (c : List ℕ) × (m ≡ ty.Class c)) → (cs : List (List ℕ)) × (ms ≡ map (λ c. ty.Class c) cs)
named-members L [] h = ([], refl)
named-members L (m ∷ ms) h = let
    k = h m (inl refl) in let
    rest = named-members L ms (λ n a. h n (inr a)) in
    (k.0 ∷ rest.0, λ i. k.1 i ∷ rest.1 i)

pub class-names-are : (cs : List (List ℕ)) → class_names (map (λ c. ty.Class c) cs) ≡ cs
class-names-are [] = refl
class-names-are (c ∷ cs) = let
    e = ap class_name_at (ap out-Ty (sym (rolls-Class c)) ∙ out-roll-Ty (Ty-F.Class c)) in let
    rest = class-names-are cs in
    λ i. name_before (e i) (rest i)

pub class-has : (r : Bool) (L : Lineage) (c : List ℕ) (s : Shape) → belongs r L (ty.Class c) s ≡ is_in_class L c s
class-has r L c s = ap (λ t. belongs r L t s) (sym (rolls-Class c)) ∙ belongs_roll r L (Ty-F.Class c) s

module _ (L : Lineage) (laws : IsLineage L) where
  -- two classes to which one shape belongs inherit from each other
  chain-object : (k : Option Kind) (c d : List ℕ) → Has (object_lin L k) c → Has (object_lin L k) d → IsTrue (is_class (L.kind c)) → IsTrue (is_class (L.kind d))
      → Has (L.lin c) d ⊎ Has (L.lin d) c
  chain-object None c d h k p q = cc
  chain-object (Some kind.Class) c d h k p q = laws.chain (codes "Class") c d h k p q
  chain-object (Some kind.Module) c d h k p q = laws.chain (codes "Module") c d h k p q
  chain-object (Some kind.Value) c d h k p q = cc

  chain-shape : (s : Shape) → IsShape true L s → (c d : List ℕ) → IsTrue (is_in_class L c s) → IsTrue (is_in_class L d s) → IsTrue (is_class (L.kind c)) → IsTrue (is_class (L.kind d))
      → Has (L.lin c) d ⊎ Has (L.lin d) c
  chain-shape (instance_of names) v c d h k p q = v.chain c d h k p q
  chain-shape (object_of e) v c d h k p q = chain-object (L.kind e) c d h k p q
  chain-shape (array_of elements) v c d h k p q = laws.chain (codes "Array") c d h k p q
  chain-shape (hash_of keys values) v c d h k p q = laws.chain (codes "Hash") c d h k p q
  chain-shape unknown v c d h k p q = cc

  -- ---- names that don't stand under each other

  with-name-apart : (names : List (List ℕ)) (c : List ℕ) → IsTrue (all_apart (is_under L) names) → IsTrue (all_apart (is_under L) (with_name L names c))
  unfolding with_name
  with-name-apart names c h = go (list_any (λ d. is_under L d c) names) refl
    where
      go : (b : Bool) → list_any (λ d. is_under L d c) names ≡ b
          → IsTrue (all_apart (is_under L) (if b then names else placed (λ d. d) c (filter (λ d. not (is_under L c d)) names)))
      go true e = h
      go false e = apart-placed (is_under L) (λ d. d) c (filter (λ d. not (is_under L c d)) names)
          (all-both (λ d. not (is_under L c d)) (λ d. not (is_under L d c)) (is_apart (is_under L) c) (λ d p q. and-both (not (is_under L c d)) _ p q)
          (filter (λ d. not (is_under L c d)) names) (filtered-pass (λ d. not (is_under L c d)) names)
          (all-filtered (λ d. not (is_under L d c)) (λ d. not (is_under L c d)) names (none-passes (λ d. is_under L d c) names e)))
          (apart-filtered (is_under L) (λ d. not (is_under L c d)) names h)

  pub with-names-apart : (names more : List (List ℕ)) → IsTrue (all_apart (is_under L) names) → IsTrue (all_apart (is_under L) (with_names L names more))
  with-names-apart names [] h = h
  with-names-apart names (c ∷ more) h = with-names-apart (with_name L names c) more (with-name-apart names c h)

  module _ (s : Shape) (valid : IsShape true L s) where
    abbrev pub InAll : List (List ℕ) → Bool
    InAll names = list_all (λ c. belongs true L (ty.Class c) s) names

    up : (c d : List ℕ) → IsTrue (is_under L c d) → IsTrue (belongs true L (ty.Class c) s) → IsTrue (belongs true L (ty.Class d) s)
    up c d h b = sound L laws true (ty.Class c) (ty.Class d) s valid b (class-lies true L c d ∙ h)

    name-to : (names : List (List ℕ)) (c : List ℕ) → IsTrue (InAll (with_name L names c)) → IsTrue (InAll names) × IsTrue (belongs true L (ty.Class c) s)
    unfolding with_name
    name-to names c h = go (list_any (λ d. is_under L d c) names) refl h
      where
        go : (b : Bool) → list_any (λ d. is_under L d c) names ≡ b → IsTrue (InAll (if b then names else placed (λ d. d) c (filter (λ d. not (is_under L c d)) names)))
            → IsTrue (InAll names) × IsTrue (belongs true L (ty.Class c) s)
        go true e k = let d = some-among (λ d. is_under L d c) names e in
            (k, up d.0 c d.2 (among-all (λ x. belongs true L (ty.Class x) s) d.0 names d.1 k))
        go false e k = let p = placed-first (λ x. belongs true L (ty.Class x) s) (λ d. d) c (filter (λ d. not (is_under L c d)) names) k in
            (all-from-left (λ x. belongs true L (ty.Class x) s) (is_under L c) names (λ x o. up c x o p.0) p.1, p.0)

    name-from : (names : List (List ℕ)) (c : List ℕ) → IsTrue (InAll names) → IsTrue (belongs true L (ty.Class c) s) → IsTrue (InAll (with_name L names c))
    unfolding with_name
    name-from names c h b = go (list_any (λ d. is_under L d c) names)
      where
        go : (t : Bool) → IsTrue (InAll (if t then names else placed (λ d. d) c (filter (λ d. not (is_under L c d)) names)))
        go true = h
        go false = all-placed (λ x. belongs true L (ty.Class x) s) (λ d. d) c (filter (λ d. not (is_under L c d)) names) b
            (all-filtered (λ x. belongs true L (ty.Class x) s) (λ d. not (is_under L c d)) names h)

    names-to : (names more : List (List ℕ)) → IsTrue (InAll (with_names L names more)) → IsTrue (InAll names) × IsTrue (InAll more)
    names-to names [] h = (h, refl)
    names-to names (c ∷ more) h = let
        k = names-to (with_name L names c) more h in let
        l = name-to names c k.0 in
        (l.0, and-both (belongs true L (ty.Class c) s) _ l.1 k.1)

    names-from : (names more : List (List ℕ)) → IsTrue (InAll names) → IsTrue (InAll more) → IsTrue (InAll (with_names L names more))
    names-from names [] h k = h
    names-from names (c ∷ more) h k = names-from (with_name L names c) more (name-from names c h (and-first _ _ k)) (and-second (belongs true L (ty.Class c) s) _ k)

    -- no shape belongs to two classes that don't inherit from each other
    no-two : (names : List (List ℕ)) → IsTrue (all_apart (is_under L) names) → IsTrue (InAll names) → IsTrue (has_two_classes L names) → ⊥
    no-two [] a h t = cc
    no-two (c ∷ names) a h t = either
        (λ both. let d = some-among (normal.is_class L) names (and-second (normal.is_class L c) _ both) in let
        k = among-all (is_apart (is_under L) c) d.0 names d.1 (and-first _ _ a) in
        either (λ u. not-both (is_under L c d.0) (and-first _ _ k) u) (λ u. not-both (is_under L d.0 c) (and-second (not (is_under L c d.0)) _ k) u)
        (chain-shape s valid c d.0
        (sym (class-has true L c s) ∙ and-first _ _ h)
        (sym (class-has true L d.0 s) ∙ among-all (λ x. belongs true L (ty.Class x) s) d.0 names d.1 (and-second (belongs true L (ty.Class c) s) _ h))
        (sym (class-kind (L.kind c)) ∙ and-first _ _ both) (sym (class-kind (L.kind d.0)) ∙ d.2)))
        (λ later. no-two names (and-second (list_all (is_apart (is_under L) c) names) _ a) (and-second (belongs true L (ty.Class c) s) _ h) later)
        (or-cases (normal.is_class L c && list_any (normal.is_class L) names) _ t)

    all-has : (cs : List (List ℕ)) → belongs true L (ty.All (map (λ c. ty.Class c) cs)) s ≡ InAll cs
    all-has cs = ap (λ t. belongs true L t s) (sym (rolls-All (map (λ c. ty.Class c) cs))) ∙ belongs_roll true L (Ty-F.All (map (λ c. ty.Class c) cs)) s
        ∙ all-mapped (λ t. belongs true L t s) (λ c. ty.Class c) cs

    of-names-has : (cs : List (List ℕ)) → belongs true L (of_names cs) s ≡ InAll cs
    of-names-has [] = all-has []
    of-names-has (c ∷ []) = sym (and-true (belongs true L (ty.Class c) s))
    of-names-has (c ∷ d ∷ cs) = all-has (c ∷ d ∷ cs)

    -- a shape belongs to the meet of two parts, where there is one
    abbrev pub InMet : Option Ty → Bool
    InMet None = false
    InMet (Some m) = belongs true L m s

    pub meet-names-has : (names more : List (List ℕ)) → IsTrue (all_apart (is_under L) names) → InMet (meet_names L names more) ≡ (InAll names && InAll more)
    unfolding meet_names
    meet-names-has names more a = go (has_two_classes L (with_names L names more)) refl
      where
        go : (b : Bool) → has_two_classes L (with_names L names more) ≡ b → InMet (if b then None else Some (of_names (with_names L names more))) ≡ (InAll names && InAll more)
        go true e = same-answer false (InAll names && InAll more) (λ k. cc)
            (λ k. absurd (no-two (with_names L names more) (with-names-apart names more a) (names-from names more (and-first _ _ k) (and-second (InAll names) _ k)) e))
        go false e = of-names-has (with_names L names more) ∙ same-answer (InAll (with_names L names more)) (InAll names && InAll more)
            (λ k. let l = names-to names more k in and-both (InAll names) _ l.0 l.1) (λ k. names-from names more (and-first _ _ k) (and-second (InAll names) _ k))

    -- ---- the names of a part

    -- a class, a module or an intersection by its names
    pub record IsNamed (t : Ty) (names : List (List ℕ)) : Type 0 where
      pub has : belongs true L t s ≡ InAll names
      pub apart : IsTrue (all_apart (is_under L) names)

    under-is : (cs : List (List ℕ)) → IsTrue (all_apart (lies_in L) (map (λ c. ty.Class c) cs)) → IsTrue (all_apart (is_under L) cs)
    under-is cs h = subst (λ (test : List ℕ → List ℕ → Bool). IsTrue (all_apart test cs)) (λ i c d. class-lies true L c d i)
        (sym (apart-mapped (lies_in L) (λ c. ty.Class c) cs) ∙ h)

    pub class-named : (t : Ty) (c : List ℕ) → out-Ty t ≡ Ty-F.Class c → (names_of t ≡ Some (c ∷ [])) × IsNamed t (c ∷ [])
    unfolding names_of
    class-named t c e = (
      ap names_at e,
      record {
        has = belongs_is true L t s ∙ ap (λ y. belongs_at (belongs true L) true L y s) e ∙ sym (class-has true L c s) ∙ sym (and-true (belongs true L (ty.Class c) s));
        apart = refl;
      },
    )

    pub all-named : (t : Ty) (ms : List Ty) → out-Ty t ≡ Ty-F.All ms → IsLayer L (Ty-F.All ms) → (cs : List (List ℕ)) × (names_of t ≡ Some cs) × IsNamed t cs
    unfolding names_of
    all-named t ms e w = let
        k = named-members L ms (λ m a. let n = member-is L ms w.fitting m a in (n.0, n.1)) in let
        apart = subst (λ ns. IsTrue (are_apart L ns)) (same-list ms) (and-second _ _ w.arranged) in (
          k.0,
          ap names_at e ∙ ap (λ ns. Some (class_names ns)) k.1 ∙ ap Some (class-names-are k.0),
          record {
            has = belongs_is true L t s ∙ ap (λ y. belongs_at (belongs true L) true L y s) e ∙ ap (list_all (λ u. belongs true L u s)) k.1
                ∙ all-mapped (λ u. belongs true L u s) (λ c. ty.Class c) k.0;
            apart = under-is k.0 (subst (λ ns. IsTrue (all_apart (lies_in L) ns)) k.1 (and-second _ _ apart));
          },
        )
