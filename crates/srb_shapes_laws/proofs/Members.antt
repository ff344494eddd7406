-- An intersection of classes and modules has an instance: that of all that its members inherit and include.
use Rattle.std.proofs.Common.{◌≡◌, ℕ, ◌⊎◌, Bool, true, false, not, ◌&&◌, ◌||◌, List, [], ◌∷◌, ◌++◌, map, Option, Some, None, inl, inr, refl, sym, ap, subst, ◌∙◌}
use Rattle.std.specs.Bool.{IsTrue}
use Rattle.std.specs.List.{list_any, list_all}
use Rattle.srb_terms.specs.NameSets.{has_name}
use Rattle.srb_terms.specs.declared.fact.Kind.{Kind}
use Rattle.srb_terms.specs.declared.fact.Kind.TheVariants as kind
use Rattle.srb_terms.specs.declared.ty.Ty.{Ty, out-Ty}
use Rattle.srb_terms.specs.declared.ty.Ty.TheVariants as ty
use Rattle.srb_terms.specs.declared.ty.Ty.TheOpen.{Ty-F}
use Rattle.srb_terms.specs.declared.ty.Ty.TheViews.{roll-Ty, roll-out-Ty}
use Rattle.srb_shapes.specs.Lineages.{Lineage, Has, IsLineage, is_body, is_class}
use Rattle.srb_shapes.specs.Comparing.{holds, is_below, within_at, within}
use Rattle.srb_shapes.specs.Shapes.{Shape, instance_of, IsInstance, is_in_class, belongs_at, belongs, name_at, name_of, go_together, all_together}
use Rattle.srb_shapes.proofs.Steps.{within_roll}
use Rattle.srb_shapes.proofs.Variants.{holds-class}
use Rattle.srb_shapes_laws.proofs.Bools.{either, or-cases, or-left, or-right, and-both, and-first, and-second, has-append}
use Rattle.srb_shapes_laws.proofs.Equations.{belongs_is}

-- the linearizations of these names, one after the other
pub lins : Lineage → List (Option (List ℕ)) → List (List ℕ)
lins L [] = []
lins L (None ∷ names) = lins L names
lins L (Some c ∷ names) = L.lin c ++ lins L names

-- one of these
pub In : Option (List ℕ) → List (Option (List ℕ)) → Type 0
In n [] = ⊥
In n (m ∷ names) = (m ≡ n) ⊎ In n names

record From (L : Lineage) (names : List (Option (List ℕ))) (a : List ℕ) : Type 0 where
  name : List ℕ
  among : In (Some name) names
  above : Has (L.lin name) a

in-all : (test : Option (List ℕ) → Bool) (names : List (Option (List ℕ))) (n : Option (List ℕ)) → In n names → IsTrue (list_all test names) → IsTrue (test n)
unfolding In
in-all test [] n h t = absurd h
in-all test (m ∷ names) n (inl e) t = subst (λ x. IsTrue (test x)) e (and-first _ _ t)
in-all test (m ∷ names) n (inr h) t = in-all test names n h (and-second (test m) _ t)

from-later : (L : Lineage) (n : Option (List ℕ)) (names : List (Option (List ℕ))) (a : List ℕ) → From L names a → From L (n ∷ names) a
unfolding In
from-later L n names a f = record { name = f.name; among = inr f.among; above = f.above }

lins-from : (L : Lineage) (names : List (Option (List ℕ))) (a : List ℕ) → Has (lins L names) a → From L names a
unfolding In lins
lins-from L [] a h = cc
lins-from L (None ∷ names) a h = from-later L None names a (lins-from L names a h)
lins-from L (Some c ∷ names) a h = either
    (λ k. record { name = c; among = inl refl; above = k })
    (λ k. from-later L (Some c) names a (lins-from L names a k))
    (or-cases (has_name a (L.lin c)) _ (sym (has-append a (L.lin c) (lins L names)) ∙ h))

lins-to : (L : Lineage) (names : List (Option (List ℕ))) (c a : List ℕ) → In (Some c) names → Has (L.lin c) a → Has (lins L names) a
unfolding In lins
lins-to L [] c a h k = absurd h
lins-to L (None ∷ names) c a (inl e) k = cc
lins-to L (None ∷ names) c a (inr h) k = lins-to L names c a h k
lins-to L (Some d ∷ names) c a (inl e) k =
    let same : d ≡ c = cc in
    has-append a (L.lin d) (lins L names) ∙ or-left (has_name a (L.lin d)) _ (subst (λ x. Has (L.lin x) a) (sym same) k)
lins-to L (Some d ∷ names) c a (inr h) k = has-append a (L.lin d) (lins L names) ∙ or-right (has_name a (L.lin d)) _ (lins-to L names c a h k)

-- what has a class in its linearization is a class
class-above : (L : Lineage) → IsLineage L → (c a : List ℕ) → IsTrue (is_body (L.kind c)) → Has (L.lin c) a → IsTrue (is_class (L.kind a)) → IsTrue (is_class (L.kind c))
class-above L laws c a body h class = go (L.kind c) refl body
  where
    go : (k : Option Kind) → L.kind c ≡ k → IsTrue (is_body k) → IsTrue (is_class k)
    go None e b = b
    go (Some kind.Class) e b = refl
    go (Some kind.Module) e b = let m = laws.modules c a e h in let f : is_class (L.kind a) ≡ false = ap is_class m in cc
    go (Some kind.Value) e b = b

-- ---- members

named-layer : (L : Lineage) (untyped : Bool) (s : Shape) (x : Ty-F Ty) (c : List ℕ) → name_at x ≡ Some c →
    belongs_at (belongs untyped L) untyped L x s ≡ is_in_class L c s
named-layer L untyped s (Ty-F.Class d) c e = ap (λ (n : List ℕ). is_in_class L n s) (let k : d ≡ c = cc in k)
named-layer L untyped s x c e = cc

named-within : (L : Lineage) (extra : Bool) (u : Ty) (x : Ty-F Ty) (c : List ℕ) → name_at x ≡ Some c →
    within_at (within extra L) extra L x u ≡ holds (is_below (L.lin c)) u
named-within L extra u (Ty-F.Class d) c e = ap (λ (n : List ℕ). holds (is_below (L.lin n)) u) (let k : d ≡ c = cc in k)
named-within L extra u x c e = cc

belongs-named : (L : Lineage) (extra : Bool) (t : Ty) (s : Shape) (c : List ℕ) → name_of t ≡ Some c → belongs extra L t s ≡ is_in_class L c s
belongs-named L extra t s c e = belongs_is extra L t s ∙ named-layer L extra s (out-Ty t) c e

within-named : (L : Lineage) (extra : Bool) (t u : Ty) (c : List ℕ) → name_of t ≡ Some c → within extra L t u ≡ holds (is_below (L.lin c)) u
within-named L extra t u c e = ap (λ x. within extra L x u) (sym (roll-out-Ty t)) ∙ within_roll extra L (out-Ty t) u ∙ named-within L extra u (out-Ty t) c e

member-below : (L : Lineage) (extra : Bool) (d : List ℕ) (t : Ty) (n : Option (List ℕ)) → name_of t ≡ n → (names : List (Option (List ℕ))) (b : Bool) →
    Has (lins L (n ∷ names)) d → (Has (lins L names) d → IsTrue b) → IsTrue (within extra L t (ty.Class d) || b)
unfolding lins
member-below L extra d t None e names b h k = or-right _ b (k h)
member-below L extra d t (Some c) e names b h k = either
    (λ up. or-left (within extra L t (ty.Class d)) b (within-named L extra t (ty.Class d) c e ∙ holds-class (is_below (L.lin c)) (ty.Class d) d refl ∙ up))
    (λ up. or-right _ b (k up))
    (or-cases (has_name d (L.lin c)) _ (sym (has-append d (L.lin c) (lins L names)) ∙ h))

-- what the instance is one of, one of the members lies within
pub some-below : (L : Lineage) (extra : Bool) (d : List ℕ) (ts : List Ty) → Has (lins L (map name_of ts)) d → IsTrue (list_any (λ t. within extra L t (ty.Class d)) ts)
unfolding lins
some-below L extra d [] h = cc
some-below L extra d (t ∷ ts) h = member-below L extra d t (name_of t) refl (map name_of ts) _ h (some-below L extra d ts)

-- ---- the instance

module _ (L : Lineage) (laws : IsLineage L) (names : List (Option (List ℕ))) (together : IsTrue (all_together L names)) where
  pair : (m n : Option (List ℕ)) → In m names → In n names → IsTrue (go_together L m n)
  pair m n h k = in-all (go_together L m) names n k (in-all (λ x. list_all (go_together L x) names) names m h together)

  -- two classes of the intersection stand in the linearization of one of its members
  joined : (a b : List ℕ) → Has (lins L names) a → Has (lins L names) b → IsTrue (is_class (L.kind a)) → IsTrue (is_class (L.kind b))
      → Has (L.lin a) b ⊎ Has (L.lin b) a
  joined a b h k p q =
      let f = lins-from L names a h in
      let g = lins-from L names b k in
      let t = pair (Some f.name) (Some g.name) f.among g.among in
      let fc = class-above L laws f.name a (and-first _ _ t) f.above p in
      let gc = class-above L laws g.name b (and-first _ _ (and-second (is_body (L.kind f.name)) _ t)) g.above q in
      either
      (λ n. absurd (no-two (is_class (L.kind f.name)) (is_class (L.kind g.name)) fc gc n))
      (λ n. either
      (λ up. laws.chain f.name a b f.above (laws.closed f.name g.name b up g.above) p q)
      (λ up. laws.chain g.name a b (laws.closed g.name f.name a up f.above) g.above p q)
      (or-cases (has_name g.name (L.lin f.name)) _ n))
      (or-cases (not (is_class (L.kind f.name) && is_class (L.kind g.name))) _
      (and-second (is_body (L.kind g.name)) _ (and-second (is_body (L.kind f.name)) _ t)))
    where
      no-two : (x y : Bool) → IsTrue x → IsTrue y → IsTrue (not (x && y)) → ⊥
      no-two true true u v n = cc
      no-two true false u v n = cc
      no-two false y u v n = cc

  pub is-instance : IsInstance L (lins L names)
  is-instance = record {
    known = λ a h. let f = lins-from L names a h in laws.known f.name a f.above;
    closed = λ b a h k. let f = lins-from L names b h in lins-to L names f.name a f.among (laws.closed f.name b a f.above k);
    chain = joined;
  }

  member-inside : (extra : Bool) (t : Ty) (n : Option (List ℕ)) → name_of t ≡ n → In n names → IsTrue (belongs extra L t (instance_of (lins L names)))
  member-inside extra t None e h = let p = pair None None h h in cc
  member-inside extra t (Some c) e h = belongs-named L extra t (instance_of (lins L names)) c e
      ∙ lins-to L names c c h (laws.own c (and-first _ _ (pair (Some c) (Some c) h h)))

  pub all-inside : (extra : Bool) (ts : List Ty) → ((n : Option (List ℕ)) → In n (map name_of ts) → In n names) →
      IsTrue (list_all (λ t. belongs extra L t (instance_of (lins L names))) ts)
  unfolding In
  all-inside extra [] sub = refl
  all-inside extra (t ∷ ts) sub = and-both (belongs extra L t (instance_of (lins L names))) _
      (member-inside extra t (name_of t) refl (sub (name_of t) (inl refl))) (all-inside extra ts (λ n h. sub n (inr h)))
