-- Unions and intersections of types without `T.untyped` by their laws.
use Rattle.std.proofs.Common.{◌≡◌, Bool, true, false, ◌&&◌, ◌||◌, List, [], ◌∷◌, refl, sym, ap, ◌∙◌, if◌then◌else◌}
use Rattle.std.specs.Bool.{IsTrue}
use Rattle.std.specs.List.{list_all}
use Rattle.srb_terms.specs.declared.ty.Ty.{Ty}
use Rattle.srb_terms.specs.declared.ty.Ty.TheOpen.{Ty-F}
use Rattle.srb_terms.specs.declared.ty.Ty.TheVariants as ty
use Rattle.srb_terms.specs.declared.ty.Ty.TheVariants.{rolls-Never, rolls-Any}
use Rattle.srb_shapes.specs.Lineages.{Lineage, IsLineage}
use Rattle.srb_shapes.specs.Parts.{of_parts, parts_of}
use Rattle.srb_shapes.specs.Shapes.{Shape, IsShape, belongs}
use Rattle.srb_shapes_laws.proofs.Bools.{and-both, and-first}
use Rattle.srb_types.specs.Normal.{one_untyped, with_parts, any_of, all_of}
use Rattle.srb_types_laws.specs.NormalForms.{HasNoCircles, IsNormal, TextsTell, is_typed}
use Rattle.srb_types_laws.proofs.Layers.{typed_roll}
use Rattle.srb_types_laws.proofs.Parts.{is-well, any-normal, with-parts-all}
use Rattle.srb_types_laws.proofs.Joined.{any-has}
use Rattle.srb_types_laws.proofs.Algebra.{by-shapes}
use Rattle.srb_types_laws.proofs.Meetings.{typed-no-untyped, parts-typed, all-exact}
use Rattle.srb_types_laws.proofs.Results.{all-normal}

and-turned : (a b : Bool) → (a && b) ≡ (b && a)
and-turned true true = refl
and-turned true false = refl
and-turned false true = refl
and-turned false false = refl

and-itself : (a : Bool) → (a && a) ≡ a
and-itself true = refl
and-itself false = refl

or-absorbs : (a b : Bool) → (a || (a && b)) ≡ a
or-absorbs true b = refl
or-absorbs false b = refl

and-absorbs : (a b : Bool) → (a && (a || b)) ≡ a
and-absorbs true b = refl
and-absorbs false b = refl

-- a union of types without `T.untyped` is one

of-parts-typed : (ps : List Ty) → IsTrue (list_all is_typed ps) → IsTrue (is_typed (of_parts ps))
of-parts-typed [] h = ap is_typed (sym rolls-Never) ∙ typed_roll Ty-F.Never
of-parts-typed (p ∷ []) h = and-first (is_typed p) _ h
of-parts-typed (p ∷ q ∷ ps) h = ap is_typed (sym (rolls-Any (p ∷ q ∷ ps))) ∙ typed_roll (Ty-F.Any (p ∷ q ∷ ps)) ∙ h

any-typed : (L : Lineage) (t u : Ty) → IsTrue (is_typed t) → IsTrue (is_typed u) → IsTrue (is_typed (any_of L t u))
unfolding any_of
any-typed L t u h k = go (one_untyped t u) (let a = typed-no-untyped t h in let b = typed-no-untyped u k in λ i. a i || b i)
  where
    go : (b : Bool) → b ≡ false → IsTrue (is_typed (if b then ty.Untyped else of_parts (with_parts L (parts_of t) (parts_of u))))
    go true e = cc
    go false e = of-parts-typed (with_parts L (parts_of t) (parts_of u)) (with-parts-all is_typed L (parts_of t) (parts_of u) (parts-typed t h) (parts-typed u k))

module _ (L : Lineage) (laws : IsLineage L) (circles : HasNoCircles L) (tell : TextsTell L) (t u : Ty) (n : IsNormal L t) (m : IsNormal L u)
    (first : IsTrue (is_typed t)) (second : IsTrue (is_typed u)) where
  met : (s : Shape) → IsShape true L s → belongs true L (all_of L t u) s ≡ (belongs true L t s && belongs true L u s)
  met s v = all-exact L laws t u (is-well L t n) (is-well L u m) s v (and-both (is_typed t) _ first second)

  pub all-turned : all_of L t u ≡ all_of L u t
  all-turned = by-shapes L laws circles tell (all_of L t u) (all_of L u t) (all-normal L laws t u n m) (all-normal L laws u t m n)
      (λ s v. met s v ∙ and-turned (belongs true L t s) (belongs true L u s)
      ∙ sym (all-exact L laws u t (is-well L u m) (is-well L t n) s v (and-both (is_typed u) _ second first)))

  pub all-itself : all_of L t t ≡ t
  all-itself = by-shapes L laws circles tell (all_of L t t) t (all-normal L laws t t n n) n
      (λ s v. all-exact L laws t t (is-well L t n) (is-well L t n) s v (and-both (is_typed t) _ first first) ∙ and-itself (belongs true L t s))

  pub any-absorbs : any_of L t (all_of L t u) ≡ t
  any-absorbs = by-shapes L laws circles tell (any_of L t (all_of L t u)) t (any-normal L t (all_of L t u) n (all-normal L laws t u n m)) n
      (λ s v. any-has L laws s v t (all_of L t u) ∙ ap (λ b. belongs true L t s || b) (met s v) ∙ or-absorbs (belongs true L t s) (belongs true L u s))

  pub all-absorbs : all_of L t (any_of L t u) ≡ t
  all-absorbs = let w = any-normal L t u n m in
      by-shapes L laws circles tell (all_of L t (any_of L t u)) t (all-normal L laws t (any_of L t u) n w) n
      (λ s v. all-exact L laws t (any_of L t u) (is-well L t n) (is-well L (any_of L t u) w) s v (and-both (is_typed t) _ first (any-typed L t u first second))
      ∙ ap (λ b. belongs true L t s && b) (any-has L laws s v t u) ∙ and-absorbs (belongs true L t s) (belongs true L u s))
