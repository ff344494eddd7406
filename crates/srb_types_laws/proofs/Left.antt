-- What is left of a type without the parts that are subtypes of another.
use Rattle.std.proofs.Common.{◌≡◌, Bool, true, false, not, List, [], ◌∷◌, refl, sym, ap, subst, ◌∙◌, if◌then◌else◌}
use Rattle.std.specs.Bool.{IsTrue}
use Rattle.std.specs.List.{filter, list_all}
use Rattle.srb_terms.specs.declared.ty.Ty.{Ty, out-Ty}
use Rattle.srb_terms.specs.declared.ty.Ty.TheOpen.{Ty-F}
use Rattle.srb_terms.specs.declared.ty.Ty.TheVariants as ty
use Rattle.srb_terms.specs.declared.ty.Ty.TheVariants.{rolls-Never, rolls-Any}
use Rattle.srb_terms.specs.declared.ty.Ty.TheViews.{out-roll-Ty}
use Rattle.srb_shapes.specs.Comparing.{is_sub_of}
use Rattle.srb_shapes.specs.Lineages.{Lineage, IsLineage}
use Rattle.srb_shapes.specs.Parts.{of_parts, parts_at, parts_of}
use Rattle.srb_shapes.specs.Shapes.{Shape, IsShape, belongs, fits, IsSubtype}
use Rattle.srb_shapes_laws.proofs.Bools.{either, and-first, never, by-test}
use Rattle.srb_shapes_laws.proofs.Sound.{sound}
use Rattle.srb_shapes_laws.proofs.Complete.{complete}
use Rattle.srb_types.specs.Normal.{is_untyped, without_of}
use Rattle.srb_types.specs.Shown.{shown}
use Rattle.srb_types_laws.specs.NormalForms.{is_part, is_part_at, is_arranged, is_cut, IsNormal, Among}
use Rattle.srb_types_laws.proofs.Elements.{among-all, among-kept, kept-among, not-false}
use Rattle.srb_types_laws.proofs.Lists.{all-filtered, ordered-filtered, apart-filtered}
use Rattle.srb_types_laws.proofs.Parts.{AreWell, is-well, parts-well, parts-cut, of-parts-normal}
use Rattle.srb_types_laws.proofs.Joined.{has-parts, of-parts-has, any-filtered, any-left}

-- ---- the parts of the type that has some parts

part-alone : (p : Ty) → IsTrue (is_part p) → parts_of p ≡ p ∷ []
unfolding parts_of
part-alone p h = go (out-Ty p) h
  where
    go : (x : Ty-F Ty) → IsTrue (is_part_at x) → parts_at p x ≡ p ∷ []
    go Ty-F.Untyped k = cc
    go Ty-F.Never k = cc
    go (Ty-F.Any ps) k = cc
    go (Ty-F.Class d) k = refl
    go (Ty-F.Meta d) k = refl
    go (Ty-F.Arr d) k = refl
    go (Ty-F.Hsh a b) k = refl
    go (Ty-F.All ms) k = refl

pub parts-again : (ps : List Ty) → IsTrue (list_all is_part ps) → parts_of (of_parts ps) ≡ ps
unfolding parts_of
parts-again [] h = ap (parts_at ty.Never) (ap out-Ty (sym rolls-Never) ∙ out-roll-Ty Ty-F.Never)
parts-again (p ∷ []) h = part-alone p (and-first _ _ h)
parts-again (p ∷ q ∷ ps) h = ap (parts_at (ty.Any (p ∷ q ∷ ps))) (ap out-Ty (sym (rolls-Any (p ∷ q ∷ ps))) ∙ out-roll-Ty (Ty-F.Any (p ∷ q ∷ ps)))

-- ---- what is left

rest-well : (L : Lineage) (f : Ty → Bool) (ps : List Ty) → AreWell L ps → AreWell L (filter f ps)
rest-well L f ps n = record {
  fitting = all-filtered (fits L) f ps n.fitting;
  arranged = all-filtered (is_arranged L) f ps n.arranged;
  parts = all-filtered is_part f ps n.parts;
  ordered = ordered-filtered shown f ps n.ordered;
  apart = apart-filtered _ f ps n.apart;
}

pub without-untyped : (L : Lineage) (t u : Ty) → is_untyped t ≡ true → without_of L t u ≡ t
unfolding without_of
without-untyped L t u e = ap (λ b. if b then t else of_parts (filter (λ p. not (is_sub_of L p u)) (parts_of t))) e

without-typed : (L : Lineage) (t u : Ty) → is_untyped t ≡ false → without_of L t u ≡ of_parts (filter (λ p. not (is_sub_of L p u)) (parts_of t))
unfolding without_of
without-typed L t u e = ap (λ b. if b then t else of_parts (filter (λ p. not (is_sub_of L p u)) (parts_of t))) e

pub without-normal : (L : Lineage) (t u : Ty) → IsNormal L t → IsNormal L (without_of L t u)
without-normal L t u n = either
    (λ e. subst (IsNormal L) (sym (without-untyped L t u e)) n)
    (λ e. subst (IsNormal L) (sym (without-typed L t u e)) (of-parts-normal L _ (rest-well L _ (parts_of t) (parts-well L t (is-well L t n) e))
    (all-filtered (λ p. is_cut p 8) _ (parts_of t) (parts-cut t 8 n.shallow))))
    (by-test (is_untyped t))

module _ (L : Lineage) (laws : IsLineage L) (t u : Ty) (n : IsNormal L t) (typed : is_untyped t ≡ false) where
  parts-left : parts_of (without_of L t u) ≡ filter (λ p. not (is_sub_of L p u)) (parts_of t)
  parts-left = ap parts_of (without-typed L t u typed)
      ∙ parts-again (filter (λ p. not (is_sub_of L p u)) (parts_of t)) (all-filtered is_part _ (parts_of t) (let f = parts-well L t (is-well L t n) typed in f.parts))

  pub left-to : (p : Ty) → Among p (parts_of (without_of L t u)) → Among p (parts_of t) × (IsSubtype L p u → ⊥)
  left-to p h = let
      k = among-kept (λ q. not (is_sub_of L q u)) p (parts_of t) (subst (Among p) parts-left h) in let
      f = parts-well L t (is-well L t n) typed in let
      c = complete false L laws p (among-all (fits L) p (parts_of t) k.0 f.fitting) u (not-false (is_sub_of L p u) k.1) in
      (k.0, λ sub. c.outside (sub c.shape c.valid c.inside))

  pub left-from : (p : Ty) → Among p (parts_of t) × (IsSubtype L p u → ⊥) → Among p (parts_of (without_of L t u))
  left-from p h = subst (Among p) (sym parts-left) (kept-among (λ q. not (is_sub_of L q u)) p (parts_of t) h.0
      (either (λ w. absurd (h.1 (λ s v b. sound L laws false p u s v b w))) (λ e. ap not e) (by-test (is_sub_of L p u))))

-- ---- by shapes

-- nothing is added
pub without-less : (r : Bool) (L : Lineage) (t u : Ty) (s : Shape) → IsTrue (belongs r L (without_of L t u) s) → IsTrue (belongs r L t s)
without-less r L t u s h = either
    (λ e. subst (λ x. IsTrue (belongs r L x s)) (without-untyped L t u e) h)
    (λ e. has-parts r L s t ∙ any-filtered (λ p. belongs r L p s) (λ p. not (is_sub_of L p u)) (parts_of t)
    (sym (of-parts-has r L s (filter (λ p. not (is_sub_of L p u)) (parts_of t))) ∙ subst (λ x. IsTrue (belongs r L x s)) (without-typed L t u e) h))
    (by-test (is_untyped t))

-- what isn't in the second type stays
pub without-keeps : (L : Lineage) (t u : Ty) (s : Shape) → IsLineage L → IsShape false L s → IsTrue (belongs false L t s) → belongs true L u s ≡ false
    → IsTrue (belongs false L (without_of L t u) s)
without-keeps L t u s laws valid h other = either
    (λ e. subst (λ x. IsTrue (belongs false L x s)) (sym (without-untyped L t u e)) h)
    (λ e. subst (λ x. IsTrue (belongs false L x s)) (sym (without-typed L t u e))
    (of-parts-has false L s (filter (λ p. not (is_sub_of L p u)) (parts_of t)) ∙ either
    (λ b. never (belongs true L u s) other b)
    (λ k. k)
    (any-left {P = IsTrue (belongs true L u s)} (λ p. belongs false L p s) (λ p. is_sub_of L p u) (parts_of t) (λ p w b. sound L laws false p u s valid b w)
    (sym (has-parts false L s t) ∙ h))))
    (by-test (is_untyped t))
