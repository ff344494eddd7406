-- The parts of types in normal form, and the type that has some parts.
use Rattle.std.proofs.Common.{◌≡◌, ℕ, Bool, true, false, not, ◌&&◌, ◌||◌, List, [], ◌∷◌, map, refl, sym, ap, subst, ◌∙◌, if◌then◌else◌}
use Rattle.std.specs.Bool.{IsTrue}
use Rattle.std.specs.List.{filter, list_all, list_any}
use Rattle.srb_terms.specs.declared.ty.Ty.{Ty, out-Ty}
use Rattle.srb_terms.specs.declared.ty.Ty.TheOpen.{Ty-F}
use Rattle.srb_terms.specs.declared.ty.Ty.TheVariants as ty
use Rattle.srb_terms.specs.declared.ty.Ty.TheVariants.{rolls-Untyped, rolls-Never, rolls-Any}
use Rattle.srb_shapes.specs.Comparing.{lies_in}
use Rattle.srb_shapes.specs.Lineages.{Lineage}
use Rattle.srb_shapes.specs.Parts.{of_parts, parts_at, parts_of}
use Rattle.srb_shapes.specs.Shapes.{fits_at, fits}
use Rattle.srb_shapes_laws.proofs.Bools.{and-both, and-first, and-second}
use Rattle.srb_shapes_laws.proofs.Equations.{fits_roll}
use Rattle.srb_types.specs.Normal.{is_untyped_at, is_untyped, one_untyped, with_part, with_parts, any_of}
use Rattle.srb_types.specs.Order.{placed}
use Rattle.srb_types.specs.Shown.{shown}
use Rattle.srb_types_laws.specs.NormalForms.{in_order, is_apart, all_apart, has_several, is_part, is_part_at, are_apart, is_arranged_at, is_arranged, is_cut_at, is_cut, IsNormal}
use Rattle.srb_types_laws.proofs.Lists.{all-both, none-passes, all-filtered, filtered-pass, ordered-filtered, apart-filtered, all-placed, ordered-placed, apart-placed}
use Rattle.srb_types_laws.proofs.Layers.{same-list, arranged_roll, arranged_is, cut_roll, cut_is, fits_is}

-- what is asked of a type beside its depth
pub record IsWell (L : Lineage) (t : Ty) : Type 0 where
  pub fitting : IsTrue (fits L t)
  pub arranged : IsTrue (is_arranged L t)

-- and of the parts of one
pub record AreWell (L : Lineage) (ts : List Ty) : Type 0 where
  pub fitting : IsTrue (list_all (fits L) ts)
  pub arranged : IsTrue (list_all (is_arranged L) ts)
  pub parts : IsTrue (list_all is_part ts)
  pub ordered : IsTrue (in_order shown ts)
  pub apart : IsTrue (all_apart (lies_in L) ts)

pub is-well : (L : Lineage) (t : Ty) → IsNormal L t → IsWell L t
is-well L t n = record { fitting = n.fitting; arranged = n.arranged }

one-well : (L : Lineage) (t : Ty) → IsWell L t → IsTrue (is_part t) → AreWell L (t ∷ [])
one-well L t n part = record {
  fitting = and-both (fits L t) _ n.fitting refl;
  arranged = and-both (is_arranged L t) _ n.arranged refl;
  parts = and-both (is_part t) _ part refl;
  ordered = refl;
  apart = refl;
}

pub none-well : (L : Lineage) → AreWell L []
none-well L = record { fitting = refl; arranged = refl; parts = refl; ordered = refl; apart = refl }

-- the parts of a union
pub union-well : (L : Lineage) (ps : List Ty) → IsTrue (fits_at (λ t. t) (fits L) L (Ty-F.Any ps)) → IsTrue (is_arranged_at (λ t. t) (is_arranged L) L (Ty-F.Any ps))
    → AreWell L ps
union-well L ps fit arranged = let
    rest = and-second (list_all (is_arranged L) ps) _ arranged in let
    last = and-second (has_several ps) _ (and-second (list_all is_part (map (λ t. t) ps)) _ rest) in record {
      fitting = fit;
      arranged = and-first _ _ arranged;
      parts = subst (λ qs. IsTrue (list_all is_part qs)) (same-list ps) (and-first _ _ rest);
      ordered = subst (λ qs. IsTrue (in_order shown qs)) (same-list ps) (and-first _ _ last);
      apart = subst (λ qs. IsTrue (all_apart (lies_in L) qs)) (same-list ps) (and-second (in_order shown (map (λ t. t) ps)) _ last);
    }

pub parts-well : (L : Lineage) (t : Ty) → IsWell L t → is_untyped t ≡ false → AreWell L (parts_of t)
unfolding parts_of
parts-well L t n typed = go (out-Ty t) refl typed
  where
    go : (x : Ty-F Ty) → out-Ty t ≡ x → is_untyped_at x ≡ false → AreWell L (parts_at t x)
    go Ty-F.Untyped e f = cc
    go Ty-F.Never e f = none-well L
    go (Ty-F.Class d) e f = one-well L t n (ap is_part_at e)
    go (Ty-F.Meta d) e f = one-well L t n (ap is_part_at e)
    go (Ty-F.Arr d) e f = one-well L t n (ap is_part_at e)
    go (Ty-F.Hsh k v) e f = one-well L t n (ap is_part_at e)
    go (Ty-F.All ms) e f = one-well L t n (ap is_part_at e)
    go (Ty-F.Any ps) e f = union-well L ps
        (sym (fits_is L t ∙ ap (fits_at (λ u. u) (fits L) L) e) ∙ n.fitting)
        (sym (arranged_is L t ∙ ap (is_arranged_at (λ u. u) (is_arranged L) L) e) ∙ n.arranged)

-- the parts are cut as their type is
pub parts-cut : (t : Ty) (n : ℕ) → IsTrue (is_cut t n) → IsTrue (list_all (λ p. is_cut p n) (parts_of t))
unfolding parts_of
parts-cut t n h = go (out-Ty t) refl
  where
    go : (x : Ty-F Ty) → out-Ty t ≡ x → IsTrue (list_all (λ p. is_cut p n) (parts_at t x))
    go Ty-F.Never e = refl
    go (Ty-F.Any ps) e = sym (cut_is t n ∙ ap (λ y. is_cut_at (λ u. u) is_cut y n) e) ∙ h
    go Ty-F.Untyped e = and-both (is_cut t n) _ h refl
    go (Ty-F.Class d) e = and-both (is_cut t n) _ h refl
    go (Ty-F.Meta d) e = and-both (is_cut t n) _ h refl
    go (Ty-F.Arr d) e = and-both (is_cut t n) _ h refl
    go (Ty-F.Hsh k v) e = and-both (is_cut t n) _ h refl
    go (Ty-F.All ms) e = and-both (is_cut t n) _ h refl

pub of-parts-well : (L : Lineage) (ps : List Ty) → AreWell L ps → IsWell L (of_parts ps)
of-parts-well L [] f = record {
  fitting = ap (fits L) (sym rolls-Never) ∙ fits_roll L Ty-F.Never;
  arranged = ap (is_arranged L) (sym rolls-Never) ∙ arranged_roll L Ty-F.Never;
}
of-parts-well L (p ∷ []) f = record { fitting = and-first (fits L p) _ f.fitting; arranged = and-first (is_arranged L p) _ f.arranged }
of-parts-well L (p ∷ q ∷ ps) f = record {
  fitting = ap (fits L) (sym (rolls-Any (p ∷ q ∷ ps))) ∙ fits_roll L (Ty-F.Any (p ∷ q ∷ ps)) ∙ f.fitting;
  arranged = ap (is_arranged L) (sym (rolls-Any (p ∷ q ∷ ps))) ∙ arranged_roll L (Ty-F.Any (p ∷ q ∷ ps))
      ∙ and-both (list_all (is_arranged L) (p ∷ q ∷ ps)) _ f.arranged
      (subst (λ qs. IsTrue (list_all is_part qs && are_apart L qs)) (sym (same-list (p ∷ q ∷ ps)))
      (and-both (list_all is_part (p ∷ q ∷ ps)) _ f.parts (and-both (in_order shown (p ∷ q ∷ ps)) _ f.ordered f.apart)));
}

pub of-parts-cut : (ps : List Ty) (n : ℕ) → IsTrue (list_all (λ p. is_cut p n) ps) → IsTrue (is_cut (of_parts ps) n)
of-parts-cut [] n h = ap (λ t. is_cut t n) (sym rolls-Never) ∙ cut_roll Ty-F.Never n
of-parts-cut (p ∷ []) n h = and-first (is_cut p n) _ h
of-parts-cut (p ∷ q ∷ ps) n h = ap (λ t. is_cut t n) (sym (rolls-Any (p ∷ q ∷ ps))) ∙ cut_roll (Ty-F.Any (p ∷ q ∷ ps)) n ∙ h

pub of-parts-normal : (L : Lineage) (ps : List Ty) → AreWell L ps → IsTrue (list_all (λ p. is_cut p 8) ps) → IsNormal L (of_parts ps)
of-parts-normal L ps f cut = let w = of-parts-well L ps f in record { fitting = w.fitting; arranged = w.arranged; shallow = of-parts-cut ps 8 cut }

-- ---- one part more

pub with-part-all : (f : Ty → Bool) (L : Lineage) (ps : List Ty) (p : Ty) → IsTrue (list_all f ps) → IsTrue (f p) → IsTrue (list_all f (with_part L ps p))
unfolding with_part
with-part-all f L ps p h k = go (list_any (λ q. lies_in L p q) ps)
  where
    go : (b : Bool) → IsTrue (list_all f (if b then ps else placed shown p (filter (λ q. not (lies_in L q p)) ps)))
    go true = h
    go false = all-placed f shown p _ k (all-filtered f _ ps h)

pub with-part-well : (L : Lineage) (ps : List Ty) (p : Ty) → AreWell L ps → IsWell L p → IsTrue (is_part p) → AreWell L (with_part L ps p)
unfolding with_part
with-part-well L ps p f o part = go (list_any (λ q. lies_in L p q) ps) refl
  where
    go : (b : Bool) → list_any (λ q. lies_in L p q) ps ≡ b → AreWell L (if b then ps else placed shown p (filter (λ q. not (lies_in L q p)) ps))
    go true e = f
    go false e = record {
      fitting = all-placed (fits L) shown p _ o.fitting (all-filtered (fits L) _ ps f.fitting);
      arranged = all-placed (is_arranged L) shown p _ o.arranged (all-filtered (is_arranged L) _ ps f.arranged);
      parts = all-placed is_part shown p _ part (all-filtered is_part _ ps f.parts);
      ordered = ordered-placed shown p _ (ordered-filtered shown _ ps f.ordered);
      apart = apart-placed (lies_in L) shown p (filter (λ q. not (lies_in L q p)) ps)
          (all-both (λ q. not (lies_in L p q)) (λ q. not (lies_in L q p)) (is_apart (lies_in L) p) (λ q h k. and-both (not (lies_in L p q)) _ h k)
          (filter (λ q. not (lies_in L q p)) ps)
          (all-filtered (λ q. not (lies_in L p q)) _ ps (none-passes (λ q. lies_in L p q) ps e))
          (filtered-pass (λ q. not (lies_in L q p)) ps))
          (apart-filtered (lies_in L) _ ps f.apart);
    }

pub with-parts-all : (f : Ty → Bool) (L : Lineage) (ps more : List Ty) → IsTrue (list_all f ps) → IsTrue (list_all f more) → IsTrue (list_all f (with_parts L ps more))
with-parts-all f L ps [] h k = h
with-parts-all f L ps (p ∷ more) h k =
    with-parts-all f L (with_part L ps p) more (with-part-all f L ps p h (and-first _ _ k)) (and-second (f p) _ k)

pub with-parts-well : (L : Lineage) (ps more : List Ty) → AreWell L ps → AreWell L more → AreWell L (with_parts L ps more)
with-parts-well L ps [] f g = f
with-parts-well L ps (p ∷ more) f g = with-parts-well L (with_part L ps p) more
    (with-part-well L ps p f (record { fitting = and-first _ _ g.fitting; arranged = and-first _ _ g.arranged }) (and-first _ _ g.parts))
    (record {
      fitting = and-second (fits L p) _ g.fitting;
      arranged = and-second (is_arranged L p) _ g.arranged;
      parts = and-second (is_part p) _ g.parts;
      ordered = and-second (list_all _ more) _ g.ordered;
      apart = and-second (list_all (is_apart (lies_in L) p) more) _ g.apart;
    })

-- ---- unions

pub untyped-normal : (L : Lineage) → IsNormal L ty.Untyped
untyped-normal L = record {
  fitting = ap (fits L) (sym rolls-Untyped) ∙ fits_roll L Ty-F.Untyped;
  arranged = ap (is_arranged L) (sym rolls-Untyped) ∙ arranged_roll L Ty-F.Untyped;
  shallow = ap (λ t. is_cut t 8) (sym rolls-Untyped) ∙ cut_roll Ty-F.Untyped 8;
}

pub neither : (a b : Bool) → (a || b) ≡ false → (a ≡ false) × (b ≡ false)
neither true b e = cc
neither false b e = (refl, e)

pub any-normal : (L : Lineage) (t u : Ty) → IsNormal L t → IsNormal L u → IsNormal L (any_of L t u)
unfolding any_of
any-normal L t u n m = go (one_untyped t u) refl
  where
    go : (b : Bool) → one_untyped t u ≡ b → IsNormal L (if b then ty.Untyped else of_parts (with_parts L (parts_of t) (parts_of u)))
    go true e = untyped-normal L
    go false e = let typed = neither (is_untyped t) (is_untyped u) e in
        of-parts-normal L (with_parts L (parts_of t) (parts_of u))
        (with-parts-well L (parts_of t) (parts_of u) (parts-well L t (is-well L t n) typed.0) (parts-well L u (is-well L u m) typed.1))
        (with-parts-all (λ p. is_cut p 8) L (parts_of t) (parts_of u) (parts-cut t 8 n.shallow) (parts-cut u 8 m.shallow))
