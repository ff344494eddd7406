-- The comparison of a type goes by its layer.
use Rattle.std.proofs.Common.{◌≡◌, ℕ, Bool, true, false, List, [], ◌∷◌, map, refl, ap, sym, ◌∙◌, ◌||◌, ◌&&◌}
use Rattle.std.specs.List.{list_any, list_all}
use Rattle.srb_terms.specs.declared.ty.Ty.{Ty, fold-Ty, para-Ty}
use Rattle.srb_terms.specs.declared.ty.Ty.TheVariants as ty
use Rattle.srb_terms.specs.declared.ty.Ty.TheOpen.{Ty-F}
use Rattle.srb_terms.specs.declared.ty.Ty.TheViews.{roll-Ty}
use Rattle.srb_terms.specs.declared.ty.Ty.TheFolds.{map-Ty, fold-roll-Ty, para-roll-Ty}
use Rattle.srb_shapes.specs.Lineages.{Lineage}
use Rattle.srb_shapes.specs.Comparing.{holds_at, holds, is_all_below, test_of, within_at, within}

-- a test of mapped elements
pub all-mapped : {X Y : Type 0} (p : Y → Bool) (f : X → Y) (xs : List X) → list_all p (map f xs) ≡ list_all (λ x. p (f x)) xs
all-mapped p f [] = refl
all-mapped p f (x ∷ xs) = ap (λ b. p (f x) && b) (all-mapped p f xs)

pub any-mapped : {X Y : Type 0} (p : Y → Bool) (f : X → Y) (xs : List X) → list_any p (map f xs) ≡ list_any (λ x. p (f x)) xs
any-mapped p f [] = refl
any-mapped p f (x ∷ xs) = ap (λ b. p (f x) || b) (any-mapped p f xs)

holds-same : (test : Ty-F Ty → Bool) (x : Ty-F Ty) →
    holds_at (λ (y : Ty × Bool). y.0) (λ y. y.1) test (map-Ty Ty (Ty × Bool) (λ t. (t, holds test t)) x) ≡ holds_at (λ t. t) (holds test) test x
holds-same test (Ty-F.Any parts) = any-mapped (λ (y : Ty × Bool). y.1) (λ t. (t, holds test t)) parts
holds-same test (Ty-F.All members) = all-mapped (λ (y : Ty × Bool). y.1) (λ t. (t, holds test t)) members
holds-same test x = refl

pub holds_roll : (test : Ty-F Ty → Bool) (x : Ty-F Ty) → holds test (roll-Ty x) ≡ holds_at (λ t. t) (holds test) test x
unfolding holds
holds_roll test x = para-roll-Ty Bool (holds_at (λ x. x.0) (λ x. x.1) test) x ∙ holds-same test x

all-below : (f : Ty → Ty → Bool) (members : List Ty) (q : Ty-F Ty) → is_all_below (λ (g : Ty → Bool). g) (map f members) q ≡ is_all_below f members q
all-below f members (Ty-F.Class d) = any-mapped (λ (g : Ty → Bool). g (ty.Class d)) f members
all-below f members q = refl

within-same : (f : Ty → Ty → Bool) (extra : Bool) (L : Lineage) (x : Ty-F Ty) (u : Ty) →
    within_at (λ (g : Ty → Bool). g) extra L (map-Ty Ty (Ty → Bool) f x) u ≡ within_at f extra L x u
within-same f extra L (Ty-F.Any parts) u = all-mapped (λ (g : Ty → Bool). g u) f parts
within-same f extra L (Ty-F.All members) u = ap (λ test. holds test u) (λ i q. all-below f members q i)
within-same f extra L x u = refl

pub within_roll : (extra : Bool) (L : Lineage) (x : Ty-F Ty) (u : Ty) → within extra L (roll-Ty x) u ≡ within_at (within extra L) extra L x u
unfolding within
within_roll extra L x u = ap (λ (g : Ty → Bool). g u) (fold-roll-Ty (Ty → Bool) (within_at (λ f. f) extra L) x)
    ∙ within-same (within extra L) extra L x u
