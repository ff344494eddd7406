-- What belongs to a type, and whether a type fits, go by its layer.
use Rattle.std.proofs.Common.{◌≡◌, ℕ, Bool, true, false, List, [], ◌∷◌, map, refl, ap, sym, ◌∙◌, ◌||◌, ◌&&◌, Option}
use Rattle.std.specs.List.{list_any, list_all}
use Rattle.srb_terms.specs.declared.ty.Ty.{Ty, out-Ty, fold-Ty, para-Ty}
use Rattle.srb_terms.specs.declared.ty.Ty.TheOpen.{Ty-F}
use Rattle.srb_terms.specs.declared.ty.Ty.TheViews.{roll-Ty, roll-out-Ty}
use Rattle.srb_terms.specs.declared.ty.Ty.TheFolds.{map-Ty, fold-roll-Ty, para-roll-Ty}
use Rattle.srb_shapes.specs.Lineages.{Lineage}
use Rattle.srb_shapes.specs.Shapes.{Shape, belongs_at, belongs, name_of, all_together, fits_at, fits}
use Rattle.srb_shapes.proofs.Steps.{all-mapped, any-mapped}

belongs-same : (f : Ty → Shape → Bool) (untyped : Bool) (L : Lineage) (x : Ty-F Ty) (s : Shape) →
    belongs_at (λ (g : Shape → Bool). g) untyped L (map-Ty Ty (Shape → Bool) f x) s ≡ belongs_at f untyped L x s
belongs-same f untyped L (Ty-F.Any parts) s = any-mapped (λ (g : Shape → Bool). g s) f parts
belongs-same f untyped L (Ty-F.All members) s = all-mapped (λ (g : Shape → Bool). g s) f members
belongs-same f untyped L x s = refl

pub belongs_roll : (untyped : Bool) (L : Lineage) (x : Ty-F Ty) (s : Shape) →
    belongs untyped L (roll-Ty x) s ≡ belongs_at (belongs untyped L) untyped L x s
unfolding belongs
belongs_roll untyped L x s = ap (λ (g : Shape → Bool). g s) (fold-roll-Ty (Shape → Bool) (belongs_at (λ f. f) untyped L) x)
    ∙ belongs-same (belongs untyped L) untyped L x s

pub belongs_is : (untyped : Bool) (L : Lineage) (t : Ty) (s : Shape) → belongs untyped L t s ≡ belongs_at (belongs untyped L) untyped L (out-Ty t) s
belongs_is untyped L t s = ap (λ x. belongs untyped L x s) (sym (roll-out-Ty t)) ∙ belongs_roll untyped L (out-Ty t) s

names-mapped : (g : Ty → Bool) (ts : List Ty) → map (λ (y : Ty × Bool). name_of y.0) (map (λ t. (t, g t)) ts) ≡ map name_of ts
names-mapped g [] = refl
names-mapped g (t ∷ ts) = ap (λ ns. name_of t ∷ ns) (names-mapped g ts)

fits-same : (g : Ty → Bool) (L : Lineage) (x : Ty-F Ty) →
    fits_at (λ (y : Ty × Bool). y.0) (λ y. y.1) L (map-Ty Ty (Ty × Bool) (λ t. (t, g t)) x) ≡ fits_at (λ t. t) g L x
fits-same g L (Ty-F.Any parts) = all-mapped (λ (y : Ty × Bool). y.1) (λ t. (t, g t)) parts
fits-same g L (Ty-F.All members) = ap (all_together L) (names-mapped g members)
fits-same g L x = refl

pub fits_roll : (L : Lineage) (x : Ty-F Ty) → fits L (roll-Ty x) ≡ fits_at (λ t. t) (fits L) L x
unfolding fits
fits_roll L x = para-roll-Ty Bool (fits_at (λ x. x.0) (λ x. x.1) L) x ∙ fits-same (fits L) L x
