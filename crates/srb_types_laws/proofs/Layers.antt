-- Whether a type is arranged and cut goes by its layer.
use Rattle.std.proofs.Common.{◌≡◌, ℕ, Bool, ◌&&◌, List, [], ◌∷◌, map, refl, ap, sym, ◌∙◌}
use Rattle.std.specs.Bool.{IsTrue}
use Rattle.std.specs.List.{list_all}
use Rattle.srb_terms.specs.declared.ty.Ty.{Ty, out-Ty}
use Rattle.srb_terms.specs.declared.ty.Ty.TheOpen.{Ty-F}
use Rattle.srb_terms.specs.declared.ty.Ty.TheViews.{roll-Ty, roll-out-Ty}
use Rattle.srb_terms.specs.declared.ty.Ty.TheFolds.{map-Ty, fold-roll-Ty, para-roll-Ty}
use Rattle.srb_shapes.specs.Lineages.{Lineage}
use Rattle.srb_shapes.specs.Shapes.{fits_at, fits}
use Rattle.srb_shapes.proofs.Steps.{all-mapped}
use Rattle.srb_shapes_laws.proofs.Equations.{fits_roll}
use Rattle.srb_types.specs.Shown.{shown_at, shown}
use Rattle.srb_types_laws.specs.NormalForms.{has_several, is_part, are_apart, is_arranged_at, is_arranged, is_cut_at, is_cut, is_typed_at, is_typed}

pub themselves : {B : Type 0} (g : Ty → B) (ts : List Ty) → map (λ (y : Ty × B). y.0) (map (λ t. (t, g t)) ts) ≡ ts
themselves g [] = refl
themselves g (t ∷ ts) = ap (λ us. t ∷ us) (themselves g ts)

pub same-list : (ts : List Ty) → map (λ (t : Ty). t) ts ≡ ts
same-list [] = refl
same-list (t ∷ ts) = ap (λ us. t ∷ us) (same-list ts)

several-mapped : {X Y : Type 0} (f : X → Y) (xs : List X) → has_several (map f xs) ≡ has_several xs
several-mapped f [] = refl
several-mapped f (x ∷ []) = refl
several-mapped f (x ∷ y ∷ xs) = refl

-- a union whose parts are arranged by one test, and the test of the union
union-by : (L : Lineage) (parts : List Ty) (a b : Bool) (s t : Bool) (ps qs : List Ty) → a ≡ b → s ≡ t → ps ≡ qs →
    (a && (list_all is_part ps && (s && are_apart L ps))) ≡ (b && (list_all is_part qs && (t && are_apart L qs)))
union-by L parts a b s t ps qs e f g = λ i. e i && (list_all is_part (g i) && (f i && are_apart L (g i)))

arranged-same : (g : Ty → Bool) (L : Lineage) (x : Ty-F Ty) →
    is_arranged_at (λ (y : Ty × Bool). y.0) (λ y. y.1) L (map-Ty Ty (Ty × Bool) (λ t. (t, g t)) x) ≡ is_arranged_at (λ t. t) g L x
arranged-same g L (Ty-F.Any parts) = union-by L parts _ _ _ _ _ _
    (all-mapped (λ (y : Ty × Bool). y.1) (λ t. (t, g t)) parts)
    (several-mapped (λ t. (t, g t)) parts)
    (themselves g parts ∙ sym (same-list parts))
arranged-same g L (Ty-F.All members) = let e = several-mapped (λ t. (t, g t)) members in
    let f = themselves g members ∙ sym (same-list members) in λ i. e i && are_apart L (f i)
arranged-same g L x = refl

pub arranged_roll : (L : Lineage) (x : Ty-F Ty) → is_arranged L (roll-Ty x) ≡ is_arranged_at (λ t. t) (is_arranged L) L x
unfolding is_arranged
arranged_roll L x = para-roll-Ty Bool (is_arranged_at (λ x. x.0) (λ x. x.1) L) x ∙ arranged-same (is_arranged L) L x

pub arranged_is : (L : Lineage) (t : Ty) → is_arranged L t ≡ is_arranged_at (λ t. t) (is_arranged L) L (out-Ty t)
arranged_is L t = ap (is_arranged L) (sym (roll-out-Ty t)) ∙ arranged_roll L (out-Ty t)

cut-same : (g : Ty → ℕ → Bool) (x : Ty-F Ty) (n : ℕ) →
    is_cut_at (λ (y : Ty × (ℕ → Bool)). y.0) (λ y. y.1) (map-Ty Ty (Ty × (ℕ → Bool)) (λ t. (t, g t)) x) n ≡ is_cut_at (λ t. t) g x n
cut-same g (Ty-F.Any parts) n = all-mapped (λ (y : Ty × (ℕ → Bool)). y.1 n) (λ t. (t, g t)) parts
cut-same g x n = refl

pub cut_roll : (x : Ty-F Ty) (n : ℕ) → is_cut (roll-Ty x) n ≡ is_cut_at (λ t. t) is_cut x n
unfolding is_cut
cut_roll x n = ap (λ (f : ℕ → Bool). f n) (para-roll-Ty (ℕ → Bool) (is_cut_at (λ x. x.0) (λ x. x.1)) x) ∙ cut-same is_cut x n

pub cut_is : (t : Ty) (n : ℕ) → is_cut t n ≡ is_cut_at (λ t. t) is_cut (out-Ty t) n
cut_is t n = ap (λ x. is_cut x n) (sym (roll-out-Ty t)) ∙ cut_roll (out-Ty t) n

pub fits_is : (L : Lineage) (t : Ty) → fits L t ≡ fits_at (λ t. t) (fits L) L (out-Ty t)
fits_is L t = ap (fits L) (sym (roll-out-Ty t)) ∙ fits_roll L (out-Ty t)

pub shown_roll : (x : Ty-F Ty) → shown (roll-Ty x) ≡ shown_at (map-Ty Ty (List ℕ) shown x)
unfolding shown
shown_roll x = fold-roll-Ty (List ℕ) (λ t. shown_at t) x

-- a layer with what is asked of its type
pub record IsLayer (L : Lineage) (x : Ty-F Ty) : Type 0 where
  pub fitting : IsTrue (fits_at (λ t. t) (fits L) L x)
  pub arranged : IsTrue (is_arranged_at (λ t. t) (is_arranged L) L x)

typed-same : (x : Ty-F Ty) → is_typed_at (λ (b : Bool). b) (map-Ty Ty Bool is_typed x) ≡ is_typed_at is_typed x
typed-same (Ty-F.Any parts) = all-mapped (λ (b : Bool). b) is_typed parts
typed-same x = refl

pub typed_roll : (x : Ty-F Ty) → is_typed (roll-Ty x) ≡ is_typed_at is_typed x
unfolding is_typed
typed_roll x = fold-roll-Ty Bool (λ t. is_typed_at (λ b. b) t) x ∙ typed-same x

pub typed_is : (t : Ty) → is_typed t ≡ is_typed_at is_typed (out-Ty t)
typed_is t = ap is_typed (sym (roll-out-Ty t)) ∙ typed_roll (out-Ty t)
