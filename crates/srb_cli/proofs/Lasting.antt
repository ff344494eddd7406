-- A break or a length past the limit stays, whatever follows.
use Rattle.std.proofs.Common.{◌≡◌, ℕ, ◌-◌, zero, suc, List, [], ◌∷◌, ◌++◌, refl, sym, ap, ◌∙◌, subst}
use Rattle.lsp_frame.specs.declared.first.First.{First}
use Rattle.lsp_frame.specs.declared.first.First.TheVariants.{More, Refused, Oversized, Frame}
use Rattle.lsp_frame.specs.First.{first_of}
use Rattle.lsp_frame.specs.Bodies.{Bodies, place_after, bodies_after, bodies_of, first_bodies}
use Rattle.lsp_frame.proofs.FirstLemmas.{first_of-append}
use Rattle.run_core.specs.Inputs.{GoesOn}

-- what a first frame makes of the bytes at a place and after it
abbrev through : First → ℕ → ℕ → List ℕ → Bodies
through f at b rest = first_bodies f at (b ∷ rest) (λ to. bodies_after (to - 1) (place_after at to) rest)

lasts : (skip at : ℕ) (bytes more : List ℕ) → (GoesOn (bodies_after skip at bytes).end → ⊥)
    → (bodies_after skip at (bytes ++ more)).end ≡ (bodies_after skip at bytes).end
lasts zero at [] more none = absurd (none tt)
lasts (suc skip) at [] more none = absurd (none tt)
lasts (suc skip) at (b ∷ rest) more none = lasts skip at rest more none
lasts zero at (b ∷ rest) more none = by (first_of (b ∷ rest)) refl (λ skip at. lasts skip at rest more)
  where
    by : (f : First) → first_of (b ∷ rest) ≡ f
        → ((skip at : ℕ) → (GoesOn (bodies_after skip at rest).end → ⊥) → (bodies_after skip at (rest ++ more)).end ≡ (bodies_after skip at rest).end)
        → (bodies_after zero at ((b ∷ rest) ++ more)).end ≡ (bodies_after zero at (b ∷ rest)).end
    by More e later = absurd (none (subst (λ f. GoesOn (through f at b rest).end) (sym e) tt))
    by (Refused size) e later =
        let decided : first_of (b ∷ rest) ≡ More → ⊥ = λ d. let wrong : Refused size ≡ More = sym e ∙ d in cc in
        let same : first_of ((b ∷ rest) ++ more) ≡ Refused size = first_of-append (b ∷ rest) more decided ∙ e in
        ap (λ f. (through f at b (rest ++ more)).end) same ∙ sym (ap (λ f. (through f at b rest).end) e)
    by (Oversized n) e later =
        let decided : first_of (b ∷ rest) ≡ More → ⊥ = λ d. let wrong : Oversized n ≡ More = sym e ∙ d in cc in
        let same : first_of ((b ∷ rest) ++ more) ≡ Oversized n = first_of-append (b ∷ rest) more decided ∙ e in
        ap (λ f. (through f at b (rest ++ more)).end) same ∙ sym (ap (λ f. (through f at b rest).end) e)
    by (Frame from to) e later =
        let decided : first_of (b ∷ rest) ≡ More → ⊥ = λ d. let wrong : Frame from to ≡ More = sym e ∙ d in cc in
        let same : first_of ((b ∷ rest) ++ more) ≡ Frame from to = first_of-append (b ∷ rest) more decided ∙ e in
        let goes : GoesOn (bodies_after (to - 1) (place_after at to) rest).end → ⊥ = λ g. none (subst (λ f. GoesOn (through f at b rest).end) (sym e) g) in
        ap (λ f. (through f at b (rest ++ more)).end) same ∙ later (to - 1) (place_after at to) goes ∙ sym (ap (λ f. (through f at b rest).end) e)

pub end_lasts : (read more : List ℕ) → (GoesOn (bodies_of read).end → ⊥) → (bodies_of (read ++ more)).end ≡ (bodies_of read).end
end_lasts read more none = lasts 0 0 read more none
