-- The equality and the order of errors.
use Rattle.std.specs.Prelude.{Bool, ◌==◌, nat_eq}
use Rattle.std.specs.Cmp.Lexicographic.{pointwise, slice_cmp}
use Rattle.std.specs.Ordering.{eq_of_both, nat_cmp, on, then_cmp}
use Rattle.std.specs.declared.cmp.Ordering.{Ordering}
use Rattle.srb_terms.specs.declared.diag.Diag.{Diag}

-- both errors have the same place, number and text
abbrev pub diag_eq : Diag → Diag → Bool
diag_eq = eq_of_both (on (λ d. d.span.start) ◌==◌)
    (eq_of_both (on (λ d. d.span.end) ◌==◌)
    (eq_of_both (on (λ d. d.number) ◌==◌) (on (λ d. d.text) (pointwise nat_eq))))

-- errors go by start, then end, then number, then text by its bytes
abbrev pub diag_cmp : Diag → Diag → Ordering
diag_cmp = then_cmp (on (λ d. d.span.start) nat_cmp)
    (then_cmp (on (λ d. d.span.end) nat_cmp)
    (then_cmp (on (λ d. d.number) nat_cmp) (on (λ d. d.text) (slice_cmp nat_cmp))))
