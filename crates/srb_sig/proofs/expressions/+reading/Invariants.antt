use Rattle.std.proofs.Common.{◌≡◌, drop}
use Rattle.srb_sig.specs.Forms.{kind_of}
use Rattle.srb_sig.specs.Types as spec
use Rattle.srb_sig.specs.Views.{view_at}
use Rattle.srb_sig.proofs.expressions.+reading.Given as goal

abbrev pub invariant-read_values-parts : goal.invariant-read_values-parts
invariant-read_values-parts l =
    spec.with_each (λ x. spec.with_one (spec.inside (view_at l.w) l.scope x).own) (drop l.part-index l.parts) l.so_far
    ≡ spec.with_each (λ x. spec.with_one (spec.inside (view_at l.w) l.scope x).own) l.parts l.fn.row

abbrev pub invariant-read_arguments-parts : goal.invariant-read_arguments-parts
invariant-read_arguments-parts l =
    spec.with_each (λ x. spec.argument_rows (kind_of x) (spec.inside (view_at l.w) l.scope x)) (drop l.part-index l.parts) l.so_far
    ≡ spec.with_each (λ x. spec.argument_rows (kind_of x) (spec.inside (view_at l.w) l.scope x)) l.parts l.fn.row

abbrev pub invariant-read_rows-parts : goal.invariant-read_rows-parts
invariant-read_rows-parts l =
    spec.with_each (λ x. (spec.inside (view_at l.w) l.scope x).rows) (drop l.part-index l.parts) l.so_far
    ≡ spec.with_each (λ x. (spec.inside (view_at l.w) l.scope x).rows) l.parts l.fn.row
