use Rattle.std.proofs.Common.{◌≡◌, drop}
use Rattle.srb_sig.specs.Signatures.{seen_types, with_values}
use Rattle.srb_sig.specs.Views.{view_at}
use Rattle.srb_sig.proofs.typing.with_values.Given as goal

abbrev pub invariant-values : goal.invariant-values
invariant-values l =
    with_values (view_at l.w) l.scope l.name (drop l.value-index l.values) (seen_types l.so_far)
    ≡ with_values (view_at l.w) l.scope l.name l.values (seen_types l.fn.types)
