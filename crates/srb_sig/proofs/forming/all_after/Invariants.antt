use Rattle.std.proofs.Common.{◌≡◌, drop}
use Rattle.srb_sig.specs.Types.{all_after}
use Rattle.srb_sig.specs.Views.{view_at}
use Rattle.srb_sig.proofs.forming.all_after.Given as goal

abbrev pub invariant-types : goal.invariant-types
invariant-types l = all_after (view_at l.w).lineage l.so_far (drop l.ty-index l.types) ≡ all_after (view_at l.w).lineage l.first l.types
