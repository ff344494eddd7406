use Rattle.std.proofs.Common.{◌≡◌, ℕ, List, drop}
use Rattle.std.specs.List.{fold}
use Rattle.srb_sig.specs.Views.{view_at}
use Rattle.srb_table.specs.Steps.{ivar_after}
use Rattle.srb_terms.specs.Worlds.{inner_at}
use Rattle.srb_table.proofs.ivars.add_ivars.Given as goal

abbrev pub invariant-files : goal.invariant-files
invariant-files l =
    (owner name : List ℕ)
    → fold (fold (ivar_after (view_at l.w) l.meta owner name)) (inner_at owner name l.table.entries) (drop l.file-index l.files)
    ≡ fold (fold (ivar_after (view_at l.w) l.meta owner name)) (inner_at owner name l.fn.table.entries) l.files
