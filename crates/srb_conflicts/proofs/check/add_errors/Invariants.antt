use Rattle.std.proofs.Common.{◌≡◌, ◌++◌, drop}
use Rattle.srb_conflicts.specs.Conflicts.{errors_by}
use Rattle.srb_conflicts.specs.Tables.{known_at}
use Rattle.srb_conflicts.proofs.check.add_errors.Given as goal

abbrev pub invariant-declarations : goal.invariant-declarations
invariant-declarations l =
    l.found ++ errors_by (known_at l.world) (drop l.declaration-index l.declarations) ≡ l.fn.found ++ errors_by (known_at l.world) l.declarations
