use Rattle.std.proofs.Common.{◌≡◌, ◌++◌, take}
use Rattle.srb_references.specs.References.{errors_by, found_at}
use Rattle.srb_references.proofs.errors.check_each.Given as goal

abbrev pub invariant-references : goal.invariant-references
invariant-references l = l.found ≡ l.fn.found ++ errors_by (found_at l.world) (take l.reference-index l.references)
