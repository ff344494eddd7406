use Rattle.std.proofs.Common.{◌≡◌, ◌++◌, map, take}
use Rattle.srb_sig.specs.Views.{view_at}
use Rattle.srb_references.specs.MalformedTypes.{malformed_errors}
use Rattle.srb_references.specs.Visits.{seen_visit}
use Rattle.srb_references.proofs.malformed.check_each.Given as goal

abbrev pub invariant-parts : goal.invariant-parts
invariant-parts l = l.found ≡ l.fn.found ++ malformed_errors (view_at l.world) (map seen_visit (take l.part-index l.parts))
