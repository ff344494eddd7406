use Rattle.std.proofs.Common.{◌≡◌, drop}
use Rattle.srb_walk.specs.Assigned.{is_parameter}
use Rattle.srb_walk.proofs.assigned.has_name.Given as goal

abbrev pub invariant-row : goal.invariant-row
invariant-row l = is_parameter (drop l.each-index l.row) l.name ≡ is_parameter l.row l.name
