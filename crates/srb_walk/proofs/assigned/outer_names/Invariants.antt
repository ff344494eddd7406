use Rattle.std.proofs.Common.{◌≡◌, ◌++◌, drop}
use Rattle.std.specs.List.{flat_map}
use Rattle.srb_walk.specs.Assigned.{unless_parameter}
use Rattle.srb_walk.proofs.assigned.outer_names.Given as goal

abbrev pub invariant-names : goal.invariant-names
invariant-names l =
    l.found ++ flat_map (unless_parameter l.parameters) (drop l.name-index l.names) ≡ l.fn.found ++ flat_map (unless_parameter l.parameters) l.names
