use Rattle.std.proofs.Common.{◌≡◌, ◌++◌, drop}
use Rattle.srb_types.specs.Normal.{class_names}
use Rattle.srb_types.proofs.names.class_names.Given as goal

abbrev pub invariant-members : goal.invariant-members
invariant-members l = l.names ++ class_names (drop l.member-index l.members) ≡ class_names l.members
