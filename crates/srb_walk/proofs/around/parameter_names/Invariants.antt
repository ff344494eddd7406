use Rattle.std.proofs.Common.{◌≡◌, ◌++◌, drop, map}
use Rattle.srb_judgement.specs.Blocks.{placed_name}
use Rattle.srb_walk.proofs.around.parameter_names.Given as goal

abbrev pub invariant-parameters : goal.invariant-parameters
invariant-parameters l = l.names ++ map placed_name (drop l.parameter-index l.parameters) ≡ map placed_name l.parameters
