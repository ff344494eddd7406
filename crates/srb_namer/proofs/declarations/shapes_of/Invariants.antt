use Rattle.std.proofs.Common.{◌≡◌, map, take}
use Rattle.srb_namer.specs.Declarations.{shape_of}
use Rattle.srb_namer.proofs.declarations.shapes_of.Given as goal

abbrev pub invariant-parameters : goal.invariant-parameters
invariant-parameters l = l.shapes ≡ map shape_of (take l.parameter-index l.parameters)
