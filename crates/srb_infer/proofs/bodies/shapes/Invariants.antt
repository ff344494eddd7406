use Rattle.std.proofs.Common.{◌≡◌, ◌++◌, drop, map}
use Rattle.srb_infer.specs.Bodies.{shape}
use Rattle.srb_infer.proofs.bodies.shapes.Given as goal

abbrev pub invariant-row : goal.invariant-row
invariant-row l = l.all ++ map shape (drop l.parameter-index l.row) ≡ map shape l.row
