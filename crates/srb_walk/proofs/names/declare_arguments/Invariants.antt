use Rattle.std.proofs.Common.{◌≡◌, ◌++◌, drop, map}
use Rattle.srb_judgement.specs.Calls.{declared_by}
use Rattle.srb_judgement.specs.Chains.{operands_of}
use Rattle.srb_walk.specs.Known.{known_arguments}
use Rattle.srb_walk.proofs.names.declare_arguments.Given as goal

abbrev pub invariant-row : goal.invariant-row
invariant-row g l = let the = g.L.Language.the l.language in
    l.names ++ declared_by (operands_of (known_arguments the (drop l.each-index l.row))) ≡ l.fn.names ++ declared_by (operands_of (known_arguments the l.row))
