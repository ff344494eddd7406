use Rattle.std.proofs.Common.{◌≡◌, ◌++◌, drop, map}
use Rattle.srb_judgement.specs.Sequences.{all_declared}
use Rattle.srb_judgement.specs.Variables.{part_operand}
use Rattle.srb_walk.specs.Known.{known_trees}
use Rattle.srb_walk.proofs.names.declare_all.Given as goal

abbrev pub invariant-row : goal.invariant-row
invariant-row g l = let the = g.L.Language.the l.language in
    l.names ++ all_declared (map part_operand (known_trees the (drop l.each-index l.row))) ≡ l.fn.names ++ all_declared (map part_operand (known_trees the l.row))
