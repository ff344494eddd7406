use Rattle.std.proofs.Common.{◌≡◌, map, take}
use Rattle.srb_judgement.specs.Blocks.{left_type}
use Rattle.srb_judgement.specs.Views.{seen_left}
use Rattle.srb_judgement.proofs.blocks.left_types.Given as goal

abbrev pub invariant-lefts : goal.invariant-lefts
invariant-lefts l = l.types ≡ map left_type (map seen_left (take l.left-index l.lefts))
