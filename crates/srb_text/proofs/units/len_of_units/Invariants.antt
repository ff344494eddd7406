use Rattle.std.proofs.Common.{◌≡◌, ◌+◌, length, drop}
use Rattle.srb_text.specs.LineStarts.{first_content}
use Rattle.srb_text.specs.Positions.{fitting}
use Rattle.srb_text.specs.Units.{weight_at}
use Rattle.srb_text.proofs.units.len_of_units.Given as goal

abbrev pub invariant-loop-i : goal.invariant-loop-i
invariant-loop-i l =
    l.i + length (fitting (weight_at l.encoding) l.left (first_content (drop l.i l.bytes))) ≡ length (fitting (weight_at l.encoding) l.units (first_content l.bytes))
