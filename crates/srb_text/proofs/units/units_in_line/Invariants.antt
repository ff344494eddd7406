use Rattle.std.proofs.Common.{◌≡◌, ◌+◌, ◌*◌, ◌≤◌, drop}
use Rattle.std.specs.List.{sum_by}
use Rattle.srb_text.specs.LineStarts.{first_content}
use Rattle.srb_text.specs.Units.{weight_at}
use Rattle.srb_text.proofs.units.units_in_line.Given as goal

abbrev pub invariant-loop-byte : goal.invariant-loop-byte
invariant-loop-byte l =
    (l.units + sum_by (weight_at l.encoding) (first_content (drop l.byte-index l.bytes)) ≡ sum_by (weight_at l.encoding) (first_content l.bytes)) × (l.units ≤ 4 * l.byte-index)
