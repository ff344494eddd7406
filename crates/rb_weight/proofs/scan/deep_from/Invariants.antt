use Rattle.std.proofs.Common.{◌≡◌, ◌≤◌, ◌+◌, length}
use Rattle.rb_weight.specs.Scans.{deep_from}
use Rattle.rb_weight.proofs.scan.deep_from.Given as goal

abbrev pub invariant-loop-rest : goal.invariant-loop-rest
invariant-loop-rest l =
    (deep_from l.at l.scan l.rest ≡ deep_from l.fn.at l.fn.start l.fn.tokens) × (l.scan.weight ≤ 200) × (l.at + length l.rest ≡ l.fn.at + length l.fn.tokens)

abbrev pub decreases-loop-rest : goal.decreases-loop-rest
decreases-loop-rest l = length l.rest
