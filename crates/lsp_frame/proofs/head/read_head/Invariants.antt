use Rattle.std.proofs.Common.{◌≡◌, length}
use Rattle.lsp_frame.specs.Head.{IsWithin, head_from, head_of}
use Rattle.lsp_frame.proofs.head.read_head.Given as goal

abbrev pub invariant-loop-head : goal.invariant-loop-head
invariant-loop-head l = record {
  within : IsWithin l.scan;
  same : head_from l.size l.scan l.rest ≡ head_of l.bytes;
}

abbrev pub decreases-loop-head : goal.decreases-loop-head
decreases-loop-head l = length l.rest
