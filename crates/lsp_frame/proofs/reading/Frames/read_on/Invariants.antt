use Rattle.std.proofs.Common.{◌≡◌, ◌-◌, ◌^◌, None, length}
use Rattle.lsp_frame.specs.Stream.{Reads}
use Rattle.lsp_frame.proofs.reading.Frames.read_on.Given as goal

abbrev pub invariant-loop-at : goal.invariant-loop-at
invariant-loop-at g l = record {
  reads : Reads (g.S.Source.left l.initial.source) (g.S.Source.left l.source) l.initial.self.pending l.self.pending;
  same_place : l.self.at ≡ l.initial.self.at;
  going : l.self.ended ≡ None;
  unfailed : g.S.Source.faults l.source ≡ g.S.Source.faults l.initial.source;
}

abbrev pub decreases-loop-at : goal.decreases-loop-at
decreases-loop-at g l = 2 ^ 64 - length l.self.pending
