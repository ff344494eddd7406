use Rattle.std.proofs.Common.{◌≡◌, None}
use Rattle.lsp_frame.proofs.tests.read_all.Given as goal

abbrev pub invariant-loop : goal.invariant-loop
invariant-loop l = record {
  going : l.frames.ended ≡ None;
  unfailed : l.source.faults ≡ 0;
}
