use Rattle.std.proofs.Common.{◌≡◌}
use Rattle.srb_gen.proofs.Sessions.{front}
use Rattle.srb_gen.proofs.Said.{SaysAll}
use Rattle.srb_gen.proofs.frames.session.Given as goal

-- the frames so far, and what their bodies say
abbrev pub invariant-files : goal.invariant-files
invariant-files l = record {
  bytes : l.bytes.items ≡ front l.number;
  says : SaysAll l.number;
}
