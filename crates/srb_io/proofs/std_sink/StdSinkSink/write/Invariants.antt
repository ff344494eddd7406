use Rattle.std.proofs.Common.{◌≡◌}
use Rattle.srb_io.proofs.std_sink.StdSinkSink.write.Given as goal

abbrev pub invariant-loop : goal.invariant-loop
invariant-loop l = l.self.faults ≡ l.initial.self.faults
