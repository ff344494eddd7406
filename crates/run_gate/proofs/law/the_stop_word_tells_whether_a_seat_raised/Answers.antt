use Rattle.std.proofs.Common.{arith}
use Rattle.run_gate.specs.declared.shown.Shown.{Shown}
use Rattle.run_gate.proofs.Totals.{total_at, total_some}
use Rattle.run_gate.proofs.Moves.{flag, flag_true, flag_some}
use Rattle.run_gate.proofs.law.the_stop_word_tells_whether_a_seat_raised.Goals as goal

pub returns : goal.returns
returns c ticket stop seats kept = (
  (λ is. let t = total_some (λ (u : Shown). flag u.raised) seats (kept.raised.0 is) in (t.0, t.1, t.2, flag_true t.1.raised t.3)),
  λ t. kept.raised.1 (omega (arith, total_at (λ (u : Shown). flag u.raised) seats t.0 t.1 t.2, flag_some t.1.raised t.3)),
)
