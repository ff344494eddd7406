use Rattle.std.proofs.Common.{arith, ◌≡◌}
use Rattle.run_gate.specs.declared.shown.Shown.{Shown}
use Rattle.run_gate.specs.Tickets.{times}
use Rattle.run_gate.proofs.Totals.{total_at, total_some}
use Rattle.run_gate.proofs.Moves.{once_at, once_from, none_twice}
use Rattle.run_gate.proofs.law.no_number_is_left_out.Goals as goal

pub returns-clause-others : goal.returns-clause-others
returns-clause-others c ticket stop seats kept by v at n upper = omega (arith, total_at (λ (u : Shown). times n u.drawn) seats by v at, kept.drawn n, once_from n ticket upper)

pub returns-clause-each : goal.returns-clause-each
returns-clause-each c ticket stop seats kept n lower =
    let t = total_some (λ (v : Shown). times n v.drawn) seats (omega (arith, kept.drawn n, once_at n ticket lower)) in
    let once : times n t.1.drawn ≡ 1 = omega (arith, t.3, none_twice ticket stop seats kept t.0 t.1 t.2 n) in (t.0, t.1, t.2, once)
