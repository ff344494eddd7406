use Rattle.std.proofs.Common.{arith, refl}
use Rattle.run_gate.specs.declared.shown.Shown.{Shown}
use Rattle.run_gate.specs.Tickets.{times, spent}
use Rattle.run_gate.proofs.Totals.{total_two}
use Rattle.run_gate.proofs.Moves.{once_le, none_twice}
use Rattle.run_gate.proofs.law.no_two_seats_draw_the_same_number.Goals as goal

pub returns-clause-two : goal.returns-clause-two
returns-clause-two c ticket stop seats kept by other v w apart at at' n some_there =
    let both = total_two (λ (v : Shown). times n v.drawn) spent seats by other v w refl apart at at' in omega (arith, both, kept.drawn n, once_le n ticket, some_there)

pub returns-clause-one : goal.returns-clause-one
returns-clause-one c = none_twice
