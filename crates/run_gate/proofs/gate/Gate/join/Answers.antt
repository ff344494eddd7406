use Rattle.std.proofs.Common.{ap, sym, ◌∙◌, arith}
use Rattle.run_gate.proofs.Steps.{join_step, count_step}
use Rattle.run_gate.proofs.gate.Gate.join.Goals as goal

pub join_seat-requires : goal.join_seat-requires
join_seat-requires c =
    let here = ap (λ s. s.gate) c.s.view_is ∙ c.requires.gate.0 ∙ sym c.self.view_is in
    let there = ap (λ s. s.gate) c.other.view_is ∙ c.requires.gate.1 ∙ sym c.self.view_is in (here, there, c.other.invariant.2, omega (arith, c.self.invariant), join_step _ _ _ _)

pub load-requires : goal.load-requires
load-requires c =
    let here = c.join_seat.ensures.0 ∙ ap (λ s. s.gate) c.s.view_is ∙ c.requires.gate.0 ∙ sym c.self.view_is in (here, omega (arith, c.self.invariant), count_step _ _ _)
