use Rattle.std.proofs.Common.{ap, sym, ◌∙◌, arith}
use Rattle.run_gate.proofs.Steps.{split_step}
use Rattle.run_gate.proofs.gate.Gate.split.Goals as goal

pub split_seat-requires : goal.split_seat-requires
split_seat-requires c =
    let here = ap (λ s. s.gate) c.s.view_is ∙ c.requires.gate ∙ sym c.self.view_is in (here, omega (arith, c.self.invariant), split_step _ _)
