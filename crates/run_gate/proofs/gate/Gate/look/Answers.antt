use Rattle.std.proofs.Common.{ap, sym, ◌∙◌, arith}
use Rattle.run_gate.proofs.Steps.{look_step}
use Rattle.run_gate.proofs.gate.Gate.look.Goals as goal

pub load-requires : goal.load-requires
load-requires c =
    let here = ap (λ s. s.gate) c.s.view_is ∙ c.requires.gate ∙ sym c.self.view_is in (here, omega (arith, c.self.invariant), look_step _ _ _)
