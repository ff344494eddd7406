use Rattle.std.proofs.Common.{ap, sym, ◌∙◌, arith}
use Rattle.run_gate.proofs.Steps.{draw_step}
use Rattle.run_gate.proofs.gate.Gate.draw.Goals as goal

pub fetch_add-number-requires : goal.fetch_add-number-requires
fetch_add-number-requires c =
    let here = ap (λ s. s.gate) c.s.view_is ∙ c.requires.gate ∙ sym c.self.view_is in
    let left = ap (λ s. s.left) c.s.view_is in (here, omega (arith, c.self.invariant), draw_step _ _ _ (omega (arith, left, c.requires.left)))
