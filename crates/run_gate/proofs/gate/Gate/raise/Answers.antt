use Rattle.std.proofs.Common.{ap, sym, ◌∙◌, ◌+◌, length, arith}
use Rattle.run_gate.proofs.Steps.{raise_step}
use Rattle.run_gate.proofs.gate.Gate.raise.Goals as goal

pub fetch_max-requires : goal.fetch_max-requires
fetch_max-requires c =
    let here = ap (λ s. s.gate) c.s.view_is ∙ c.requires.gate ∙ sym c.self.view_is in
    let part = ap (λ s. length s.drawn + s.left) c.s.view_is in (here, omega (arith, c.self.invariant), raise_step _ _ _ (omega (arith, part, c.requires.part)))
