use Rattle.std.proofs.Common.{inl, inr, refl}
use Rattle.run_serve.proofs.reading.next_given.Goals as goal

pub returns-in-Ok : goal.returns-in-Ok
returns-in-Ok g c = λ left faults messages heard. inl (c.in-Ok.ensures left faults messages heard)

pub returns-in-Err : goal.returns-in-Err
returns-in-Err g c = λ left faults messages heard. inr (refl, c.in-Err.ensures left faults messages heard)
