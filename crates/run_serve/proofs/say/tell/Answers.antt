use Rattle.std.proofs.Common.{inl, inr, refl}
use Rattle.run_serve.proofs.say.tell.Goals as goal

pub returns-in-Ok : goal.returns-in-Ok
returns-in-Ok g c = inl (c.in-Ok.ensures, c.say.ensures)

pub returns-in-Err : goal.returns-in-Err
returns-in-Err g c = inr (tt, c.in-Err.ensures, refl, refl)
