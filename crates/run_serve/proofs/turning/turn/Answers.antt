use Rattle.std.proofs.Common.{refl, arith, sym, append-nil, []}
use Rattle.run_serve.proofs.Deeds.{no_step, did_nothing}
use Rattle.run_serve.proofs.turning.turn.Goals as goal

pub returns-then-look-clause-turns : goal.returns-then-look-clause-turns
returns-then-look-clause-turns g c = ([], sym (append-nil c.args.pass.now.heard), (no_step _ [] _ _ (omega arith) refl refl, refl))

pub returns-then-is_some-clause-turns : goal.returns-then-is_some-clause-turns
returns-then-is_some-clause-turns g c = ([], sym (append-nil c.args.pass.now.heard), (did_nothing _ _, tt, refl))
