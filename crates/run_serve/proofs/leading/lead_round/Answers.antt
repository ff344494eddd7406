use Rattle.std.proofs.Common.{refl, sym, arith, append-nil, []}
use Rattle.run_serve.proofs.Deeds.{no_step}
use Rattle.run_serve.proofs.leading.lead_round.Goals as goal

pub returns-then-is_err-clause-turns : goal.returns-then-is_err-clause-turns
returns-then-is_err-clause-turns g c = ([], sym (append-nil c.args.pass.now.heard), (no_step _ [] _ _ (omega arith) refl refl, refl))
