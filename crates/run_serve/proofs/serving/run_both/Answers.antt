use Rattle.std.proofs.Common.{rules, arith, sym, ◌∙◌, append-nil, []}
use Rattle.run_serve.proofs.Deeds.{no_step}
use Rattle.run_serve.proofs.Sending.{unread}
use Rattle.run_serve.proofs.serving.run_both.Goals as goal

pub returns-in-Err-clause-sent : goal.returns-in-Err-clause-sent
returns-in-Err-clause-sent g c = unread _ _ _ _ _ (search rules) (search rules)

pub returns-in-Err-clause-turns : goal.returns-in-Err-clause-turns
returns-in-Err-clause-turns g c =
    ([], search rules ∙ sym (append-nil c.args.taking.now.heard), (no_step _ [] _ _ (omega arith) (search rules) (search rules), search rules))
