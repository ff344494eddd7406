use Rattle.std.proofs.Common.{rules, sym, ap, ◌∙◌}
use Rattle.run_pair.proofs.beside.run_beside.Goals as goal

pub returns-in-Err-clause-err : goal.returns-in-Err-clause-err
returns-in-Err-clause-err g c =
    let back = c.in-Err.ensures in
    let name_f = ap (λ lent. lent.call.ghost_name) back.0 in
    let name_g = ap (λ lent. lent.call.ghost_name) back.1 in
    (sym (search (rules, name_f)) ∙ ap (λ lent. lent.call.now) back.0, sym (search (rules, name_g)) ∙ ap (λ lent. lent.call.now) back.1)
