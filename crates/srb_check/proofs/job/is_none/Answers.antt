use Rattle.std.proofs.Common.{◌≡◌, sym, subst}
use Rattle.std.specs.Prelude.{[]}
use Rattle.std.specs.Bool.{Decides}
use Rattle.std.proofs.lemmas.Bool.Decides.{same_from_decides}
use Rattle.srb_check.proofs.FactLists.{same_facts-decides}
use Rattle.srb_check.proofs.job.is_none.Goals as goal

pub returns-clause-one : goal.returns-clause-one
returns-clause-one c =
    let tells = subst (λ list. Decides c.is_empty_list.result (list ≡ [])) c.facts.ensures c.is_empty_list.ensures in
    same_from_decides c.is_empty_list.result _ tells (same_facts-decides c.args.facts.now [])

pub returns-clause-other : goal.returns-clause-other
returns-clause-other c =
    let tells = subst (λ list. Decides c.is_empty_list.result (list ≡ [])) c.facts.ensures c.is_empty_list.ensures in
    same_from_decides c.is_empty_list.result _ (λ e. sym (tells.0 e), λ e. tells.1 (sym e)) (same_facts-decides [] c.args.facts.now)
