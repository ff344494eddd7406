use Rattle.srb_walk_control.proofs.cases.plain_case.Goals as goal

pub returns : goal.returns
returns g c = c.all_whens.ensures
