use Rattle.std.proofs.Common.{ap}
use Rattle.srb_judgement.specs.States.{Tested, moved}
use Rattle.srb_terms.specs.declared.ty.Ty.{Ty}
use Rattle.srb_walk_control.proofs.branches.judge_condition.Goals as goal

pub returns-clause-rest : goal.returns-clause-rest
returns-clause-rest g c = ap (λ (t : Tested Ty). t.falsehood) c.in_ok-truth.ensures

pub returns-clause-state : goal.returns-clause-state
returns-clause-state g c = ap (λ (t : Tested Ty). moved t.truth t.state) c.in_ok-truth.ensures
