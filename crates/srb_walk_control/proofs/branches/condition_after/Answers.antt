use Rattle.std.proofs.Common.{ap, ◌∙◌}
use Rattle.std.proofs.lemmas.Result.{on_ok_weaker}
use Rattle.srb_judgement.specs.Branches.{turned}
use Rattle.srb_judgement.specs.States.{moved}
use Rattle.srb_judgement.specs.Views.{seen_state}
use Rattle.srb_walk.specs.Judging.{test_of}
use Rattle.srb_walk_control.proofs.branches.condition_after.Goals as goal

pub returns-clause-rest : goal.returns-clause-rest
returns-clause-rest g c = let the = g.L.Language.the c.args.language.now in let before = seen_state c.args.state.now in
    on_ok_weaker c.judge_condition.result
    (λ h. h ∙ ap (λ x. (turned c.args.which (test_of the c.args.tree.now x before)).falsehood) (c.of.ensures ∙ c.in_ok-beside.ensures))
    c.judge_condition.ensures.rest

pub returns-clause-state : goal.returns-clause-state
returns-clause-state g c = let the = g.L.Language.the c.args.language.now in let before = seen_state c.args.state.now in
    on_ok_weaker c.judge_condition.result
    (λ h. h ∙ ap (λ x. moved (turned c.args.which (test_of the c.args.tree.now x before)).truth (turned c.args.which (test_of the c.args.tree.now x before)).state)
    (c.of.ensures ∙ c.in_ok-beside.ensures))
    c.judge_condition.ensures.state
