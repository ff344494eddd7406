use Rattle.std.proofs.Common.{ap, ◌∙◌}
use Rattle.std.proofs.lemmas.Result.{on_ok_weaker}
use Rattle.srb_judgement.specs.Sequences.{and_one}
use Rattle.srb_judgement.specs.Views.{seen_state}
use Rattle.srb_walk.specs.Judging.{judge_of}
use Rattle.srb_walk_control.proofs.sequences.add.Goals as goal

pub returns-clause-judged : goal.returns-clause-judged
returns-clause-judged g c = let the = g.L.Language.the c.args.language.now in
    on_ok_weaker c.see.result
    (λ h. (λ i. record { types = c.in_ok-push.ensures.ok i; state = seen_state c.judge.new.state })
    ∙ ap (λ j. and_one c.args.types.now j) (c.in_ok-ty.ensures ∙ ap (λ x. judge_of the c.args.tree.now x (seen_state c.args.state.now)) c.of.ensures))
    c.see.ensures

pub returns-clause-seen : goal.returns-clause-seen
returns-clause-seen g c = c.see.ensures
