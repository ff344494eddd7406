use Rattle.std.proofs.Common.{ap, ◌∙◌}
use Rattle.std.proofs.lemmas.Result.{IfOk-weaker}
use Rattle.srb_judgement.specs.Views.{seen_state}
use Rattle.srb_walk.specs.Judging.{judge_of}
use Rattle.srb_walk_assignments.proofs.assignments.judge_seeing.Goals as goal

pub returns : goal.returns
returns g c =
    IfOk-weaker c.judge.result _ _
    (λ ty h. h ∙ ap (λ x. judge_of (g.L.Language.the c.args.language.now) c.args.value.now x (seen_state c.args.state.now)) (c.of.ensures ∙ c.in_ok-inner.ensures))
    c.judge.ensures
