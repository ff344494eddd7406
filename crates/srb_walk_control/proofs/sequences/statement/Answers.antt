use Rattle.std.proofs.Common.{ap, ◌∙◌}
use Rattle.srb_judgement.specs.Views.{seen_state}
use Rattle.srb_walk.specs.Judging.{judge_of}
use Rattle.srb_walk_control.proofs.sequences.statement.Goals as goal

pub returns-clause-judged : goal.returns-clause-judged
returns-clause-judged g c =
    c.in_ok-ty.ensures ∙ ap (λ x. judge_of (g.L.Language.the c.args.language.now) c.args.statement.now x (seen_state c.args.state.now)) c.of.ensures

pub returns-clause-seen : goal.returns-clause-seen
returns-clause-seen g c = c.in_ok-see.ensures
