use Rattle.std.proofs.Common.{ap, ◌∙◌}
use Rattle.srb_judgement.specs.Kept.{seen_context}
use Rattle.srb_judgement.specs.Assignments.{to_variable}
use Rattle.srb_walk_assignments.proofs.assignments.operate_variable.Goals as goal

pub returns : goal.returns
returns g c =
    c.in_ok-to_variable.ensures
    ∙ ap (λ j. to_variable (g.L.Language.the c.args.language.now) c.args.name.now c.args.whole (seen_context c.args.context.now) j) c.in_ok-ty.ensures
