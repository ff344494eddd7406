use Rattle.std.proofs.Common.{ap, ◌∙◌}
use Rattle.srb_judgement.specs.Reaching.{closed}
use Rattle.srb_walk_assignments.proofs.assignments.operated.Goals as goal

pub returns : goal.returns
returns g c = c.close.ensures ∙ ap (λ j. closed (g.L.Language.the c.args.language.now) j) c.in_ok-ty.ensures
