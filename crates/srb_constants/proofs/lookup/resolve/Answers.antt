use Rattle.std.proofs.Common.{◌∙◌}
use Rattle.srb_constants.proofs.Standing.{resolved-stands}
use Rattle.srb_constants.proofs.lookup.resolve.Goals as goal

pub returns-clause-facts : goal.returns-clause-facts
returns-clause-facts c = λ fs s. c.find.ensures ∙ resolved-stands c.args.w.now fs s c.args.scope.now c.args.path.now c.args.position
