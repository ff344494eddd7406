use Rattle.std.proofs.Common.{◌≡◌, drop}
use Rattle.srb_judgement.specs.Steps.{parameters_after}
use Rattle.srb_judgement.specs.Views.{seen_environment}
use Rattle.srb_judgement.proofs.blocks.with_parameters.Given as goal

abbrev pub invariant-parameters : goal.invariant-parameters
invariant-parameters g l =
    parameters_after (g.L.Language.the l.language) (drop l.name-index l.parameters) l.left (seen_environment l.all)
    ≡ parameters_after (g.L.Language.the l.language) l.parameters l.types (seen_environment l.fn.e)
