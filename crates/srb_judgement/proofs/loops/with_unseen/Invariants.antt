use Rattle.std.proofs.Common.{◌≡◌, drop}
use Rattle.srb_judgement.specs.Steps.{with_unseen}
use Rattle.srb_judgement.specs.Views.{seen_environment}
use Rattle.srb_judgement.proofs.loops.with_unseen.Given as goal

abbrev pub invariant-names : goal.invariant-names
invariant-names l =
    with_unseen l.context l.ty (drop l.name-index l.names) (seen_environment l.all)
    ≡ with_unseen l.context l.ty l.names (seen_environment l.fn.e)
