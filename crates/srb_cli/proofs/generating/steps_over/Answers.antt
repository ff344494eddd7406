use Rattle.std.proofs.Common.{Some, refl, ap}
use Rattle.srb_cli.proofs.GeneratedSteps.{steps_of_done}
use Rattle.srb_cli.proofs.generating.steps_over.Goals as goal

pub returns-in-Done : goal.returns-in-Done
returns-in-Done g c =
    λ count given.
    steps_of_done _ _ c.serve-ended.result.cause c.in-Done.is count c.args.project c.args.bytes.items c.serve-ended.new.trace.steps c.serve-ended.ensures.serves
    c.new-source.ensures.left (ap Some c.new-trace.ensures.steps) refl given
