use Rattle.srb_table.specs.Steps.{facts_of}
use Rattle.srb_table.proofs.Stand.{stands-filled}
use Rattle.srb_table.proofs.world.standing.Goals as goal

pub returns : goal.returns
returns c =
    stands-filled c.in_ok-world.world c.filled.result c.in_ok-tables.tables (facts_of c.args.first.now c.args.files.now) c.in_ok-world.ensures
    (c.in_ok-tables.ensures c.in_ok-world.ensures) c.filled.ensures
