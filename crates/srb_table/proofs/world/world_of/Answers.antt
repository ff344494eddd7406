use Rattle.srb_table.specs.Steps.{facts_of}
use Rattle.srb_table.proofs.Stand.{members-told, stands-still}
use Rattle.srb_table.proofs.world.world_of.Goals as goal

pub returns-clause-names : goal.returns-clause-names
returns-clause-names c =
    stands-still c.in_ok-world.world c.with_members.result c.in_ok-members.members (facts_of c.args.first.now c.args.files.now) c.in_ok-world.ensures
    c.with_members.ensures

pub returns-clause-members : goal.returns-clause-members
returns-clause-members c =
    members-told c.in_ok-world.world c.with_members.result c.in_ok-members.members (facts_of c.args.first.now c.args.files.now)
    (c.in_ok-members.ensures c.in_ok-world.ensures) c.with_members.ensures
