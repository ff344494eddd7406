use Rattle.srb_types.proofs.Naming.{named_step}
use Rattle.srb_types.proofs.names.class_names.Goals as goal

pub members-preserved : goal.members-preserved
members-preserved c =
    named_step c.args.members.now c.members.member-index c.member-item.result c.members.names c.push_name.new.names _
    c.members-test.true c.member-item.is c.in_ok-push_name.ensures c.members.invariant
