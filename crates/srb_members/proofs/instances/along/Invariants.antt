use Rattle.std.proofs.Common.{◌≡◌}
use Rattle.srb_members.specs.Members as spec
use Rattle.srb_members.specs.Views.{members_at}
use Rattle.srb_members.proofs.instances.along.Given as goal

abbrev pub invariant-loop-c : goal.invariant-loop-c
invariant-loop-c l = spec.along (members_at l.w) l.name l.at ≡ spec.along (members_at l.fn.w) l.fn.name l.fn.names
