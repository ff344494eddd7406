use Rattle.std.proofs.Common.{◌≡◌, drop}
use Rattle.srb_members.specs.Members as spec
use Rattle.srb_members.specs.Views.{members_at}
use Rattle.srb_members.proofs.instances.of_members.Given as goal

abbrev pub invariant-members : goal.invariant-members
invariant-members l = spec.of_members (members_at l.w) l.name (drop l.member-index l.members) ≡ spec.of_members (members_at l.w) l.name l.members
