use Rattle.std.proofs.Common.{◌≡◌}
use Rattle.std.specs.List.{filter}
use Rattle.srb_members.specs.Members as spec
use Rattle.srb_members.specs.Views.{members_at}
use Rattle.srb_members.proofs.objects.of_others.Given as goal

abbrev pub invariant-loop-d : goal.invariant-loop-d
invariant-loop-d l =
    spec.of_owns (members_at l.w) l.name (filter (spec.is_other_class (members_at l.w) l.c) l.at)
    ≡ spec.of_owns (members_at l.fn.w) l.fn.name (filter (spec.is_other_class (members_at l.fn.w) l.fn.c) l.fn.names)
