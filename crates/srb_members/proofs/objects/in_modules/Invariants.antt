use Rattle.std.proofs.Common.{◌≡◌}
use Rattle.std.specs.Option.{option_copied, option_or}
use Rattle.srb_members.specs.Members as spec
use Rattle.srb_members.specs.Views.{members_at}
use Rattle.srb_members.proofs.objects.in_modules.Given as goal

abbrev pub invariant-loop-m : goal.invariant-loop-m
invariant-loop-m l =
    option_or (spec.in_modules (members_at l.w) l.name l.at) (option_copied l.found) ≡ spec.in_modules (members_at l.fn.w) l.fn.name l.fn.modules
