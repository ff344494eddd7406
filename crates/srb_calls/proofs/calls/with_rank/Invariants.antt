use Rattle.std.proofs.Common.{◌≡◌, drop}
use Rattle.srb_calls.specs.Order.{in_rank}
use Rattle.srb_calls.specs.Calls as spec
use Rattle.srb_members.specs.Views.{members_at}
use Rattle.srb_calls.proofs.calls.with_rank.Given as goal

abbrev pub invariant-parts : goal.invariant-parts
invariant-parts l =
    spec.with_parts (members_at l.w) l.recv l.args l.end (in_rank l.place (drop l.part-index l.parts))
    ≡ spec.with_parts (members_at l.w) l.recv l.args l.fn.end (in_rank l.place l.parts)
