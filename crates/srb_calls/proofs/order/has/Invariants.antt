use Rattle.std.proofs.Common.{◌≡◌, drop}
use Rattle.std.specs.List.{list_any}
use Rattle.srb_calls.specs.Order as spec
use Rattle.srb_calls.proofs.order.has.Given as goal

abbrev pub invariant-parts : goal.invariant-parts
invariant-parts l =
    list_any (spec.is_named l.name) (drop l.part-index l.parts) ≡ list_any (spec.is_named l.name) l.parts
