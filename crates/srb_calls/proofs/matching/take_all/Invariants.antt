use Rattle.std.proofs.Common.{◌≡◌, drop}
use Rattle.srb_shapes.specs.Lineages.{lineage_at}
use Rattle.srb_calls.specs.Matching as spec
use Rattle.srb_calls.proofs.matching.take_all.Given as goal

abbrev pub invariant-given : goal.invariant-given
invariant-given l =
    spec.all_taken (spec.taken (lineage_at l.w) l.part l.args l.m) l.p (drop l.a-index l.given) l.errors
    ≡ spec.all_taken (spec.taken (lineage_at l.w) l.part l.args l.m) l.p l.given l.fn.errors
