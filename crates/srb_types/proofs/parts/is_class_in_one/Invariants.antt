use Rattle.std.proofs.Common.{◌≡◌, drop}
use Rattle.std.specs.List.{list_any}
use Rattle.srb_shapes.specs.Comparing.{lies_in}
use Rattle.srb_shapes.specs.Lineages.{lineage_at}
use Rattle.srb_types.proofs.parts.is_class_in_one.Given as goal

abbrev pub invariant-parts : goal.invariant-parts
invariant-parts l = list_any (λ q. lies_in (lineage_at l.w) l.p q) (drop l.part-index l.parts) ≡ list_any (λ q. lies_in (lineage_at l.w) l.p q) l.parts
