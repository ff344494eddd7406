use Rattle.std.proofs.Common.{◌≡◌, drop}
use Rattle.std.specs.List.{list_any}
use Rattle.srb_shapes.specs.Lineages.{lineage_at}
use Rattle.srb_types.specs.Normal.{is_class}
use Rattle.srb_types.proofs.names.has_class.Given as goal

abbrev pub invariant-names : goal.invariant-names
invariant-names l = list_any (is_class (lineage_at l.w)) (drop l.name-index l.names) ≡ list_any (is_class (lineage_at l.w)) l.names
