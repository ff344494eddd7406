use Rattle.std.proofs.Common.{◌++◌, ap, ◌∙◌, map}
use Rattle.std.specs.List.{flat_map}
use Rattle.srb_references.specs.MalformedTypes.{own_types}
use Rattle.srb_references.specs.References.{own_references, row_visits, below}
use Rattle.srb_references.specs.Visits.{seen_visit}
use Rattle.srb_references.proofs.Equations.{falls, keeps}
use Rattle.srb_references.proofs.walk.mentions_of.Goals as goal

pub list-smaller : goal.list-smaller
list-smaller c = falls c.list.list c.pop.new.self c.with_parts.new.list (seen_visit c.in-Some.visit) c.in-Some.ensures c.in_ok-with_parts.ensures

pub list-preserved : goal.list-preserved
list-preserved c = (
  ap (λ f. f ++ flat_map own_references (row_visits (λ x. x) below c.with_parts.new.list)) c.in_ok-with_own.ensures
      ∙ keeps own_references c.list.references c.list.list c.pop.new.self c.with_parts.new.list (seen_visit c.in-Some.visit) c.in-Some.ensures c.in_ok-with_parts.ensures
      ∙ c.list.invariant.0,
  ap (λ f. f ++ flat_map own_types (row_visits (λ x. x) below c.with_parts.new.list)) c.in_ok-with_type.ensures
      ∙ keeps own_types (map seen_visit c.list.types) c.list.list c.pop.new.self c.with_parts.new.list (seen_visit c.in-Some.visit) c.in-Some.ensures c.in_ok-with_parts.ensures
      ∙ c.list.invariant.1,
)
