use Rattle.std.proofs.Common.{◌++◌, ap, ◌∙◌}
use Rattle.std.specs.List.{flat_map}
use Rattle.srb_sig.specs.Views.{view_at}
use Rattle.srb_references.specs.MalformedTypes as types
use Rattle.srb_references.specs.References.{own_errors, found_at, row_visits, below}
use Rattle.srb_references.specs.Visits.{seen_visit}
use Rattle.srb_references.proofs.Equations.{falls, keeps}
use Rattle.srb_references.proofs.wrong.wrong_of.Goals as goal

pub list-smaller : goal.list-smaller
list-smaller c = falls c.list.list c.pop.new.self c.with_parts.new.list (seen_visit c.in-Some.visit) c.in-Some.ensures c.in_ok-with_parts.ensures

pub list-preserved : goal.list-preserved
list-preserved c =
    let refs = own_errors (found_at c.args.world.now) in
    let types = types.own_errors (view_at c.args.world.now) in (
      ap (λ f. f ++ flat_map refs (row_visits (λ x. x) below c.with_parts.new.list)) c.in_ok-check_references.ensures.errors
          ∙ keeps refs c.list.references c.list.list c.pop.new.self c.with_parts.new.list (seen_visit c.in-Some.visit) c.in-Some.ensures c.in_ok-with_parts.ensures
          ∙ c.list.invariant.0,
      ap (λ f. f ++ flat_map types (row_visits (λ x. x) below c.with_parts.new.list)) c.in_ok-check_type.ensures
          ∙ keeps types c.list.types c.list.list c.pop.new.self c.with_parts.new.list (seen_visit c.in-Some.visit) c.in-Some.ensures c.in_ok-with_parts.ensures
          ∙ c.list.invariant.1,
      c.in_ok-check_references.ensures.empty,
    )
