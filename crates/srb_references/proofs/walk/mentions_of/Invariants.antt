use Rattle.std.proofs.Common.{◌≡◌, ◌++◌, length, map}
use Rattle.std.specs.List.{flat_map}
use Rattle.srb_references.specs.MalformedTypes.{own_types}
use Rattle.srb_references.specs.References.{own_references, row_visits, below, visits}
use Rattle.srb_references.specs.Visits.{seen_visit}
use Rattle.srb_references.proofs.walk.mentions_of.Given as goal

abbrev pub decreases-list : goal.decreases-list
decreases-list l = length (row_visits (λ x. x) below l.list)

-- what was found so far and what is to be found in all that is still to be read: references, and parts of type expressions
abbrev pub invariant-list : goal.invariant-list
invariant-list l =
    (l.references ++ flat_map own_references (row_visits (λ x. x) below l.list) ≡ flat_map own_references (visits l.fn.tree))
    × (map seen_visit l.types ++ flat_map own_types (row_visits (λ x. x) below l.list) ≡ flat_map own_types (visits l.fn.tree))
