use Rattle.std.proofs.Common.{◌≡◌, [], ◌++◌, length}
use Rattle.std.specs.List.{flat_map}
use Rattle.srb_sig.specs.Views.{view_at}
use Rattle.srb_references.specs.MalformedTypes as types
use Rattle.srb_references.specs.References.{own_errors, found_at, row_visits, below, visits}
use Rattle.srb_references.proofs.wrong.wrong_of.Given as goal

abbrev pub decreases-list : goal.decreases-list
decreases-list l = length (row_visits (λ x. x) below l.list)

-- the errors found so far and those of all that is still to be read: of references, and of parts of type expressions; no reference waits
abbrev pub invariant-list : goal.invariant-list
invariant-list l =
    (l.references ++ flat_map (own_errors (found_at l.world)) (row_visits (λ x. x) below l.list)
    ≡ flat_map (own_errors (found_at l.world)) (visits l.fn.tree))
    × (l.types ++ flat_map (types.own_errors (view_at l.world)) (row_visits (λ x. x) below l.list)
    ≡ flat_map (types.own_errors (view_at l.world)) (visits l.fn.tree))
    × (l.own ≡ [])
