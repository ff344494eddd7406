-- A function that passes on what it is given stands above the one that it calls; else a call is on a part of what it is given.
use Rattle.std.proofs.Common.{◌≡◌, ◌+◌, ◌*◌, None, drop}
use Rattle.std.specs.Option.{option_copied}
use Rattle.srb_namer.specs.Declarations.{seen_place}
use Rattle.srb_namer.specs.Facts.{each, by_argument, by_suffix, by_piece, by_pair, by_arm, by_when, by_rescue, by_parameter, by_statements, plain_of, body_of}
use Rattle.srb_namer.proofs.walk.+walks.Given as goal

abbrev pub invariant-trees-row : goal.invariant-trees-row
invariant-trees-row l = each plain_of (drop l.tree-index l.row) (seen_place l.place) l.facts ≡ each plain_of l.row (seen_place l.place) l.fn.facts

abbrev pub invariant-arguments-row : goal.invariant-arguments-row
invariant-arguments-row l = each (by_argument plain_of) (drop l.one-index l.row) (seen_place l.place) l.facts ≡ each (by_argument plain_of) l.row (seen_place l.place) l.fn.facts

abbrev pub invariant-suffixes-row : goal.invariant-suffixes-row
invariant-suffixes-row l = each (by_suffix plain_of) (drop l.one-index l.row) (seen_place l.place) l.facts ≡ each (by_suffix plain_of) l.row (seen_place l.place) l.fn.facts

abbrev pub invariant-pieces-row : goal.invariant-pieces-row
invariant-pieces-row l = each (by_piece plain_of) (drop l.one-index l.row) (seen_place l.place) l.facts ≡ each (by_piece plain_of) l.row (seen_place l.place) l.fn.facts

abbrev pub invariant-pairs-row : goal.invariant-pairs-row
invariant-pairs-row l = each (by_pair plain_of) (drop l.one-index l.row) (seen_place l.place) l.facts ≡ each (by_pair plain_of) l.row (seen_place l.place) l.fn.facts

abbrev pub invariant-arms-row : goal.invariant-arms-row
invariant-arms-row l = each (by_arm plain_of) (drop l.one-index l.row) (seen_place l.place) l.facts ≡ each (by_arm plain_of) l.row (seen_place l.place) l.fn.facts

abbrev pub invariant-whens-row : goal.invariant-whens-row
invariant-whens-row l = each (by_when plain_of) (drop l.one-index l.row) (seen_place l.place) l.facts ≡ each (by_when plain_of) l.row (seen_place l.place) l.fn.facts

abbrev pub invariant-rescues-row : goal.invariant-rescues-row
invariant-rescues-row l = each (by_rescue plain_of) (drop l.one-index l.row) (seen_place l.place) l.facts ≡ each (by_rescue plain_of) l.row (seen_place l.place) l.fn.facts

abbrev pub invariant-parameters-row : goal.invariant-parameters-row
invariant-parameters-row l = each (by_parameter plain_of) (drop l.one-index l.row) (seen_place l.place) l.facts ≡ each (by_parameter plain_of) l.row (seen_place l.place) l.fn.facts

abbrev pub invariant-statements-row : goal.invariant-statements-row
invariant-statements-row l =
    by_statements (λ t. t) plain_of body_of (option_copied l.sig) (drop l.statement-index l.row) (seen_place l.place) l.facts
    ≡ by_statements (λ t. t) plain_of body_of None l.row (seen_place l.place) l.fn.facts

abbrev pub decreases-plain : goal.decreases-plain
decreases-plain l = 8 * goal.size-plain l + 1

abbrev pub decreases-plain_by_node : goal.decreases-plain_by_node
decreases-plain_by_node l = 8 * goal.size-plain_by_node l + 0

abbrev pub decreases-body : goal.decreases-body
decreases-body l = 8 * goal.size-body l + 2

abbrev pub decreases-body_by_node : goal.decreases-body_by_node
decreases-body_by_node l = 8 * goal.size-body_by_node l + 1

abbrev pub decreases-class : goal.decreases-class
decreases-class l = 8 * goal.size-class l + 3

abbrev pub decreases-trees : goal.decreases-trees
decreases-trees l = 8 * goal.size-trees l + 2

abbrev pub decreases-maybe : goal.decreases-maybe
decreases-maybe l = 8 * goal.size-maybe l + 2

abbrev pub decreases-argument : goal.decreases-argument
decreases-argument l = 8 * goal.size-argument l + 2

abbrev pub decreases-arguments : goal.decreases-arguments
decreases-arguments l = 8 * goal.size-arguments l + 3

abbrev pub decreases-brackets : goal.decreases-brackets
decreases-brackets l = 8 * goal.size-brackets l + 4

abbrev pub decreases-block : goal.decreases-block
decreases-block l = 8 * goal.size-block l + 2

abbrev pub decreases-suffix : goal.decreases-suffix
decreases-suffix l = 8 * goal.size-suffix l + 5

abbrev pub decreases-suffixes : goal.decreases-suffixes
decreases-suffixes l = 8 * goal.size-suffixes l + 6

abbrev pub decreases-piece : goal.decreases-piece
decreases-piece l = 8 * goal.size-piece l + 2

abbrev pub decreases-pieces : goal.decreases-pieces
decreases-pieces l = 8 * goal.size-pieces l + 3

abbrev pub decreases-pair : goal.decreases-pair
decreases-pair l = 8 * goal.size-pair l + 2

abbrev pub decreases-pairs : goal.decreases-pairs
decreases-pairs l = 8 * goal.size-pairs l + 3

abbrev pub decreases-arms : goal.decreases-arms
decreases-arms l = 8 * goal.size-arms l + 2

abbrev pub decreases-when : goal.decreases-when
decreases-when l = 8 * goal.size-when l + 3

abbrev pub decreases-whens : goal.decreases-whens
decreases-whens l = 8 * goal.size-whens l + 4

abbrev pub decreases-rescue : goal.decreases-rescue
decreases-rescue l = 8 * goal.size-rescue l + 3

abbrev pub decreases-rescues : goal.decreases-rescues
decreases-rescues l = 8 * goal.size-rescues l + 4

abbrev pub decreases-guarded : goal.decreases-guarded
decreases-guarded l = 8 * goal.size-guarded l + 5

abbrev pub decreases-parameters : goal.decreases-parameters
decreases-parameters l = 8 * goal.size-parameters l + 3

abbrev pub decreases-statements : goal.decreases-statements
decreases-statements l = 8 * goal.size-statements l + 2
