-- A function that passes on what it is given stands above the one that it calls; else a call is on a part of what it is given.
use Rattle.std.proofs.Common.{◌≡◌, ◌++◌, ◌+◌, ◌*◌, drop}
use Rattle.std.specs.List.{flat_map}
use Rattle.srb_judgement.specs.Variables.{in_argument, in_pair, in_piece, in_arm, in_when, in_rescue, suffix_arguments, block_names}
use Rattle.srb_walk.specs.Assigned.{names_in, in_blocks}
use Rattle.srb_walk.specs.Known.{known_trees, known_arguments, known_suffixes, known_pieces, known_pairs, known_arms, known_whens, known_rescues}
use Rattle.srb_walk.proofs.assigned.+names.Given as goal

abbrev pub invariant-trees-row : goal.invariant-trees-row
invariant-trees-row g l =
    l.found ++ flat_map (names_in l.blocks) (known_trees (g.L.Language.the l.language) (drop l.tree-index l.row))
    ≡ l.fn.found ++ flat_map (names_in l.blocks) (known_trees (g.L.Language.the l.language) l.row)

abbrev pub invariant-arguments-row : goal.invariant-arguments-row
invariant-arguments-row g l =
    l.found ++ flat_map (names_in l.blocks) (flat_map in_argument (known_arguments (g.L.Language.the l.language) (drop l.each-index l.row)))
    ≡ l.fn.found ++ flat_map (names_in l.blocks) (flat_map in_argument (known_arguments (g.L.Language.the l.language) l.row))

abbrev pub invariant-all_arguments-row : goal.invariant-all_arguments-row
invariant-all_arguments-row g l =
    l.found ++ flat_map (names_in l.blocks) (flat_map suffix_arguments (known_suffixes (g.L.Language.the l.language) (drop l.each-index l.row)))
    ≡ l.fn.found ++ flat_map (names_in l.blocks) (flat_map suffix_arguments (known_suffixes (g.L.Language.the l.language) l.row))

abbrev pub invariant-all_blocks-row : goal.invariant-all_blocks-row
invariant-all_blocks-row g l =
    l.found ++ flat_map (block_names (in_blocks l.blocks)) (known_suffixes (g.L.Language.the l.language) (drop l.each-index l.row))
    ≡ l.fn.found ++ flat_map (block_names (in_blocks l.blocks)) (known_suffixes (g.L.Language.the l.language) l.row)

abbrev pub invariant-pieces-row : goal.invariant-pieces-row
invariant-pieces-row g l =
    l.found ++ flat_map (names_in l.blocks) (flat_map in_piece (known_pieces (g.L.Language.the l.language) (drop l.each-index l.row)))
    ≡ l.fn.found ++ flat_map (names_in l.blocks) (flat_map in_piece (known_pieces (g.L.Language.the l.language) l.row))

abbrev pub invariant-pairs-row : goal.invariant-pairs-row
invariant-pairs-row g l =
    l.found ++ flat_map (names_in l.blocks) (flat_map in_pair (known_pairs (g.L.Language.the l.language) (drop l.each-index l.row)))
    ≡ l.fn.found ++ flat_map (names_in l.blocks) (flat_map in_pair (known_pairs (g.L.Language.the l.language) l.row))

abbrev pub invariant-arms-row : goal.invariant-arms-row
invariant-arms-row g l =
    l.found ++ flat_map (names_in l.blocks) (flat_map in_arm (known_arms (g.L.Language.the l.language) (drop l.each-index l.row)))
    ≡ l.fn.found ++ flat_map (names_in l.blocks) (flat_map in_arm (known_arms (g.L.Language.the l.language) l.row))

abbrev pub invariant-whens-row : goal.invariant-whens-row
invariant-whens-row g l =
    l.found ++ flat_map (names_in l.blocks) (flat_map in_when (known_whens (g.L.Language.the l.language) (drop l.each-index l.row)))
    ≡ l.fn.found ++ flat_map (names_in l.blocks) (flat_map in_when (known_whens (g.L.Language.the l.language) l.row))

abbrev pub invariant-rescues-row : goal.invariant-rescues-row
invariant-rescues-row g l =
    l.found ++ flat_map (names_in l.blocks) (flat_map in_rescue (known_rescues (g.L.Language.the l.language) (drop l.each-index l.row)))
    ≡ l.fn.found ++ flat_map (names_in l.blocks) (flat_map in_rescue (known_rescues (g.L.Language.the l.language) l.row))

abbrev pub decreases-by_node : goal.decreases-by_node
decreases-by_node g l = 8 * goal.size-by_node g l + 0

abbrev pub decreases-assigned : goal.decreases-assigned
decreases-assigned g l = 8 * goal.size-assigned g l + 1

abbrev pub decreases-trees : goal.decreases-trees
decreases-trees g l = 8 * goal.size-trees g l + 2

abbrev pub decreases-if_any : goal.decreases-if_any
decreases-if_any g l = 8 * goal.size-if_any g l + 2

abbrev pub decreases-argument : goal.decreases-argument
decreases-argument g l = 8 * goal.size-argument g l + 2

abbrev pub decreases-arguments : goal.decreases-arguments
decreases-arguments g l = 8 * goal.size-arguments g l + 3

abbrev pub decreases-brackets : goal.decreases-brackets
decreases-brackets g l = 8 * goal.size-brackets g l + 4

abbrev pub decreases-in_block : goal.decreases-in_block
decreases-in_block g l = 8 * goal.size-in_block g l + 2

abbrev pub decreases-in_blocks : goal.decreases-in_blocks
decreases-in_blocks g l = 8 * goal.size-in_blocks g l + 3

abbrev pub decreases-suffix_arguments : goal.decreases-suffix_arguments
decreases-suffix_arguments g l = 8 * goal.size-suffix_arguments g l + 5

abbrev pub decreases-all_arguments : goal.decreases-all_arguments
decreases-all_arguments g l = 8 * goal.size-all_arguments g l + 6

abbrev pub decreases-suffix_block : goal.decreases-suffix_block
decreases-suffix_block g l = 8 * goal.size-suffix_block g l + 5

abbrev pub decreases-all_blocks : goal.decreases-all_blocks
decreases-all_blocks g l = 8 * goal.size-all_blocks g l + 6

abbrev pub decreases-piece : goal.decreases-piece
decreases-piece g l = 8 * goal.size-piece g l + 2

abbrev pub decreases-pieces : goal.decreases-pieces
decreases-pieces g l = 8 * goal.size-pieces g l + 3

abbrev pub decreases-pair : goal.decreases-pair
decreases-pair g l = 8 * goal.size-pair g l + 2

abbrev pub decreases-pairs : goal.decreases-pairs
decreases-pairs g l = 8 * goal.size-pairs g l + 3

abbrev pub decreases-arm : goal.decreases-arm
decreases-arm g l = 8 * goal.size-arm g l + 2

abbrev pub decreases-arms : goal.decreases-arms
decreases-arms g l = 8 * goal.size-arms g l + 3

abbrev pub decreases-when : goal.decreases-when
decreases-when g l = 8 * goal.size-when g l + 3

abbrev pub decreases-whens : goal.decreases-whens
decreases-whens g l = 8 * goal.size-whens g l + 4

abbrev pub decreases-rescue : goal.decreases-rescue
decreases-rescue g l = 8 * goal.size-rescue g l + 3

abbrev pub decreases-rescues : goal.decreases-rescues
decreases-rescues g l = 8 * goal.size-rescues g l + 4

abbrev pub decreases-guarded : goal.decreases-guarded
decreases-guarded g l = 8 * goal.size-guarded g l + 5
