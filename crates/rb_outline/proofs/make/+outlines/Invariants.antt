-- A function that passes on what it is given stands above the one that it calls; else a call is on a part of what it is given.
use Rattle.std.proofs.Common.{◌≡◌, ℕ, ◌+◌, ◌*◌, map, take}
use Rattle.rb_outline.specs.Outlines as spec
use Rattle.rb_outline.specs.Outlines.{outline_of}
use Rattle.rb_outline.proofs.make.+outlines.Given as goal

abbrev pub decreases-outlined : goal.decreases-outlined
decreases-outlined l = 8 * goal.size-outlined l + 0

abbrev pub decreases-parts : goal.decreases-parts
decreases-parts l = 8 * goal.size-parts l + 0

abbrev pub decreases-row : goal.decreases-row
decreases-row l = 8 * goal.size-row l + 1

abbrev pub decreases-perhaps : goal.decreases-perhaps
decreases-perhaps l = 8 * goal.size-perhaps l + 1

abbrev pub decreases-otherwise : goal.decreases-otherwise
decreases-otherwise l = 8 * goal.size-otherwise l + 1

abbrev pub decreases-ensured : goal.decreases-ensured
decreases-ensured l = 8 * goal.size-ensured l + 1

abbrev pub decreases-argument : goal.decreases-argument
decreases-argument l = 8 * goal.size-argument l + 1

abbrev pub decreases-arguments : goal.decreases-arguments
decreases-arguments l = 8 * goal.size-arguments l + 2

abbrev pub decreases-brackets : goal.decreases-brackets
decreases-brackets l = 8 * goal.size-brackets l + 3

abbrev pub decreases-blocks : goal.decreases-blocks
decreases-blocks l = 8 * goal.size-blocks l + 1

abbrev pub decreases-suffix : goal.decreases-suffix
decreases-suffix l = 8 * goal.size-suffix l + 4

abbrev pub decreases-suffixes : goal.decreases-suffixes
decreases-suffixes l = 8 * goal.size-suffixes l + 5

abbrev pub decreases-piece : goal.decreases-piece
decreases-piece l = 8 * goal.size-piece l + 1

abbrev pub decreases-pieces : goal.decreases-pieces
decreases-pieces l = 8 * goal.size-pieces l + 2

abbrev pub decreases-pair : goal.decreases-pair
decreases-pair l = 8 * goal.size-pair l + 1

abbrev pub decreases-pairs : goal.decreases-pairs
decreases-pairs l = 8 * goal.size-pairs l + 2

abbrev pub decreases-arm : goal.decreases-arm
decreases-arm l = 8 * goal.size-arm l + 1

abbrev pub decreases-arms : goal.decreases-arms
decreases-arms l = 8 * goal.size-arms l + 2

abbrev pub decreases-when : goal.decreases-when
decreases-when l = 8 * goal.size-when l + 2

abbrev pub decreases-whens : goal.decreases-whens
decreases-whens l = 8 * goal.size-whens l + 3

abbrev pub decreases-rescue : goal.decreases-rescue
decreases-rescue l = 8 * goal.size-rescue l + 2

abbrev pub decreases-rescues : goal.decreases-rescues
decreases-rescues l = 8 * goal.size-rescues l + 3

abbrev pub decreases-guarded : goal.decreases-guarded
decreases-guarded l = 8 * goal.size-guarded l + 4

abbrev pub decreases-parameter : goal.decreases-parameter
decreases-parameter l = 8 * goal.size-parameter l + 2

abbrev pub decreases-parameters : goal.decreases-parameters
decreases-parameters l = 8 * goal.size-parameters l + 3

abbrev pub invariant-row-loop-tree : goal.invariant-row-loop-tree
invariant-row-loop-tree l = l.parts.items ≡ map outline_of (take l.tree-index l.trees)

abbrev pub invariant-arguments-loop-each : goal.invariant-arguments-loop-each
invariant-arguments-loop-each l = l.parts.items ≡ map (spec.argument_outline outline_of) (take l.each-index l.arguments)

abbrev pub invariant-suffixes-loop-each : goal.invariant-suffixes-loop-each
invariant-suffixes-loop-each l = l.parts.items ≡ map (spec.suffix_outline outline_of) (take l.each-index l.suffixes)

abbrev pub invariant-pieces-loop-each : goal.invariant-pieces-loop-each
invariant-pieces-loop-each l = l.parts.items ≡ map (spec.piece_outline outline_of) (take l.each-index l.pieces)

abbrev pub invariant-pairs-loop-each : goal.invariant-pairs-loop-each
invariant-pairs-loop-each l = l.parts.items ≡ map (spec.pair_outline outline_of) (take l.each-index l.pairs)

abbrev pub invariant-arms-loop-each : goal.invariant-arms-loop-each
invariant-arms-loop-each l = l.parts.items ≡ map (spec.arm_outline outline_of) (take l.each-index l.arms)

abbrev pub invariant-whens-loop-each : goal.invariant-whens-loop-each
invariant-whens-loop-each l = l.parts.items ≡ map (spec.when_outline outline_of) (take l.each-index l.arms)

abbrev pub invariant-rescues-loop-each : goal.invariant-rescues-loop-each
invariant-rescues-loop-each l = l.parts.items ≡ map (spec.rescue_outline outline_of) (take l.each-index l.clauses)

abbrev pub invariant-parameters-loop-each : goal.invariant-parameters-loop-each
invariant-parameters-loop-each l = l.parts.items ≡ map (spec.parameter_outline outline_of) (take l.each-index l.parameters)
