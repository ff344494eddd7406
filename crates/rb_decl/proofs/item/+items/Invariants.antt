use Rattle.std.proofs.Common.{◌≡◌, ◌-◌, ◌+◌, ◌*◌}
use Rattle.rb_decl.specs.Items.{item, statements, statements_from}
use Rattle.rb_decl.proofs.item.+items.Given as goal

abbrev pub decreases-item : goal.decreases-item
decreases-item l = 3 * l.depth

abbrev pub decreases-namespace : goal.decreases-namespace
decreases-namespace l = 3 * l.depth + 2

abbrev pub decreases-statements : goal.decreases-statements
decreases-statements l = 3 * l.depth + 1

abbrev pub invariant-statements-loop-turn : goal.invariant-statements-loop-turn
invariant-statements-loop-turn l =
    statements (item l.fn.depth l.fn.long) l.fn.depth l.fn.tokens ≡ statements_from (item l.fn.depth l.fn.long) (l.fn.depth - l._turn) l.found l.rest
