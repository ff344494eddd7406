-- A function that passes on what it is given stands above the one that it calls; else a call is on a part of what it is given.
use Rattle.std.proofs.Common.{◌≡◌, ◌++◌, ◌+◌, ◌*◌, drop, None}
use Rattle.std.specs.Option.{option_copied, option_map}
use Rattle.rb_tree.specs.declared.syntax.Tree.{size-Tree}
use Rattle.srb_judgement.specs.Bodies.{inner_bodies, program_bodies}
use Rattle.srb_judgement.specs.Views.{text_in}
use Rattle.srb_walk.specs.Known.{known_trees}
use Rattle.srb_infer.proofs.bodies.+bodies.Given as goal

abbrev pub invariant-class_statements-row : goal.invariant-class_statements-row
invariant-class_statements-row g l = let the = g.L.Language.the l.language in
    l.errors ++ inner_bodies the (option_map (text_in the) (option_copied l.sig)) (known_trees the (drop l.statement-index l.row)) l.scope
    ≡ l.fn.errors ++ inner_bodies the None (known_trees the l.row) l.scope

abbrev pub invariant-program_statements-row : goal.invariant-program_statements-row
invariant-program_statements-row g l = let the = g.L.Language.the l.language in
    l.errors ++ program_bodies the (known_trees the (drop l.statement-index l.row)) l.scope
    ≡ l.fn.errors ++ program_bodies the (known_trees the l.row) l.scope

abbrev pub decreases-bodies_by_node : goal.decreases-bodies_by_node
decreases-bodies_by_node g l = 8 * size-Tree l.tree.now + 0

abbrev pub decreases-bodies : goal.decreases-bodies
decreases-bodies g l = 8 * size-Tree l.tree.now + 1

abbrev pub decreases-class_statements : goal.decreases-class_statements
decreases-class_statements g l = 8 * goal.size-class_statements g l + 2

abbrev pub decreases-program_statements : goal.decreases-program_statements
decreases-program_statements g l = 8 * goal.size-program_statements g l + 2

abbrev pub decreases-inner_by_node : goal.decreases-inner_by_node
decreases-inner_by_node g l = 8 * size-Tree l.body.now + 0

abbrev pub decreases-inner_bodies : goal.decreases-inner_bodies
decreases-inner_bodies g l = 8 * size-Tree l.body.now + 1

abbrev pub decreases-class : goal.decreases-class
decreases-class g l = 8 * size-Tree l.body.now + 2
