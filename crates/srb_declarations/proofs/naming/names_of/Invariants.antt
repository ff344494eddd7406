use Rattle.std.proofs.Common.{◌≡◌, ◌++◌, map, length}
use Rattle.rb_views.specs.Paths.{seen_names}
use Rattle.srb_declarations.specs.Declarations.{placed_name}
use Rattle.srb_declarations.proofs.naming.names_of.Given as goal

abbrev pub decreases-left : goal.decreases-left
decreases-left l = length (seen_names l.left)

abbrev pub invariant-left : goal.invariant-left
invariant-left l = l.items ++ map placed_name (seen_names l.left) ≡ map placed_name (seen_names l.fn.names)
