use Rattle.std.proofs.Common.{◌≡◌, bytes_eq, map, take}
use Rattle.indexmap.specs.IndexMap.{get}
use Rattle.rb_rewrite.specs.Initializers.{assigned}
use Rattle.rb_rewrite.proofs.initializers.assigned_statements.Given as goal

abbrev pub invariant-statements : goal.invariant-statements
invariant-statements l = l.made ≡ map (assigned (get bytes_eq l.types)) (take l.statement-index l.statements)
