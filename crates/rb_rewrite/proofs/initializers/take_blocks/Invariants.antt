use Rattle.std.proofs.Common.{◌≡◌, ℕ, List, bytes_eq, drop}
use Rattle.indexmap.specs.IndexMap.{get}
use Rattle.rb_rewrite.specs.Initializers.{without_blocks}
use Rattle.rb_rewrite.proofs.initializers.take_blocks.Given as goal

abbrev pub invariant-parameters : goal.invariant-parameters
invariant-parameters l =
    (n : List ℕ) → without_blocks n (get bytes_eq l.types n) (drop l.parameter-index l.parameters) ≡ without_blocks n (get bytes_eq l.fn.types n) l.parameters
