use Rattle.std.proofs.Common.{◌≡◌, ℕ, List, None, bytes_eq, drop}
use Rattle.indexmap.specs.IndexMap.{get}
use Rattle.rb_rewrite.specs.Initializers.{type_from}
use Rattle.rb_rewrite.proofs.initializers.noted.Given as goal

abbrev pub invariant-arguments : goal.invariant-arguments
invariant-arguments l =
    (n : List ℕ) → type_from n (get bytes_eq l.types n) (drop l.argument-index l.arguments) ≡ type_from n None l.arguments
