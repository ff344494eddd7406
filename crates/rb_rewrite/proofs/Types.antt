-- Two tellings of types that agree on each name are the same.
use Rattle.std.proofs.Common.{◌≡◌, ℕ, List, Option}
use Rattle.rb_tree.specs.declared.syntax.Tree.{Tree}

pub all_types : (f g : List ℕ → Option Tree) → ((n : List ℕ) → f n ≡ g n) → f ≡ g
all_types f g h = λ i n. h n i
