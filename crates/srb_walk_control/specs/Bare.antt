-- Guards that are a body alone.
use Rattle.std.specs.Prelude.{Bool, true, false, List, [], ◌∷◌, Option, Some, None}
use Rattle.rb_tree.specs.declared.syntax.Guarded.{Guarded}
use Rattle.rb_tree.specs.declared.syntax.Rescue.{Rescue}

-- whether there is no `rescue` clause, no `else` and no `ensure`
abbrev pub bare_with : {P : Type 0} → List (Rescue P) → Option P → Option P → Bool
bare_with [] None None = true
bare_with [] None (Some ensure) = false
bare_with [] (Some otherwise) ensure = false
bare_with (r ∷ rescues) otherwise ensure = false

abbrev pub is_bare : {P : Type 0} → Guarded P → Bool
is_bare g = bare_with g.rescues g.otherwise g.ensure
