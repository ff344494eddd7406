-- Full names: names joined by `::`.
use Rattle.std.specs.Prelude.{ℕ, List, Option, None, Some, codes}
use Rattle.srb_terms.specs.Worlds.{joined}

-- The full name of the last part in a scope; at the root, where there is no scope, it is the last part alone.
abbrev pub full_name : Option (List ℕ) → List ℕ → List ℕ
full_name None last = last
full_name (Some scope) last = joined scope last

-- the class whose constants are those of the root
abbrev pub OBJECT : List ℕ
OBJECT = codes "Object"

-- the one class without a superclass
abbrev pub BASIC_OBJECT : List ℕ
BASIC_OBJECT = codes "BasicObject"

-- the two classes that no class inherits
abbrev pub ARRAY : List ℕ
ARRAY = codes "Array"

abbrev pub HASH : List ℕ
HASH = codes "Hash"
