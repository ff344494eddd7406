-- The limit of a file, and what the levels show.
use Rattle.std.specs.Prelude.{ℕ, Bool, true, false}
use Rattle.srb_terms.specs.declared.level.Level.{Level}
use Rattle.srb_terms.specs.declared.level.Level.TheVariants.{Ignore, False, True, Strict, Strong}

-- the most bytes of a file that is checked
abbrev pub LARGEST_FILE : ℕ
LARGEST_FILE = 1048576

-- whether a level hides every error
abbrev pub hides_all : Level → Bool
hides_all Ignore = true
hides_all False = false
hides_all True = false
hides_all Strict = false
hides_all Strong = false

-- whether methods need signatures at a level
abbrev pub needs_signatures : Level → Bool
needs_signatures Ignore = false
needs_signatures False = false
needs_signatures True = false
needs_signatures Strict = true
needs_signatures Strong = true
