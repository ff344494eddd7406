-- What each circular link adds to the table of circular references, told name by name.
use Rattle.std.specs.Prelude.{ℕ, List, [], ◌∷◌, Option, Some, bytes_eq, if◌then◌else◌}
use Rattle.std.specs.Option.{unwrap_or}
use Rattle.srb_rules.specs.declared.link.Link.{Link}

-- the list with one more name in front, a new one where there was none
abbrev pub grown : Option (List (List ℕ)) → List ℕ → Option (List (List ℕ))
grown old to = Some (to ∷ unwrap_or old [])

-- the names to which c refers in a circle, after one more link
abbrev pub circle_after : List ℕ → Option (List (List ℕ)) → Link → Option (List (List ℕ))
circle_after c old l = if bytes_eq l.of c then grown old l.to else old
