-- Which references to superclasses and included modules are circular.
use Rattle.std.specs.Prelude.{ℕ, Bool, false, ◌&&◌, ◌||◌, List, Option, None, Some, bytes_eq}
use Rattle.std.specs.List.{list_any}
use Rattle.srb_terms.specs.declared.fact.Fact.{Fact}
use Rattle.srb_rules.specs.declared.link.Link.{Link}
use Rattle.srb_rules.specs.FullNames.{BASIC_OBJECT}
use Rattle.srb_rules.specs.Links.{circular_links}
use Rattle.srb_rules.specs.Parents.{deciding, links}

-- whether some link of the list goes from c to d
abbrev pub goes : List Link → List ℕ → List ℕ → Bool
goes ls c d = list_any (λ l. bytes_eq l.of c && bytes_eq l.to d) ls

-- whether it is this name
abbrev pub is_named : List ℕ → Option (List ℕ) → Bool
is_named name None = false
is_named name (Some other) = bytes_eq other name

-- A reference from c to d is circular where it gave a circular link. `BasicObject` has no superclass: the one that would decide is circular.
unfoldable pub circle_of : List Fact → List ℕ → List ℕ → Bool
circle_of fs c d = goes (circular_links (links fs)) c d || (bytes_eq c BASIC_OBJECT && is_named d (deciding fs c))
