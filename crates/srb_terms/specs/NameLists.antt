-- Lists of names that share their tails, as lists.
use Rattle.std.specs.Prelude.{ℕ, List, [], ◌∷◌}
use Rattle.srb_terms.specs.declared.names.Link.{Link}
use Rattle.srb_terms.specs.declared.names.Link.TheVariants.{End, More}

-- the names from a cell on
abbrev pub names_of : Link → List (List ℕ)
names_of End = []
names_of (More cell) = cell.value.name ∷ cell.value.rest
