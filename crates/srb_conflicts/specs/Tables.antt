-- What the symbol table tells of the names of a project.
use Rattle.std.specs.Prelude.{ℕ, List, [], ◌∷◌, Option, None, Some, bytes_eq, if◌then◌else◌}
use Rattle.std.specs.Option.{option_and_then}
use Rattle.srb_terms.specs.Worlds.{circular_at, kind_at, superclass_at, value_of}
use Rattle.srb_terms.specs.declared.fact.Kind.{Kind}
use Rattle.srb_terms.specs.declared.world.World.{World}
use Rattle.srb_rules.specs.declared.position.Position.TheVariants as position
use Rattle.srb_rules.specs.FullNames.{BASIC_OBJECT}
use Rattle.srb_rules.specs.Kinds.{is_class}
use Rattle.srb_rules.specs.Standing.{resolved_at}
use Rattle.srb_conflicts.specs.Conflicts.{Known}

-- the first class among some names
abbrev pub first_class : (List ℕ → Option Kind) → List (List ℕ) → Option (List ℕ)
first_class kinds [] = None
first_class kinds (name ∷ names) = if is_class (kinds name) then Some name else first_class kinds names

-- the class to which c refers in a circle
abbrev pub circular_class : World → List ℕ → Option (List ℕ)
circular_class w c = option_and_then (first_class (kind_at w)) (value_of c w.circles.entries)

-- The superclass that a class has. One that is written for `BasicObject` is circular there, and stands among the circular references alone.
abbrev pub superclass_known_at : World → List ℕ → Option (List ℕ)
superclass_known_at w c = if bytes_eq c BASIC_OBJECT then circular_class w c else superclass_at w c

-- what the table tells
abbrev pub known_at : World → Known
known_at w = record {
  kinds = kind_at w;
  superclass = superclass_known_at w;
  circular = circular_at w;
  named = λ scope path. resolved_at w scope path position.Parent;
}
