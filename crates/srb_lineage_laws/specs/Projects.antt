-- The kinds and linearizations of projects.
use Rattle.std.specs.Prelude.{◌≡◌, List, Some}
use Rattle.srb_terms.specs.declared.fact.Fact.{Fact}
use Rattle.srb_terms.specs.declared.fact.Kind.TheVariants as kind
use Rattle.srb_terms.specs.declared.world.World.{World}
use Rattle.srb_rules.specs.FullNames.{OBJECT}
use Rattle.srb_rules.specs.Kinds.{kind_of}
use Rattle.srb_rules.specs.Resolves.{lin_in}
use Rattle.srb_rules.specs.Standing.{Stands}
use Rattle.srb_shapes.specs.Lineages.{Lineage, IsLineage, lineage_at, or_none}
use Rattle.srb_types_laws.specs.NormalForms.{HasNoCircles}

-- what some facts say of names
abbrev pub lineage_by : List Fact → Lineage
lineage_by fs = record { kind = kind_of fs; lin = λ c. or_none (lin_in fs c) }

-- The facts of a project, whose built-in table has the class `Object`, give linearizations that hold what each of their names inherits
-- and includes, and whose classes form chains.
abbrev pub FactsGiveLineages : Type 0
FactsGiveLineages = (fs : List Fact) → kind_of fs OBJECT ≡ Some kind.Class → IsLineage (lineage_by fs)

-- and so does the symbol table that stands for them
abbrev pub TablesGiveLineages : Type 0
TablesGiveLineages = (w : World) (fs : List Fact) → Stands w fs → kind_of fs OBJECT ≡ Some kind.Class → IsLineage (lineage_at w)

-- No two names of these facts inherit from each other.
abbrev pub FactsHaveNoCircles : Type 0
FactsHaveNoCircles = (fs : List Fact) → kind_of fs OBJECT ≡ Some kind.Class → HasNoCircles (lineage_by fs)

-- and none of the symbol table that stands for them
abbrev pub TablesHaveNoCircles : Type 0
TablesHaveNoCircles = (w : World) (fs : List Fact) → Stands w fs → kind_of fs OBJECT ≡ Some kind.Class → HasNoCircles (lineage_at w)
