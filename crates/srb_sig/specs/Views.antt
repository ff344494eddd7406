-- What the reading of types knows of a project's names: what the symbol table holds, or what the facts say.
use Rattle.std.specs.Prelude.{ℕ, List, Option}
use Rattle.srb_terms.specs.declared.fact.Fact.{Fact}
use Rattle.srb_terms.specs.declared.world.World.{World}
use Rattle.srb_rules.specs.Kinds.{kind_of}
use Rattle.srb_rules.specs.Resolves.{lin_in, resolves}
use Rattle.srb_rules.specs.Standing.{resolved_at}
use Rattle.srb_rules.specs.declared.position.Position.TheVariants as position
use Rattle.srb_shapes.specs.Lineages.{Lineage, lineage_at, or_none}

-- the name for which a path stands in the body with a scope, and the kinds and linearizations of names
pub record View : Type 0 where
  pub finds : List (List ℕ) → List (List ℕ) → Option (List ℕ)
  pub lineage : Lineage

-- by what the table holds
abbrev pub view_at : World → View
view_at w = record { finds = λ scope path. resolved_at w scope path position.Value; lineage = lineage_at w }

-- by what the facts say
abbrev pub view_of : List Fact → View
view_of fs = record {
  finds = λ scope path. resolves fs scope path position.Value;
  lineage = record { kind = kind_of fs; lin = λ c. or_none (lin_in fs c) };
}
