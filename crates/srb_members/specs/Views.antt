-- What the look-up of methods knows of a project: what the symbol table holds, or what the facts say. Names are the lists of their bytes.
use Rattle.std.specs.Prelude.{ℕ, Bool, List, Option}
use Rattle.srb_terms.specs.Worlds.{extended_at, method_at}
use Rattle.srb_terms.specs.declared.ty.Method.{Method}
use Rattle.srb_terms.specs.declared.world.World.{World}
use Rattle.srb_shapes.specs.Lineages.{Lineage, lineage_at}

pub record Members : Type 0 where
  -- what each name stands for, and the linearization of each class and module
  pub lineage : Lineage
  -- the modules that the `extend`s of a class or module name
  pub extended : List ℕ → Option (List (List ℕ))
  -- the method that a class or module declares: one of the class object, or else one of instances
  pub method : List ℕ → Bool → List ℕ → Option Method

-- by what the table holds
abbrev pub members_at : World → Members
members_at w = record { lineage = lineage_at w; extended = extended_at w; method = method_at w }
