-- When a symbol table is that of some facts, and how a constant is looked up by what the table holds.
use Rattle.std.specs.Prelude.{◌≡◌, ℕ, List, [], Option}
use Rattle.std.specs.Option.{unwrap_or}
use Rattle.srb_terms.specs.Worlds.{circular_at, extended_at, kind_at, lin_at, superclass_at, within_at}
use Rattle.srb_terms.specs.declared.fact.Fact.{Fact}
use Rattle.srb_terms.specs.declared.world.World.{World}
use Rattle.srb_rules.specs.declared.position.Position.{Position}
use Rattle.srb_rules.specs.declared.position.Position.TheVariants as position
use Rattle.srb_rules.specs.Circles.{circle_of}
use Rattle.srb_rules.specs.Kinds.{kind_of, within_of}
use Rattle.srb_rules.specs.Lookup.{looked_up}
use Rattle.srb_rules.specs.Parents.{alone_by, extended_of, superclass_of}
use Rattle.srb_rules.specs.Resolves.{lin_in}

-- The table stands for what the facts say of names: each accessor answers what they say, and nothing exactly where they say nothing. Of
-- methods, of variables and of the types of constants it says nothing.
pub record Stands (w : World) (fs : List Fact) : Type 0 where
  pub kinds : (c : List ℕ) → kind_at w c ≡ kind_of fs c
  pub names : (scope : Option (List ℕ)) (last : List ℕ) → within_at w scope last ≡ within_of fs scope last
  pub lins : (c : List ℕ) → lin_at w c ≡ lin_in fs c
  pub superclasses : (c : List ℕ) → superclass_at w c ≡ superclass_of fs c
  pub extends : (c : List ℕ) → extended_at w c ≡ extended_of fs c
  pub circles : (c d : List ℕ) → circular_at w c d ≡ circle_of fs c d

-- The ancestors that a constant is looked up in: by the table's linearizations, or without ancestors as a superclass or a mixin.
abbrev pub ancestors_at : World → Position → List ℕ → List (List ℕ)
ancestors_at w position.Value c = unwrap_or (lin_at w c) []
ancestors_at w position.Parent c = alone_by (kind_at w) c

-- the name for which the path stands in the scope, by what the table holds
abbrev pub resolved_at : World → List (List ℕ) → List (List ℕ) → Position → Option (List ℕ)
resolved_at w scope path position = looked_up (within_at w) (ancestors_at w position) scope path
