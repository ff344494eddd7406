-- What the judgement of types knows of a project: what the symbol table holds, or what the facts say. Names are the lists of their bytes.
use Rattle.std.specs.Prelude.{ℕ, Bool, List, Option}
use Rattle.srb_terms.specs.Worlds.{extended_at, ivar_at, method_at, value_at}
use Rattle.srb_terms.specs.declared.ty.Method.{Method}
use Rattle.srb_terms.specs.declared.ty.Ty.{Ty}
use Rattle.srb_terms.specs.declared.world.World.{World}
use Rattle.srb_members.specs.Views.{Members}
use Rattle.srb_sig.specs.Views.{View, view_at}

pub record Knowledge : Type 0 where
  -- the name for which a path stands, what each name stands for, and the linearization of each class and module
  pub view : View
  -- the modules that the `extend`s of a class or module name
  pub extended : List ℕ → Option (List (List ℕ))
  -- the method that a class or module declares: one of the class object, or else one of instances
  pub method : List ℕ → Bool → List ℕ → Option Method
  -- the type of the instance variable that it declares: one of the class object, or else one of instances
  pub ivar : List ℕ → Bool → List ℕ → Option Ty
  -- the type of a value constant
  pub value : List ℕ → Option Ty

-- what the look-up of methods knows
abbrev pub members_of : Knowledge → Members
members_of k = record { lineage = k.view.lineage; extended = k.extended; method = k.method }

-- by what the table holds
abbrev pub knowledge_at : World → Knowledge
knowledge_at w = record { view = view_at w; extended = extended_at w; method = method_at w; ivar = ivar_at w; value = value_at w }
