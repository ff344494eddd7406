-- What the comparison of types needs to know of a project's names. Names are the lists of their bytes.
use Rattle.std.specs.Prelude.{◌≡◌, ◌⊎◌, ℕ, IsTrue, Bool, true, false, List, [], Option, Some, None, codes}
use Rattle.srb_terms.specs.NameSets.{has_name}
use Rattle.srb_terms.specs.declared.fact.Kind.{Kind}
use Rattle.srb_terms.specs.declared.fact.Kind.TheVariants as kind
use Rattle.srb_terms.specs.declared.world.World.{World}
use Rattle.srb_terms.specs.Worlds.{kind_at, lin_at}

-- what each name stands for, and the linearization of each class and module; that of any other name is empty
pub record Lineage : Type 0 where
  pub kind : List ℕ → Option Kind
  pub lin : List ℕ → List (List ℕ)

-- the names, and none where there is no list
abbrev pub or_none : Option (List (List ℕ)) → List (List ℕ)
or_none None = []
or_none (Some names) = names

-- the kinds and linearizations that a symbol table has
abbrev pub lineage_at : World → Lineage
lineage_at w = record { kind = kind_at w; lin = λ c. or_none (lin_at w c) }

abbrev pub is_class : Option Kind → Bool
is_class (Some kind.Class) = true
is_class _ = false

-- classes and modules
abbrev pub is_body : Option Kind → Bool
is_body (Some kind.Class) = true
is_body (Some kind.Module) = true
is_body _ = false

-- what the class object of a name of this kind is an instance of: that of a class of `Class`, that of a module of `Module`
abbrev pub object_lin : Lineage → Option Kind → List (List ℕ)
object_lin L (Some kind.Class) = L.lin (codes "Class")
object_lin L (Some kind.Module) = L.lin (codes "Module")
object_lin L _ = []

-- the name stands in the list
abbrev pub Has : List (List ℕ) → List ℕ → Type 0
Has names name = IsTrue (has_name name names)

-- What holds of the kinds and linearizations of each project: a class or module stands in its own linearization, with classes and
-- modules alone and all that these inherit and include; its classes form a chain of superclasses, and in that of a module there are
-- only modules.
pub record IsLineage (L : Lineage) : Type 0 where
  pub own : (c : List ℕ) → IsTrue (is_body (L.kind c)) → Has (L.lin c) c
  pub known : (c a : List ℕ) → Has (L.lin c) a → IsTrue (is_body (L.kind a))
  pub closed : (c b a : List ℕ) → Has (L.lin c) b → Has (L.lin b) a → Has (L.lin c) a
  pub chain : (c a b : List ℕ) → Has (L.lin c) a → Has (L.lin c) b → IsTrue (is_class (L.kind a)) → IsTrue (is_class (L.kind b))
      → Has (L.lin a) b ⊎ Has (L.lin b) a
  pub modules : (c a : List ℕ) → L.kind c ≡ Some kind.Module → Has (L.lin c) a → L.kind a ≡ Some kind.Module
