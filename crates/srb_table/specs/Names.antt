-- A table that knows the names of some facts and their kinds, by which superclasses and mixins are looked up.
use Rattle.std.specs.Prelude.{◌≡◌, ℕ, Bool, true, false, List, Option}
use Rattle.srb_terms.specs.Worlds.{inner_at, is_among, ivar_at, kind_at, method_at, value_at, value_of, within_at}
use Rattle.srb_terms.specs.declared.fact.Fact.{Fact}
use Rattle.srb_terms.specs.declared.world.World.{World}
use Rattle.srb_rules.specs.Circles.{circle_of}
use Rattle.srb_rules.specs.Kinds.{kind_of, within_of}
use Rattle.srb_rules.specs.Parents.{extended_of, superclass_of}
use Rattle.srb_rules.specs.Resolves.{lin_in}
use Rattle.srb_rules.specs.Values.{value_type}
use Rattle.srb_sig.specs.Views.{view_of}
use Rattle.srb_table.specs.Members.{ivar_of, method_of, reads_by}
use Rattle.srb_table.specs.declared.members.IvarsOfBoth.{IvarsOfBoth}
use Rattle.srb_table.specs.declared.members.Members.{Members}
use Rattle.srb_table.specs.declared.members.MethodsOfBoth.{MethodsOfBoth}
use Rattle.srb_table.specs.declared.world.Ancestry.{Ancestry}
use Rattle.srb_table.specs.declared.world.Linked.{Linked}
use Rattle.srb_table.specs.declared.world.Tables.{Tables}

pub record KnowsNames (w : World) (fs : List Fact) : Type 0 where
  pub kinds : (c : List ℕ) → kind_at w c ≡ kind_of fs c
  pub names : (scope : Option (List ℕ)) (last : List ℕ) → within_at w scope last ≡ within_of fs scope last

-- the linearizations are those that the facts say, and the circular references too
pub record AreLinked (t : Linked) (fs : List Fact) : Type 0 where
  pub lins : (c : List ℕ) → value_of c t.lins.entries ≡ lin_in fs c
  pub circles : (c d : List ℕ) → is_among d (value_of c t.circles.entries) ≡ circle_of fs c d

-- the superclasses are those that the facts say, and so are the linearizations and the circular references
pub record AreAncestry (t : Ancestry) (fs : List Fact) : Type 0 where
  pub superclasses : (c : List ℕ) → value_of c t.superclasses.entries ≡ superclass_of fs c
  pub linked : AreLinked t.linked fs

-- the tables hold what the facts say
pub record AreTables (t : Tables) (fs : List Fact) : Type 0 where
  pub ancestry : AreAncestry t.ancestry fs
  pub extended : (c : List ℕ) → value_of c t.extended.entries ≡ extended_of fs c

-- v has the names of w, with the tables t
abbrev pub IsFilled : World → Tables → World → Type 0
IsFilled w t v =
    (v.kinds ≡ w.kinds) × (v.inner ≡ w.inner) × (v.superclasses ≡ t.ancestry.superclasses) × (v.lins ≡ t.ancestry.linked.lins) × (v.extended ≡ t.extended)
    × (v.circles ≡ t.ancestry.linked.circles)

-- the methods of instances and of class objects are those that the facts say
pub record AreMethods (t : MethodsOfBoth) (fs : List Fact) : Type 0 where
  pub instances : (owner name : List ℕ) → inner_at owner name t.instances.entries ≡ method_of fs owner false name
  pub objects : (owner name : List ℕ) → inner_at owner name t.objects.entries ≡ method_of fs owner true name

-- the types of the instance variables of instances and of class objects are those that the facts say
pub record AreIvars (t : IvarsOfBoth) (fs : List Fact) : Type 0 where
  pub instances : (owner name : List ℕ) → inner_at owner name t.instances.entries ≡ ivar_of fs owner false name
  pub objects : (owner name : List ℕ) → inner_at owner name t.objects.entries ≡ ivar_of fs owner true name

-- the methods, the instance variables and the types of value constants are those that the facts say
pub record AreMembers (t : Members) (fs : List Fact) : Type 0 where
  pub methods : AreMethods t.methods fs
  pub ivars : AreIvars t.ivars fs
  pub values : (c : List ℕ) → value_of c t.values.entries ≡ value_type (reads_by (view_of fs)) fs c

-- v has the names of w and what w tells of them, with the methods, instance variables and types of value constants of t
abbrev pub HasMembers : World → Members → World → Type 0
HasMembers w t v =
    (v.kinds ≡ w.kinds) × (v.inner ≡ w.inner) × (v.superclasses ≡ w.superclasses) × (v.lins ≡ w.lins) × (v.extended ≡ w.extended)
    × (v.circles ≡ w.circles) × (v.methods ≡ t.methods.instances) × (v.own_methods ≡ t.methods.objects) × (v.ivars ≡ t.ivars.instances)
    × (v.own_ivars ≡ t.ivars.objects) × (v.values ≡ t.values)

-- The table tells what the facts say of methods, of instance variables and of the types of value constants, and nothing exactly where they
-- say nothing.
pub record TellsMembers (w : World) (fs : List Fact) : Type 0 where
  pub methods : (owner : List ℕ) (meta : Bool) (name : List ℕ) → method_at w owner meta name ≡ method_of fs owner meta name
  pub ivars : (owner : List ℕ) (meta : Bool) (name : List ℕ) → ivar_at w owner meta name ≡ ivar_of fs owner meta name
  pub values : (c : List ℕ) → value_at w c ≡ value_type (reads_by (view_of fs)) fs c
