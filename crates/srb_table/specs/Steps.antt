-- What each fact adds to the tables, told name by name: what a table holds at a name after one more fact.
use Rattle.std.specs.Prelude.{ℕ, Bool, true, false, ◌&&◌, List, [], ◌∷◌, ◌++◌, Option, None, Some, bytes_eq, if◌then◌else◌}
use Rattle.std.specs.Option.{option_or, unwrap_or}
use Rattle.srb_terms.specs.Worlds.{kind_at}
use Rattle.srb_terms.specs.declared.fact.Fact.{Fact}
use Rattle.srb_terms.specs.declared.fact.Fact.TheVariants.{Scope, Parent, Value, Method, Ivar}
use Rattle.srb_terms.specs.declared.fact.How.{How}
use Rattle.srb_terms.specs.declared.fact.How.TheVariants.{Super, Include, Extend}
use Rattle.srb_terms.specs.declared.fact.Kind.{Kind}
use Rattle.srb_terms.specs.declared.fact.Kind.TheVariants as kind
use Rattle.srb_terms.specs.declared.ty.Method as table
use Rattle.srb_terms.specs.declared.ty.Ty.{Ty}
use Rattle.srb_terms.specs.declared.world.World.{World}
use Rattle.srb_rules.specs.declared.link.Link.{Link}
use Rattle.srb_rules.specs.declared.position.Position.TheVariants as position
use Rattle.srb_rules.specs.Kinds.{is_body}
use Rattle.srb_rules.specs.Parents.{Reference, inherited_by, link_in, mixed_by, superclass_by}
use Rattle.srb_rules.specs.Standing.{resolved_at}
use Rattle.srb_rules.specs.Values.{given_type, is_value}
use Rattle.srb_sig.specs.Views.{View, view_at}
use Rattle.srb_table.specs.Members.{if_owned, method_given, reads_by}

-- the facts of some files as one list
abbrev pub all_facts : List (List Fact) → List Fact
all_facts [] = []
all_facts (file ∷ files) = file ++ all_facts files

-- the facts of the built-in table and those of the files after it
abbrev pub facts_of : List Fact → List (List Fact) → List Fact
facts_of first files = first ++ all_facts files

-- ---- kinds

-- the kind after the declaration of a class or module: the first one counts
abbrev pub with_body : Kind → Option Kind → Option Kind
with_body kind old = if is_body old then old else Some kind

-- the kind of c
abbrev pub kind_after : List ℕ → Option Kind → Fact → Option Kind
kind_after c old (Scope name kind.Class) = if bytes_eq name c then with_body kind.Class old else old
kind_after c old (Scope name kind.Module) = if bytes_eq name c then with_body kind.Module old else old
kind_after c old (Value name scope given) = if bytes_eq name c then option_or old (Some kind.Value) else old
kind_after c old _ = old

-- ---- full names

-- the name in the table of names by scope and last part, at those whose full name is `name`
abbrev pub inner_after : List ℕ → Option (List ℕ) → Fact → Option (List ℕ)
inner_after name old (Scope of kind.Class) = if bytes_eq of name then Some of else old
inner_after name old (Scope of kind.Module) = if bytes_eq of name then Some of else old
inner_after name old (Value of scope given) = if bytes_eq of name then Some of else old
inner_after name old _ = old

-- ---- superclasses and mixins, where the table knows all names and their kinds

-- what a superclass or a mixin stands for
abbrev pub parent_at : World → Reference
parent_at w scope path = resolved_at w scope path position.Parent

abbrev pub inherited_at : World → Reference
inherited_at w = inherited_by (kind_at w) (parent_at w)

abbrev pub mixed_at : World → Reference
mixed_at w = mixed_by (kind_at w) (parent_at w)

-- the deciding superclass of c: the first one counts
abbrev pub deciding_after : Reference → List ℕ → Option (List ℕ) → Fact → Option (List ℕ)
deciding_after inherits c old (Parent of scope path Super) = if bytes_eq of c then option_or old (inherits scope path) else old
deciding_after inherits c old _ = old

-- what stands at c in a table of which each declaration of a class or module adds the entry of its name
abbrev pub entry_after : {X : Type 0} → (List ℕ → Option X) → List ℕ → Option X → Fact → Option X
entry_after value c old (Scope name kind) = if bytes_eq name c then option_or old (value name) else old
entry_after value c old _ = old

-- the superclass of a class, by the table of those that are written
abbrev pub super_entry : World → (List ℕ → Option (List ℕ)) → List ℕ → Option (List ℕ)
super_entry w decides c = superclass_by (kind_at w c) (decides c) c

-- the linearization of a class or module, by the table of those of names that have links
abbrev pub lin_entry : World → (List ℕ → Option (List (List ℕ))) → List ℕ → Option (List (List ℕ))
lin_entry w lins c = if is_body (kind_at w c) then Some (unwrap_or (lins c) (c ∷ [])) else None

-- one more element, if there is one
abbrev pub appended : {X : Type 0} → List X → Option X → List X
appended xs None = xs
appended xs (Some x) = xs ++ x ∷ []

-- the links so far
abbrev pub links_after : (List ℕ → Option (List ℕ)) → Reference → List Link → Fact → List Link
links_after superclasses mixes ls f = appended ls (link_in superclasses mixes f)

-- the modules that c extends, in a list that begins with the first
abbrev pub listed : {X : Type 0} → Option (List X) → Option X → Option (List X)
listed old None = old
listed old (Some x) = Some (unwrap_or old [] ++ x ∷ [])

abbrev pub extended_after : Reference → List ℕ → Option (List (List ℕ)) → Fact → Option (List (List ℕ))
extended_after mixes c old (Parent of scope path Extend) = if bytes_eq of c then listed old (mixes scope path) else old
extended_after mixes c old _ = old

-- the modules that a class or module extends, by the table of those that extend some
abbrev pub extended_entry : World → (List ℕ → Option (List (List ℕ))) → List ℕ → Option (List (List ℕ))
extended_entry w extends c = if is_body (kind_at w c) then Some (unwrap_or (extends c) []) else None

-- ---- value constants

-- the type of the value constant c: the last one counts
abbrev pub value_after : World → List ℕ → Option Ty → Fact → Option Ty
value_after w c old (Value name scope given) =
    if bytes_eq name c then (if is_value (kind_at w name) then Some (given_type (reads_by (view_at w)) scope given) else old) else old
value_after w c old _ = old

-- ---- methods and instance variables, where the table knows all names

-- the method of an owner: the last one counts
abbrev pub method_after : View → Bool → List ℕ → List ℕ → Option table.Method → Fact → Option table.Method
method_after v meta owner name old (Method of scope object called shapes sig) =
    if_owned owner meta name of object called (method_given v of scope called shapes sig) old
method_after v meta owner name old _ = old

-- the type of an instance variable of an owner: the last one counts
abbrev pub ivar_after : View → Bool → List ℕ → List ℕ → Option Ty → Fact → Option Ty
ivar_after v meta owner name old (Ivar of scope object called given) = if_owned owner meta name of object called (reads_by v scope given) old
ivar_after v meta owner name old _ = old

-- ---- circles

abbrev pub same_how : How → How → Bool
same_how Super Super = true
same_how Include Include = true
same_how Extend Extend = true
same_how _ _ = false

-- whether two links are the same
abbrev pub same_link : Link → Link → Bool
same_link k l = bytes_eq k.of l.of && bytes_eq k.to l.to && same_how k.how l.how

-- the links without some of them, which are listed in the same order
abbrev pub left_of : List Link → List Link → List Link
left_of some [] = []
left_of [] (l ∷ ls) = l ∷ left_of [] ls
left_of (k ∷ some) (l ∷ ls) = if same_link k l then left_of some ls else l ∷ left_of (k ∷ some) ls
