-- Which method a name calls on a part of a type, by what is known of a project. Names are the lists of their bytes.
use Rattle.std.specs.Prelude.{ℕ, Bool, true, false, not, ◌&&◌, List, [], ◌∷◌, Option, None, Some, codes, bytes_eq, if◌then◌else◌}
use Rattle.std.specs.List.{filter}
use Rattle.std.specs.Option.{option_or, unwrap_or}
use Rattle.srb_terms.specs.declared.fact.Kind.{Kind}
use Rattle.srb_terms.specs.declared.fact.Kind.TheVariants as kind
use Rattle.srb_terms.specs.declared.ty.Method.{Method}
use Rattle.srb_terms.specs.declared.ty.Ty.{Ty, out-Ty}
use Rattle.srb_terms.specs.declared.ty.Ty.TheOpen.{Ty-F}
use Rattle.srb_shapes.specs.Lineages.{is_class}
use Rattle.srb_members.specs.Views.{Members}
use Rattle.srb_members.specs.declared.lookup.Found as lent_found
use Rattle.srb_members.specs.declared.lookup.Found.TheVariants as found
use Rattle.srb_members.specs.declared.lookup.Member as lent_member
use Rattle.srb_members.specs.declared.lookup.Member.TheVariants as member

-- ---- what is found

-- what a name calls on a part of a type
pub data Member : Type 0 where
  -- a method that is declared
  Declared : Method → Member
  -- `new` of a class object, by the `initialize` of its class: it answers an instance of the class
  Made : Method → Member
  -- anything, on `T.untyped`
  Free : Member
  -- nothing
  Missing : Member

-- the same, where `new` isn't told apart
pub data Found : Type 0 where
  One : Method → Found
  Free : Found
  Missing : Found

abbrev pub found_of : Member → Found
found_of (Member.Declared m) = Found.One m
found_of (Member.Made m) = Found.One m
found_of Member.Free = Found.Free
found_of Member.Missing = Found.Missing

-- what is lent
abbrev pub seen_member : lent_member.Member → Member
seen_member (member.Declared m) = Member.Declared m.now
seen_member (member.Made m) = Member.Made m.now
seen_member member.Free = Member.Free
seen_member member.Missing = Member.Missing

abbrev pub seen_found : lent_found.Found → Found
seen_found (found.One m) = Found.One m.now
seen_found found.Free = Found.Free
seen_found found.Missing = Found.Missing

-- ---- instances

-- the linearization of a class or module; that of any other name is empty
abbrev pub lin_of : Members → List ℕ → List (List ℕ)
lin_of k c = k.lineage.lin c

-- the method of this name that the first of some classes and modules declares for instances
abbrev pub along : Members → List ℕ → List (List ℕ) → Option Method
along k name [] = None
along k name (c ∷ cs) = option_or (k.method c false name) (along k name cs)

-- the method of instances along the linearization of a class or module
abbrev pub in_lin : Members → List ℕ → List ℕ → Option Method
in_lin k name c = along k name (lin_of k c)

-- a module has the methods of `Object` too
abbrev pub of_object : Members → List ℕ → Option Kind → Option Method
of_object k name (Some kind.Module) = in_lin k name (codes "Object")
of_object k name _ = None

-- an instance of a class or module: along its linearization, for a module then along that of `Object`
abbrev pub of_instance : Members → List ℕ → List ℕ → Option Method
of_instance k name c = option_or (in_lin k name c) (of_object k name (k.lineage.kind c))

-- ---- class objects

-- along the linearizations of some modules, from the last module to the first
abbrev pub in_modules : Members → List ℕ → List (List ℕ) → Option Method
in_modules k name [] = None
in_modules k name (m ∷ ms) = option_or (in_modules k name ms) (in_lin k name m)

-- what the class object of one class or module has of its own: its methods, and then those of the modules that it is extended by
abbrev pub of_own : Members → List ℕ → List ℕ → Option Method
of_own k name c = option_or (k.method c true name) (in_modules k name (unwrap_or (k.extended c) []))

-- the first of some classes whose class object has the method of its own
abbrev pub of_owns : Members → List ℕ → List (List ℕ) → Option Method
of_owns k name [] = None
of_owns k name (c ∷ cs) = option_or (of_own k name c) (of_owns k name cs)

-- whether the second name is that of another class
abbrev pub is_other_class : Members → List ℕ → List ℕ → Bool
is_other_class k c d = not (bytes_eq d c) && is_class (k.lineage.kind d)

-- a class object is an instance of `Class`, that of a module of `Module`
abbrev pub of_kind : Members → List ℕ → Option Kind → Option Method
of_kind k name (Some kind.Class) = in_lin k name (codes "Class")
of_kind k name (Some kind.Module) = in_lin k name (codes "Module")
of_kind k name _ = None

-- The class object of a class or module: what it has of its own, then what those of the other classes of its linearization have of
-- their own, in order, and then the methods of `Class` or `Module`.
abbrev pub of_class_object : Members → List ℕ → List ℕ → Option Method
of_class_object k name c =
    option_or (of_own k name c)
    (option_or (of_owns k name (filter (is_other_class k c) (lin_of k c))) (of_kind k name (k.lineage.kind c)))

-- the `initialize` that `new` calls on the class object of a class
abbrev pub initialize_of : Members → List ℕ → List ℕ → Option Method
initialize_of k name c =
    if bytes_eq name (codes "new") && is_class (k.lineage.kind c) then in_lin k (codes "initialize") c else None

-- ---- parts of types

-- what stands under an answer
abbrev pub declared : Option Method → Member
declared None = Member.Missing
declared (Some m) = Member.Declared m

abbrev pub made : Option Method → Member
made None = Member.Missing
made (Some m) = Member.Made m

-- a method, and else the `initialize` that makes an instance
abbrev pub declared_or_made : Option Method → Option Method → Member
declared_or_made None initialize = made initialize
declared_or_made (Some m) initialize = Member.Declared m

-- the method of a member of an intersection, which is a class or module
abbrev pub of_member_at : Members → List ℕ → Ty-F Ty → Option Method
of_member_at k name (Ty-F.Class c) = of_instance k name c
of_member_at k name _ = None

unfoldable pub of_member : Members → List ℕ → Ty → Option Method
of_member k name t = of_member_at k name (out-Ty t)

-- the first member of an intersection that has the method; the members stand in shown order
abbrev pub of_members : Members → List ℕ → List Ty → Option Method
of_members k name [] = None
of_members k name (t ∷ ts) = option_or (of_member k name t) (of_members k name ts)

-- arrays and hashes are instances of `Array` and `Hash`; `T.noreturn` and a union are no parts
abbrev pub member_at : Members → List ℕ → Ty-F Ty → Member
member_at k name Ty-F.Untyped = Member.Free
member_at k name Ty-F.Never = Member.Missing
member_at k name (Ty-F.Class c) = declared (of_instance k name c)
member_at k name (Ty-F.Meta c) = declared_or_made (of_class_object k name c) (initialize_of k name c)
member_at k name (Ty-F.Arr e) = declared (of_instance k name (codes "Array"))
member_at k name (Ty-F.Hsh key value) = declared (of_instance k name (codes "Hash"))
member_at k name (Ty-F.Any ts) = Member.Missing
member_at k name (Ty-F.All ts) = declared (of_members k name ts)

-- what a name calls on a part of a type
unfoldable pub member_of : Members → List ℕ → Ty → Member
member_of k name part = member_at k name (out-Ty part)
