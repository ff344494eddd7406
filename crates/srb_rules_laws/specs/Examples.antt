-- Small projects, the names for which their constants stand, their linearizations and their errors.
use Rattle.std.specs.Prelude.{◌≡◌, ℕ, List, [], ◌∷◌, ◌++◌, Some, None, codes}
use Rattle.srb_terms.specs.declared.fact.Fact.{Fact}
use Rattle.srb_terms.specs.declared.fact.Fact.TheVariants.{Scope, Parent, Value}
use Rattle.srb_terms.specs.declared.fact.Given.TheVariants.{Literal, Unknown}
use Rattle.srb_terms.specs.declared.fact.How.TheVariants.{Super, Include, Extend}
use Rattle.srb_terms.specs.declared.fact.Kind.TheVariants as kind
use Rattle.srb_terms.specs.declared.ty.Ty.TheVariants as ty
use Rattle.srb_rules.specs.declared.position.Position.TheVariants as position
use Rattle.srb_rules.specs.Conflicts.{conflicts_of}
use Rattle.srb_rules.specs.Kinds.{kind_of, within_of}
use Rattle.srb_rules.specs.Parents.{extended_of, superclass_of}
use Rattle.srb_rules.specs.Resolves.{lin_in, resolves}
use Rattle.srb_rules.specs.Values.{Reads, value_type}

-- ---- declarations

-- a reading that takes each type that is written out for `T.untyped`; the examples hold none
abbrev pub read_as_untyped : Reads
read_as_untyped scope text = ty.Untyped

abbrev pub class_fact : List ℕ → Fact
class_fact name = Scope name kind.Class

abbrev pub module_fact : List ℕ → Fact
module_fact name = Scope name kind.Module

-- `class NAME < TO` at the program's level
abbrev pub class_below : List ℕ → List ℕ → List Fact
class_below name to = Scope name kind.Class ∷ Parent name [] (to ∷ []) Super ∷ []

-- `include TO` and `extend TO` in the body of a class or module at the program's level
abbrev pub include_fact : List ℕ → List ℕ → Fact
include_fact of to = Parent of (of ∷ []) (to ∷ []) Include

abbrev pub extend_fact : List ℕ → List ℕ → Fact
extend_fact of to = Parent of (of ∷ []) (to ∷ []) Extend

-- the classes of the built-in table that the examples name
abbrev pub BASE : List Fact
BASE =
    class_fact (codes "BasicObject") ∷ module_fact (codes "Kernel") ∷ class_fact (codes "Object")
    ∷ Parent (codes "Object") [] (codes "BasicObject" ∷ []) Super ∷ include_fact (codes "Object") (codes "Kernel") ∷ []

abbrev pub LITERALS : List Fact
LITERALS = class_below (codes "String") (codes "Object") ++ class_below (codes "Integer") (codes "Object")

-- ---- superclasses

-- `module M` in one file and `class C < M` in the next
abbrev pub MODULE_M : List Fact
MODULE_M = BASE ++ module_fact (codes "M") ∷ class_below (codes "C") (codes "M")

-- M cannot be inherited, so the superclass of C is `Object`
abbrev pub ModuleIsNotInherited : Type 0
ModuleIsNotInherited =
    (conflicts_of MODULE_M (class_below (codes "C") (codes "M")) ≡ (1, 9007) ∷ [])
    × (superclass_of MODULE_M (codes "C") ≡ Some (codes "Object"))

-- `class X < String` and `class X < Integer` in one order and in the other
abbrev pub STRING_FIRST : List Fact
STRING_FIRST = BASE ++ LITERALS ++ class_below (codes "X") (codes "String") ++ class_below (codes "X") (codes "Integer")

abbrev pub INTEGER_FIRST : List Fact
INTEGER_FIRST = BASE ++ LITERALS ++ class_below (codes "X") (codes "Integer") ++ class_below (codes "X") (codes "String")

-- the first one decides, and the other one is refused
abbrev pub FirstSuperclassDecides : Type 0
FirstSuperclassDecides =
    (superclass_of STRING_FIRST (codes "X") ≡ Some (codes "String"))
    × (conflicts_of STRING_FIRST (class_below (codes "X") (codes "String")) ≡ [])
    × (conflicts_of STRING_FIRST (class_below (codes "X") (codes "Integer")) ≡ (1, 9003) ∷ [])
    × (superclass_of INTEGER_FIRST (codes "X") ≡ Some (codes "Integer"))
    × (conflicts_of INTEGER_FIRST (class_below (codes "X") (codes "String")) ≡ (1, 9003) ∷ [])

-- `class A < B` in one file and `class B < A` in the next
abbrev pub CIRCLE : List Fact
CIRCLE = BASE ++ class_below (codes "A") (codes "B") ++ class_below (codes "B") (codes "A")

-- both are circular; none of them counts for the linearization, and yet each is the superclass of the other
abbrev pub CircleOverTwoFiles : Type 0
CircleOverTwoFiles =
    (conflicts_of CIRCLE (class_below (codes "A") (codes "B")) ≡ (1, 9005) ∷ [])
    × (conflicts_of CIRCLE (class_below (codes "B") (codes "A")) ≡ (1, 9005) ∷ [])
    × (lin_in CIRCLE (codes "A") ≡ Some (codes "A" ∷ []))
    × (superclass_of CIRCLE (codes "A") ≡ Some (codes "B"))

-- `class BasicObject < String`
abbrev pub TOP_INHERITS : List Fact
TOP_INHERITS = BASE ++ LITERALS ++ class_below (codes "BasicObject") (codes "String")

-- it is circular, and changes nothing
abbrev pub NothingIsAboveBasicObject : Type 0
NothingIsAboveBasicObject =
    (conflicts_of TOP_INHERITS (class_below (codes "BasicObject") (codes "String")) ≡ (1, 9005) ∷ [])
    × (superclass_of TOP_INHERITS (codes "BasicObject") ≡ None)
    × (lin_in TOP_INHERITS (codes "BasicObject") ≡ Some (codes "BasicObject" ∷ []))

-- ---- kinds

-- `class C` in one file; `module C` and `C = 1` in the next
abbrev pub TWO_KINDS : List Fact
TWO_KINDS = BASE ++ class_fact (codes "C") ∷ module_fact (codes "C") ∷ Value (codes "C") [] (Literal (codes "Integer")) ∷ []

-- C is a class, and the two others are refused
abbrev pub FirstKindCounts : Type 0
FirstKindCounts =
    (kind_of TWO_KINDS (codes "C") ≡ Some kind.Class)
    × (conflicts_of TWO_KINDS (class_fact (codes "C") ∷ []) ≡ [])
    × (conflicts_of TWO_KINDS (module_fact (codes "C") ∷ Value (codes "C") [] (Literal (codes "Integer")) ∷ []) ≡ (0, 9004) ∷ (1, 9004) ∷ [])
    × (value_type read_as_untyped TWO_KINDS (codes "C") ≡ None)

-- `module C` and then `class C < String`
abbrev pub LATE_CLASS : List Fact
LATE_CLASS = BASE ++ LITERALS ++ module_fact (codes "C") ∷ class_below (codes "C") (codes "String")

-- the superclass of the refused declaration has no error of its own and makes no link
abbrev pub LateSuperclassIsDropped : Type 0
LateSuperclassIsDropped =
    (conflicts_of LATE_CLASS (class_below (codes "C") (codes "String")) ≡ (0, 9004) ∷ [])
    × (superclass_of LATE_CLASS (codes "C") ≡ None)
    × (lin_in LATE_CLASS (codes "C") ≡ Some (codes "C" ∷ []))

-- ---- mixins

-- class P includes B; class C < P includes A and then B
abbrev pub MIXED : List Fact
MIXED =
    BASE ++ module_fact (codes "A") ∷ module_fact (codes "B") ∷ class_fact (codes "P") ∷ include_fact (codes "P") (codes "B")
    ∷ (class_below (codes "C") (codes "P") ++ include_fact (codes "C") (codes "A") ∷ include_fact (codes "C") (codes "B") ∷ [])

-- B stands above P alone
abbrev pub MixinsAreLinearized : Type 0
MixinsAreLinearized =
    lin_in MIXED (codes "C")
    ≡ Some (codes "C" ∷ codes "A" ∷ codes "P" ∷ codes "B" ∷ codes "Object" ∷ codes "Kernel" ∷ codes "BasicObject" ∷ [])

-- class C includes and extends class P, extends module M twice, and includes D, which stands for nothing
abbrev pub WRONG_MIXINS : List Fact
WRONG_MIXINS =
    class_fact (codes "C") ∷ include_fact (codes "C") (codes "P") ∷ extend_fact (codes "C") (codes "P") ∷ extend_fact (codes "C") (codes "M")
    ∷ extend_fact (codes "C") (codes "M") ∷ include_fact (codes "C") (codes "D") ∷ []

abbrev pub WITH_WRONG_MIXINS : List Fact
WITH_WRONG_MIXINS = BASE ++ class_fact (codes "P") ∷ module_fact (codes "M") ∷ WRONG_MIXINS

abbrev pub ClassIsNoMixin : Type 0
ClassIsNoMixin =
    (conflicts_of WITH_WRONG_MIXINS WRONG_MIXINS ≡ (1, 9006) ∷ (2, 9006) ∷ [])
    × (extended_of WITH_WRONG_MIXINS (codes "C") ≡ Some (codes "M" ∷ codes "M" ∷ []))
    × (extended_of WITH_WRONG_MIXINS (codes "P") ≡ Some [])
    × (extended_of WITH_WRONG_MIXINS (codes "D") ≡ None)

-- module M includes itself by way of N
abbrev pub MODULE_CIRCLE : List Fact
MODULE_CIRCLE =
    module_fact (codes "M") ∷ module_fact (codes "N") ∷ include_fact (codes "M") (codes "N") ∷ include_fact (codes "N") (codes "M")
    ∷ extend_fact (codes "M") (codes "M") ∷ []

-- an `extend` makes no circle
abbrev pub ModulesInACircle : Type 0
ModulesInACircle = conflicts_of MODULE_CIRCLE MODULE_CIRCLE ≡ (2, 9005) ∷ (3, 9005) ∷ []

-- ---- constants

-- `X = 1` in module A and `Y = "s"` at the root; class B in A; class P with `Z = x` and then `Z = 2`; class C < P in A, with a `Y` of its own
abbrev pub CONSTANTS : List Fact
CONSTANTS =
    BASE ++ module_fact (codes "A") ∷ Value (codes "A::X") (codes "A" ∷ []) (Literal (codes "Integer"))
    ∷ Value (codes "Y") [] (Literal (codes "String")) ∷ class_fact (codes "A::B")
    ∷ class_fact (codes "P") ∷ Value (codes "P::Z") (codes "P" ∷ []) Unknown ∷ Value (codes "P::Z") (codes "P" ∷ []) (Literal (codes "Integer"))
    ∷ class_fact (codes "A::C") ∷ Parent (codes "A::C") (codes "A" ∷ []) (codes "P" ∷ []) Super
    ∷ Value (codes "A::C::Y") (codes "A::C" ∷ codes "A" ∷ []) Unknown ∷ []

-- the scopes of the bodies of A::B and of A::C
abbrev pub IN_B : List (List ℕ)
IN_B = codes "A::B" ∷ codes "A" ∷ []

abbrev pub IN_C : List (List ℕ)
IN_C = codes "A::C" ∷ codes "A" ∷ []

-- a constant of an enclosing body is found, before the root's and without its ancestors; one of the innermost body's ancestors is found
abbrev pub ConstantsOfBodies : Type 0
ConstantsOfBodies =
    (resolves CONSTANTS IN_B (codes "X" ∷ []) position.Value ≡ Some (codes "A::X"))
    × (resolves CONSTANTS IN_B (codes "Y" ∷ []) position.Value ≡ Some (codes "Y"))
    × (resolves CONSTANTS IN_C (codes "Y" ∷ []) position.Value ≡ Some (codes "A::C::Y"))
    × (resolves CONSTANTS IN_C (codes "" ∷ codes "Y" ∷ []) position.Value ≡ Some (codes "Y"))
    × (resolves CONSTANTS IN_B (codes "Z" ∷ []) position.Value ≡ None)
    × (resolves CONSTANTS IN_C (codes "Z" ∷ []) position.Value ≡ Some (codes "P::Z"))
    × (resolves CONSTANTS IN_C (codes "Z" ∷ []) position.Parent ≡ None)

-- after `A::C::` the ancestors in front of `Object` are looked at, after `Object::` the root, and after `A::` the module alone
abbrev pub ConstantsOfPaths : Type 0
ConstantsOfPaths =
    (resolves CONSTANTS [] (codes "A" ∷ codes "C" ∷ codes "Z" ∷ []) position.Value ≡ Some (codes "P::Z"))
    × (resolves CONSTANTS [] (codes "A" ∷ codes "C" ∷ codes "Z" ∷ []) position.Parent ≡ None)
    × (resolves CONSTANTS [] (codes "A" ∷ codes "B" ∷ codes "Y" ∷ []) position.Value ≡ None)
    × (resolves CONSTANTS [] (codes "Object" ∷ codes "Y" ∷ []) position.Value ≡ Some (codes "Y"))
    × (resolves CONSTANTS [] (codes "A" ∷ codes "Y" ∷ []) position.Value ≡ None)
    × (resolves CONSTANTS [] (codes "Y" ∷ codes "X" ∷ []) position.Value ≡ None)
    × (within_of CONSTANTS (Some (codes "A")) (codes "X") ≡ Some (codes "A::X"))

abbrev pub TypesOfConstants : Type 0
TypesOfConstants =
    (value_type read_as_untyped CONSTANTS (codes "A::X") ≡ Some (ty.Class (codes "Integer")))
    × (value_type read_as_untyped CONSTANTS (codes "P::Z") ≡ Some (ty.Class (codes "Integer")))
    × (value_type read_as_untyped CONSTANTS (codes "A::C::Y") ≡ Some ty.Untyped)
    × (value_type read_as_untyped CONSTANTS (codes "A") ≡ None)

-- `class Object; X = 1; class D; end; end` and `X = "s"` at the root
abbrev pub OBJECT_BODY : List Fact
OBJECT_BODY =
    BASE ++ class_fact (codes "Object") ∷ Value (codes "Object::X") (codes "Object" ∷ []) (Literal (codes "Integer"))
    ∷ class_fact (codes "Object::D") ∷ Value (codes "X") [] (Literal (codes "String")) ∷ []

-- the constants of such a body are found in it, before the root's, and from nowhere else
abbrev pub BodyOfObject : Type 0
BodyOfObject =
    (resolves OBJECT_BODY (codes "Object" ∷ []) (codes "X" ∷ []) position.Value ≡ Some (codes "Object::X"))
    × (resolves OBJECT_BODY (codes "Object::D" ∷ codes "Object" ∷ []) (codes "X" ∷ []) position.Value ≡ Some (codes "Object::X"))
    × (resolves OBJECT_BODY (codes "Object" ∷ []) (codes "Kernel" ∷ []) position.Parent ≡ Some (codes "Kernel"))
    × (resolves OBJECT_BODY [] (codes "X" ∷ []) position.Value ≡ Some (codes "X"))
    × (resolves OBJECT_BODY [] (codes "Object" ∷ codes "X" ∷ []) position.Value ≡ Some (codes "X"))
    × (resolves OBJECT_BODY [] (codes "D" ∷ []) position.Value ≡ None)
