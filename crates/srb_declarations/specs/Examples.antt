-- A few programs and what they declare.
use Rattle.std.specs.Prelude.{◌≡◌, ℕ, ◌+◌, true, List, [], ◌∷◌, codes, Some, None}
use Rattle.srb_terms.specs.declared.fact.How.TheVariants as how
use Rattle.srb_terms.specs.declared.fact.Kind.TheVariants as kind
use Rattle.srb_terms.specs.declared.span.Span.{Span}
use Rattle.rb_tree.specs.Nodes as tree
use Rattle.rb_tree.specs.declared.syntax.Argument.TheVariants as argument
use Rattle.rb_tree.specs.declared.syntax.Modifier.TheVariants as modifier
use Rattle.rb_tree.specs.declared.syntax.PlacedName.{PlacedName}
use Rattle.rb_tree.specs.declared.syntax.Suffix.TheVariants as suffix
use Rattle.rb_tree.specs.declared.syntax.Tree.{Tree}
use Rattle.srb_declarations.specs.declared.declaration.Declaration.{Declaration}
use Rattle.srb_declarations.specs.declared.declaration.Declaration.TheVariants as declaration
use Rattle.srb_declarations.specs.Declarations.{declarations_of}

abbrev pub from_to : ℕ → ℕ → Span
from_to a b = record { start = a; end = b }

abbrev pub placed : List ℕ → ℕ → PlacedName
placed name a = record { name = name; span = from_to a (a + 1) }

-- a body of one statement, as of the whole text
abbrev pub body_with : Tree → Tree
body_with t = tree.Body (t ∷ []) (from_to 0 100)

-- a constant of one letter
abbrev pub constant : List ℕ → ℕ → Tree
constant name a = tree.Constant name (from_to a (a + 1))

-- `X = nil`
abbrev pub assigned : ℕ → Tree
assigned a = tree.Assign (constant (codes "X") a) (tree.Nil (from_to (a + 4) (a + 7))) (from_to a (a + 7))

-- `module A; class B < ::P; X = nil; end; end`: the superclass is looked up from the body of A
abbrev pub NESTED_CLASS : Tree
NESTED_CLASS = tree.Class (placed (codes "B") 16 ∷ [])
    (Some (record { top = true; path = placed (codes "P") 22 ∷ []; span = from_to 20 23 }))
    (body_with (assigned 25)) (from_to 10 37)

abbrev pub NESTED_MODULE : Tree
NESTED_MODULE = tree.Module (placed (codes "A") 7 ∷ []) (body_with NESTED_CLASS) (from_to 0 42)

abbrev pub NESTED : Tree
NESTED = body_with NESTED_MODULE

abbrev pub NESTED_DECLARATIONS : List Declaration
NESTED_DECLARATIONS =
    declaration.Body (codes "A") kind.Module (from_to 7 8)
    ∷ declaration.Body (codes "A::B") kind.Class (from_to 16 17)
    ∷ declaration.Superclass (codes "A::B") (codes "A" ∷ []) ([] ∷ codes "P" ∷ []) (from_to 20 23)
    ∷ declaration.Constant (codes "A::B::X") (from_to 25 26)
    ∷ []

-- `class A::B; end`: it stands at its whole path
abbrev pub LONG_CLASS : Tree
LONG_CLASS = tree.Class (placed (codes "A") 6 ∷ placed (codes "B") 9 ∷ []) None (tree.Body [] (from_to 0 0)) (from_to 0 15)

abbrev pub LONG : Tree
LONG = body_with LONG_CLASS

abbrev pub LONG_DECLARATIONS : List Declaration
LONG_DECLARATIONS = declaration.Body (codes "A::B") kind.Class (from_to 6 10) ∷ []

-- `include M::N, m, k: v` and `extend ::Q`
abbrev pub INCLUDE : Tree
INCLUDE = tree.Command (tree.Name (codes "include") (from_to 9 16))
    (argument.Positional (tree.Post (constant (codes "M") 17) (suffix.Constant (codes "N") (from_to 20 21) (from_to 18 21) ∷ []) (from_to 17 21))
    ∷ argument.Positional (tree.Name (codes "m") (from_to 23 24))
    ∷ argument.Keyword (codes "k") (from_to 26 28) (tree.Name (codes "v") (from_to 29 30))
    ∷ []) None (from_to 9 30)

abbrev pub EXTEND : Tree
EXTEND = tree.Command (tree.Name (codes "extend") (from_to 32 38))
    (argument.Positional (tree.TopConstant (codes "Q") (from_to 41 42) (from_to 39 42)) ∷ []) None (from_to 32 42)

-- `class A; include M::N, m, k: v; extend ::Q; end`
abbrev pub MIXIN_CLASS : Tree
MIXIN_CLASS = tree.Class (placed (codes "A") 6 ∷ []) None (tree.Body (INCLUDE ∷ EXTEND ∷ []) (from_to 9 42)) (from_to 0 47)

abbrev pub MIXINS : Tree
MIXINS = body_with MIXIN_CLASS

abbrev pub MIXIN_DECLARATIONS : List Declaration
MIXIN_DECLARATIONS =
    declaration.Body (codes "A") kind.Class (from_to 6 7)
    ∷ declaration.Mixin (codes "A") (codes "A" ∷ []) (codes "M" ∷ codes "N" ∷ []) how.Include (from_to 17 21)
    ∷ declaration.OtherMixin (from_to 23 24)
    ∷ declaration.OtherMixin (from_to 26 30)
    ∷ declaration.Mixin (codes "A") (codes "A" ∷ []) ([] ∷ codes "Q" ∷ []) how.Extend (from_to 39 42)
    ∷ []

-- a statement with `if c` after it
abbrev pub if_c : Tree → Tree
if_c t = tree.Modified t modifier.If (tree.Name (codes "c") (from_to 43 44)) (from_to 32 44)

abbrev pub ASSIGNED_IF : Tree
ASSIGNED_IF = if_c (assigned 32)

abbrev pub EXTEND_IF : Tree
EXTEND_IF = if_c EXTEND

-- `include M::N, m, k: v` and `X = nil if c` at the program's level, and `extend ::Q if c` in a module: the first and the last are calls
abbrev pub CALL_MODULE : Tree
CALL_MODULE = tree.Module (placed (codes "A") 53 ∷ []) (body_with EXTEND_IF) (from_to 46 80)

abbrev pub CALLS : Tree
CALLS = tree.Body (INCLUDE ∷ ASSIGNED_IF ∷ CALL_MODULE ∷ []) (from_to 0 80)

abbrev pub CALL_DECLARATIONS : List Declaration
CALL_DECLARATIONS = declaration.Constant (codes "X") (from_to 32 33) ∷ declaration.Body (codes "A") kind.Module (from_to 53 54) ∷ []

-- ---- what they declare

abbrev pub NestedDeclares : Type 0
NestedDeclares = declarations_of NESTED ≡ NESTED_DECLARATIONS

abbrev pub LongDeclares : Type 0
LongDeclares = declarations_of LONG ≡ LONG_DECLARATIONS

abbrev pub MixinsDeclare : Type 0
MixinsDeclare = declarations_of MIXINS ≡ MIXIN_DECLARATIONS

abbrev pub CallsDeclare : Type 0
CallsDeclare = declarations_of CALLS ≡ CALL_DECLARATIONS
