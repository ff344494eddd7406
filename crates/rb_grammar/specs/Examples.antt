-- A few programs with their trees.
use Rattle.std.specs.Prelude.{ℕ, ◌+◌, false, List, [], ◌∷◌, codes, Some, None}
use Rattle.srb_terms.specs.declared.span.Span.{Span}
use Rattle.rb_tree.specs.declared.syntax.Argument.TheVariants as argument
use Rattle.rb_tree.specs.declared.syntax.Binary.TheVariants as binary
use Rattle.rb_tree.specs.declared.syntax.Dot.TheVariants as dot
use Rattle.rb_tree.specs.declared.syntax.Jump.TheVariants as jump
use Rattle.rb_tree.specs.declared.syntax.Modifier.TheVariants as modifier
use Rattle.rb_tree.specs.declared.syntax.Suffix.TheVariants as suffix
use Rattle.rb_tree.specs.declared.syntax.Tree.{Tree}
use Rattle.rb_tree.specs.Nodes as tree
use Rattle.rb_tree.specs.declared.syntax.Unary.TheVariants as unary
use Rattle.rb_tree.specs.declared.token.Token.{Token}
use Rattle.rb_tree.specs.declared.token.TokenKind.{TokenKind}
use Rattle.rb_tree.specs.declared.token.TokenKind.TheVariants as kind
use Rattle.rb_rules.specs.Grammar.{Derives}
use Rattle.rb_grammar.specs.Places.{StandsAt}

abbrev pub from_to : ℕ → ℕ → Span
from_to a b = record { start = a; end = b }

abbrev pub token : TokenKind → ℕ → ℕ → Token
token k a b = record { kind = k; span = from_to a b }

abbrev pub digit : List ℕ → ℕ → Tree
digit w a = tree.Whole None w (from_to a (a + 1))

-- `1 + 2 * 3`: the product is the second operand of the sum
abbrev pub SUM : List Token
SUM = token (kind.Whole (codes "1")) 0 1 ∷ token kind.Plus 2 3 ∷ token (kind.Whole (codes "2")) 4 5 ∷ token kind.Star 6 7 ∷ token (kind.Whole (codes "3")) 8 9 ∷ []

abbrev pub SUM_TREE : Tree
SUM_TREE = tree.Body
    (tree.Binary binary.Plus (from_to 2 3) (digit (codes "1") 0) (tree.Binary binary.Star (from_to 6 7) (digit (codes "2") 4) (digit (codes "3") 8) (from_to 4 9)) (from_to 0 9) ∷ [])
    (from_to 0 9)

-- `-2 ** 2`: the sign stands in front of the whole power
abbrev pub POWER : List Token
POWER = token kind.Minus 0 1 ∷ token (kind.Whole (codes "2")) 1 2 ∷ token kind.Power 3 5 ∷ token (kind.Whole (codes "2")) 6 7 ∷ []

abbrev pub POWER_TREE : Tree
POWER_TREE = tree.Body
    (tree.Unary unary.Minus (tree.Binary binary.Power (from_to 3 5) (digit (codes "2") 1) (digit (codes "2") 6) (from_to 1 7)) (from_to 0 7) ∷ [])
    (from_to 0 7)

-- `return if x`: the jump has no value, and a modifier after it
abbrev pub JUMP : List Token
JUMP = token kind.Return 0 6 ∷ token kind.If 7 9 ∷ token (kind.Identifier (codes "x")) 10 11 ∷ []

abbrev pub JUMP_TREE : Tree
JUMP_TREE = tree.Body
    (tree.Modified (tree.Jump jump.Return None (from_to 0 6)) modifier.If (tree.Name (codes "x") (from_to 10 11)) (from_to 0 11) ∷ [])
    (from_to 0 11)

-- `class A; X = 1; end`: a constant is assigned to in the body of a class
abbrev pub CLASS : List Token
CLASS = token kind.Class 0 5 ∷ token (kind.Constant (codes "A")) 6 7 ∷ token kind.Separator 7 8 ∷ token (kind.Constant (codes "X")) 9 10 ∷ token kind.Assign 11 12 ∷ token (kind.Whole (codes "1")) 13 14 ∷ token kind.Separator 14 15 ∷ token kind.End 16 19 ∷ []

abbrev pub CLASS_TREE : Tree
CLASS_TREE = tree.Body
    (tree.Class (record { name = codes "A"; span = from_to 6 7 } ∷ []) None
    (tree.Body (tree.Assign (tree.Constant (codes "X") (from_to 9 10)) (digit (codes "1") 13) (from_to 9 14) ∷ []) (from_to 9 14)) (from_to 0 19) ∷ [])
    (from_to 0 19)

-- `def f; a; rescue A => e; b; else; c; ensure; d; end`: each word of a guard has a body of its own
abbrev pub GUARDED : List Token
GUARDED =
    token kind.Def 0 3 ∷ token (kind.Identifier (codes "f")) 4 5 ∷ token kind.Separator 5 6 ∷ token (kind.Identifier (codes "a")) 7 8 ∷ token kind.Separator 8 9
    ∷ token kind.Rescue 10 16 ∷ token (kind.Constant (codes "A")) 17 18 ∷ token kind.Arrow 19 21 ∷ token (kind.Identifier (codes "e")) 22 23 ∷ token kind.Separator 23 24
    ∷ token (kind.Identifier (codes "b")) 25 26 ∷ token kind.Separator 26 27 ∷ token kind.Else 28 32 ∷ token kind.Separator 32 33 ∷ token (kind.Identifier (codes "c")) 34 35
    ∷ token kind.Separator 35 36 ∷ token kind.Ensure 37 43 ∷ token kind.Separator 43 44 ∷ token (kind.Identifier (codes "d")) 45 46 ∷ token kind.Separator 46 47 ∷ token kind.End 48 51 ∷ []

-- a body of one name
abbrev named : List ℕ → ℕ → Tree
named w a = tree.Body (tree.Name w (from_to a (a + 1)) ∷ []) (from_to a (a + 1))

abbrev pub GUARDED_TREE : Tree
GUARDED_TREE = tree.Body
    (tree.Def None false (codes "f") (from_to 4 5) [] (record {
      body = named (codes "a") 7;
      rescues = record { patterns = tree.Constant (codes "A") (from_to 17 18) ∷ []; variable = Some (record { name = codes "e"; span = from_to 22 23 }); body = named (codes "b") 25 } ∷ [];
      otherwise = Some (named (codes "c") 34);
      ensure = Some (named (codes "d") 45);
    }) (from_to 0 51) ∷ [])
    (from_to 0 51)

-- `a.b(1)`: a call begins at its dot and ends at its bracket; the argument is the given tree
abbrev pub CALL : List Token
CALL = token (kind.Identifier (codes "a")) 0 1 ∷ token kind.Dot 1 2 ∷ token (kind.Identifier (codes "b")) 2 3 ∷ token kind.OpenParen 3 4 ∷ token (kind.Whole (codes "1")) 4 5 ∷ token kind.CloseParen 5 6 ∷ []

abbrev pub call_tree : Tree → Tree
call_tree t = tree.Body
    (tree.Post (tree.Name (codes "a") (from_to 0 1))
    (suffix.Call dot.Plain (codes "b") (from_to 2 3) (Some (argument.Positional t ∷ [])) None (from_to 1 6) ∷ []) (from_to 0 6) ∷ [])
    (from_to 0 6)

-- the sum's tree, but that the last digit ends where no token does
abbrev pub LATE_TREE : Tree
LATE_TREE = tree.Body
    (tree.Binary binary.Plus (from_to 2 3) (digit (codes "1") 0)
    (tree.Binary binary.Star (from_to 6 7) (digit (codes "2") 4) (tree.Whole None (codes "3") (from_to 8 10)) (from_to 4 9)) (from_to 0 9) ∷ [])
    (from_to 0 9)

abbrev pub SumDerives : Type 0
SumDerives = Derives SUM SUM_TREE

abbrev pub PowerDerives : Type 0
PowerDerives = Derives POWER POWER_TREE

abbrev pub JumpDerives : Type 0
JumpDerives = Derives JUMP JUMP_TREE

abbrev pub ClassDerives : Type 0
ClassDerives = Derives CLASS CLASS_TREE

abbrev pub GuardedDerives : Type 0
GuardedDerives = Derives GUARDED GUARDED_TREE

abbrev pub CallDerives : Type 0
CallDerives = Derives CALL (call_tree (digit (codes "1") 4))

abbrev pub LateStandsNot : Type 0
LateStandsNot = ¬ StandsAt SUM LATE_TREE

-- nor does the call's tree with an argument that ends where no token does
abbrev pub LateArgumentStandsNot : Type 0
LateArgumentStandsNot = ¬ StandsAt CALL (call_tree (tree.Whole None (codes "1") (from_to 4 7)))

-- nor with one that begins where the bracket after it does
abbrev pub ReversedArgumentStandsNot : Type 0
ReversedArgumentStandsNot = ¬ StandsAt CALL (call_tree (tree.Whole None (codes "1") (from_to 5 5)))
