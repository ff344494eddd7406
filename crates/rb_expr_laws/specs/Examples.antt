-- What is answered of a few tokens.
use Rattle.std.specs.Prelude.{◌≡◌, true, false, List, [], ◌∷◌, codes, None, Ok, Err}
use Rattle.rb_tree.specs.declared.syntax.Binary.TheVariants as binary
use Rattle.rb_tree.specs.declared.syntax.Jump.TheVariants as jump
use Rattle.rb_tree.specs.declared.syntax.Unary.TheVariants as unary
use Rattle.rb_tree.specs.Nodes as tree
use Rattle.rb_tree.specs.declared.token.Token.{Token}
use Rattle.rb_tree.specs.declared.token.TokenKind.TheVariants as kind
use Rattle.rb_expr.specs.declared.ParseEnd.TheVariants.{Bad, TooDeep}
use Rattle.rb_expr.specs.Answers.{expr_of, tern_of}
use Rattle.rb_grammar.specs.Examples.{digit, from_to, token}

-- `1 + 2 )`
abbrev pub CLOSED : List Token
CLOSED = token (kind.Whole (codes "1")) 0 1 ∷ token kind.Plus 2 3 ∷ token (kind.Whole (codes "2")) 4 5 ∷ token kind.CloseParen 6 7 ∷ []

-- the sum is read, and from its second operand on that alone; the bracket stands behind both
abbrev pub TermIsRead : Type 0
TermIsRead =
    (tern_of CLOSED 0 0 0 ≡ Ok (tree.Binary binary.Plus (from_to 2 3) (digit (codes "1") 0) (digit (codes "2") 4) (from_to 0 5), 3))
    × (tern_of CLOSED 2 0 0 ≡ Ok (digit (codes "2") 4, 3))

-- two statements and the line between them, up to a bracket: `1`, `2 )`
abbrev pub BodyIsRead : Type 0
BodyIsRead =
    expr_of (token (kind.Whole (codes "1")) 0 1 ∷ token kind.Separator 1 2 ∷ token (kind.Whole (codes "2")) 2 3 ∷ token kind.CloseParen 4 5 ∷ []) 0 0 0 false
    ≡ Ok (tree.Body (digit (codes "1") 0 ∷ digit (codes "2") 2 ∷ []) (from_to 0 3), 3)

-- `A = 1`
abbrev pub ASSIGNED : List Token
ASSIGNED = token (kind.Constant (codes "A")) 0 1 ∷ token kind.Assign 2 3 ∷ token (kind.Whole (codes "1")) 4 5 ∷ []

-- a constant is assigned to where that is allowed; elsewhere the constant alone is read
abbrev pub ConstantIsAssigned : Type 0
ConstantIsAssigned =
    (expr_of ASSIGNED 0 0 0 true ≡ Ok (tree.Body (tree.Assign (tree.Constant (codes "A") (from_to 0 1)) (digit (codes "1") 4) (from_to 0 5) ∷ []) (from_to 0 5), 3))
    × (expr_of ASSIGNED 0 0 0 false ≡ Ok (tree.Body (tree.Constant (codes "A") (from_to 0 1) ∷ []) (from_to 0 1), 1))

-- `1 + )` is refused at the bracket, and `1 +` at its end
abbrev pub OperandIsWanted : Type 0
OperandIsWanted =
    (tern_of (token (kind.Whole (codes "1")) 0 1 ∷ token kind.Plus 2 3 ∷ token kind.CloseParen 4 5 ∷ []) 0 0 0 ≡ Err (Bad 4))
    × (tern_of (token (kind.Whole (codes "1")) 0 1 ∷ token kind.Plus 2 3 ∷ []) 0 0 0 ≡ Err (Bad 3))

-- a `!` after a line's end, where the weight is the greatest: too deep, but where the line's end takes all of the weight away
abbrev pub NEGATED : List Token
NEGATED = token kind.Separator 0 1 ∷ token kind.Not 1 2 ∷ token (kind.Whole (codes "1")) 2 3 ∷ []

abbrev pub NegationIsDeep : Type 0
NegationIsDeep =
    (expr_of NEGATED 0 200 0 false ≡ Err (TooDeep 1)) × (expr_of NEGATED 0 200 200 false ≡ Ok (tree.Body (tree.Unary unary.Not (digit (codes "1") 2) (from_to 1 3) ∷ []) (from_to 1 3), 3))

-- `1 + *`: the last token is bad, and too deep as well
abbrev pub BadIsToldFirst : Type 0
BadIsToldFirst = tern_of (token (kind.Whole (codes "1")) 0 1 ∷ token kind.Plus 2 3 ∷ token kind.Star 4 5 ∷ []) 0 199 0 ≡ Err (Bad 4)

-- `1 rescue`: a `rescue` directly after a statement is refused, though the statement alone is a body
abbrev pub RescueIsRefused : Type 0
RescueIsRefused = expr_of (token (kind.Whole (codes "1")) 0 1 ∷ token kind.Rescue 2 8 ∷ []) 0 0 0 false ≡ Err (Bad 2)

-- `1 == 2 == 3`: no second comparison stands in a row, so the first is read
abbrev pub ComparisonIsRead : Type 0
ComparisonIsRead =
    tern_of (token (kind.Whole (codes "1")) 0 1 ∷ token kind.Equal 2 4 ∷ token (kind.Whole (codes "2")) 5 6 ∷ token kind.Equal 7 9 ∷ token (kind.Whole (codes "3")) 10 11 ∷ []) 0 0 0
    ≡ Ok (tree.Binary binary.Equal (from_to 2 4) (digit (codes "1") 0) (digit (codes "2") 5) (from_to 0 6), 3)

-- `!-2 ** 3`: a `**` after a number with its sign is refused, though the tokens before it alone are a term
abbrev pub PowerIsRefused : Type 0
PowerIsRefused =
    tern_of (token kind.Not 0 1 ∷ token kind.Minus 1 2 ∷ token (kind.Whole (codes "2")) 2 3 ∷ token kind.Power 4 6 ∷ token (kind.Whole (codes "3")) 7 8 ∷ []) 0 0 0 ≡ Err (Bad 4)

-- `1`, and `rescue` on the next line: the body is read up to it, and from the number on a term is read before a `rescue` on the same line
abbrev pub PartedIsRead : Type 0
PartedIsRead =
    (expr_of (token (kind.Whole (codes "1")) 0 1 ∷ token kind.Separator 1 2 ∷ token kind.Rescue 2 8 ∷ []) 0 0 0 false ≡ Ok (tree.Body (digit (codes "1") 0 ∷ []) (from_to 0 1), 2))
    × (tern_of (token (kind.Whole (codes "1")) 0 1 ∷ token kind.Rescue 2 8 ∷ []) 0 0 0 ≡ Ok (digit (codes "1") 0, 1))

-- `return ** 2`: what ends with no term goes on with no `**`, so it is read up to that
abbrev pub JumpIsRead : Type 0
JumpIsRead =
    expr_of (token kind.Return 0 6 ∷ token kind.Power 7 9 ∷ token (kind.Whole (codes "2")) 10 11 ∷ []) 0 0 0 false ≡ Ok (tree.Body (tree.Jump jump.Return None (from_to 0 6) ∷ []) (from_to 0 6), 1)
