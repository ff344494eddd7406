-- What the shape of a token says: which forms it begins, and which operator it is.
use Rattle.std.specs.Prelude.{ℕ, ◌-◌, Bool, true, false, not, ◌&&◌, ◌||◌, ◌==◌, nat_le, if◌then◌else◌, List, [], ◌∷◌, length, slice_get, Option, Some, None, is_some}
use Rattle.srb_terms.specs.declared.span.Span.{Span}
use Rattle.rb_tree.specs.Tokens.{shape_of}
use Rattle.rb_tree.specs.declared.syntax.Binary.{Binary}
use Rattle.rb_tree.specs.declared.syntax.Binary.TheVariants as binary
use Rattle.rb_tree.specs.declared.syntax.Jump.{Jump}
use Rattle.rb_tree.specs.declared.syntax.Jump.TheVariants as jump
use Rattle.rb_tree.specs.declared.syntax.Modifier.{Modifier}
use Rattle.rb_tree.specs.declared.syntax.Modifier.TheVariants as modifier
use Rattle.rb_tree.specs.declared.syntax.Sign.{Sign}
use Rattle.rb_tree.specs.declared.syntax.Sign.TheVariants as sign
use Rattle.rb_tree.specs.declared.syntax.Unary.{Unary}
use Rattle.rb_tree.specs.declared.syntax.Unary.TheVariants as unary
use Rattle.rb_tree.specs.declared.token.Token.{Token}
use Rattle.rb_tree.specs.declared.token.Shape.{Shape}
use Rattle.rb_tree.specs.declared.token.Shape.TheVariants as shape
use Rattle.rb_expr.specs.Reading.{peek, sees, touches, after}

-- ---- what begins a form

-- the arguments of a call without brackets, if it is no label
abbrev pub begins_bare : Shape → Bool
begins_bare shape.Identifier = true
begins_bare shape.Constant = true
begins_bare shape.InstanceVariable = true
begins_bare shape.Symbol = true
begins_bare shape.Whole = true
begins_bare shape.Float = true
begins_bare shape.Text = true
begins_bare shape.Not = true
begins_bare shape.Tilde = true
begins_bare shape.SelfWord = true
begins_bare shape.Nil = true
begins_bare shape.True = true
begins_bare shape.False = true
begins_bare shape.Yield = true
begins_bare shape.Super = true
begins_bare shape.Case = true
begins_bare shape.Begin = true
begins_bare _ = false

-- the value of a jump
abbrev pub begins_value : Shape → Bool
begins_value shape.Minus = true
begins_value shape.Plus = true
begins_value shape.Scope = true
begins_value shape.OpenParen = true
begins_value shape.OpenBracket = true
begins_value shape.OpenBrace = true
begins_value other = begins_bare other

-- a statement that is no declaration
abbrev pub begins_simple : Shape → Bool
begins_simple shape.If = true
begins_simple shape.Unless = true
begins_simple shape.While = true
begins_simple shape.Until = true
begins_simple shape.Return = true
begins_simple shape.Break = true
begins_simple shape.Next = true
begins_simple other = begins_value other

abbrev pub next_is : (Shape → Bool) → Option Shape → Bool
next_is test None = false
next_is test (Some s) = test s

unfoldable pub begins_statement : List Token → Bool
begins_statement tokens = next_is begins_simple (peek tokens)

unfoldable pub has_value : List Token → Bool
has_value tokens = next_is begins_value (peek tokens)

abbrev pub jump_of : Option Shape → Option Jump
jump_of (Some shape.Return) = Some jump.Return
jump_of (Some shape.Break) = Some jump.Break
jump_of (Some shape.Next) = Some jump.Next
jump_of _ = None

abbrev pub modifier_of : Option Shape → Option Modifier
modifier_of (Some shape.If) = Some modifier.If
modifier_of (Some shape.Unless) = Some modifier.Unless
modifier_of (Some shape.While) = Some modifier.While
modifier_of (Some shape.Until) = Some modifier.Until
modifier_of _ = None

-- ---- operators between two operands

-- all but `**`
abbrev pub binary_of : Shape → Option Binary
binary_of shape.OrOr = Some binary.Or
binary_of shape.AndAnd = Some binary.And
binary_of shape.Equal = Some binary.Equal
binary_of shape.NotEqual = Some binary.NotEqual
binary_of shape.CaseEqual = Some binary.CaseEqual
binary_of shape.Compare = Some binary.Compare
binary_of shape.Less = Some binary.Less
binary_of shape.Greater = Some binary.Greater
binary_of shape.LessEqual = Some binary.LessEqual
binary_of shape.GreaterEqual = Some binary.GreaterEqual
binary_of shape.Pipe = Some binary.Pipe
binary_of shape.Caret = Some binary.Caret
binary_of shape.Ampersand = Some binary.Ampersand
binary_of shape.ShiftLeft = Some binary.ShiftLeft
binary_of shape.ShiftRight = Some binary.ShiftRight
binary_of shape.Plus = Some binary.Plus
binary_of shape.Minus = Some binary.Minus
binary_of shape.Star = Some binary.Star
binary_of shape.Slash = Some binary.Slash
binary_of shape.Percent = Some binary.Percent
binary_of _ = None

-- how tightly an operator binds
abbrev pub level_of : Binary → ℕ
level_of binary.Or = 1
level_of binary.And = 2
level_of binary.Equal = 3
level_of binary.NotEqual = 3
level_of binary.CaseEqual = 3
level_of binary.Compare = 3
level_of binary.Less = 4
level_of binary.Greater = 4
level_of binary.LessEqual = 4
level_of binary.GreaterEqual = 4
level_of binary.Pipe = 5
level_of binary.Caret = 5
level_of binary.Ampersand = 6
level_of binary.ShiftLeft = 7
level_of binary.ShiftRight = 7
level_of binary.Plus = 8
level_of binary.Minus = 8
level_of binary.Star = 9
level_of binary.Slash = 9
level_of binary.Percent = 9
level_of binary.Power = 10

-- the tightest level after an operation: `==` and its like don't stand in a row, all others do
abbrev pub ceiling : Binary → ℕ
ceiling operator = if level_of operator == 3 then 2 else level_of operator

abbrev pub between : ℕ → ℕ → Option Binary → Option Binary
between least most None = None
between least most (Some operator) = if nat_le least (level_of operator) && nat_le (level_of operator) most then Some operator else None

abbrev pub operator_by : ℕ → ℕ → Option Shape → Option Binary
operator_by least most None = None
operator_by least most (Some s) = between least most (binary_of s)

-- the operator that the next token is, if its level lies between these two
unfoldable pub operator_between : Option Shape → ℕ → ℕ → Option Binary
operator_between next least most = operator_by least most next

-- the operator of an assignment, but `=`
abbrev pub assigning_of : Option Shape → Option Binary
assigning_of (Some shape.PlusAssign) = Some binary.Plus
assigning_of (Some shape.MinusAssign) = Some binary.Minus
assigning_of (Some shape.StarAssign) = Some binary.Star
assigning_of (Some shape.SlashAssign) = Some binary.Slash
assigning_of (Some shape.PercentAssign) = Some binary.Percent
assigning_of (Some shape.PowerAssign) = Some binary.Power
assigning_of (Some shape.OrAssign) = Some binary.Or
assigning_of (Some shape.AndAssign) = Some binary.And
assigning_of (Some shape.PipeAssign) = Some binary.Pipe
assigning_of (Some shape.AmpersandAssign) = Some binary.Ampersand
assigning_of (Some shape.CaretAssign) = Some binary.Caret
assigning_of (Some shape.ShiftLeftAssign) = Some binary.ShiftLeft
assigning_of (Some shape.ShiftRightAssign) = Some binary.ShiftRight
assigning_of _ = None

-- ---- operators in front of an operand, and signs

unfoldable pub sees_number : List Token → Bool
sees_number tokens = sees shape.Whole tokens || sees shape.Float tokens

-- a number begins where the sign before it ends
unfoldable pub is_signed : Span → List Token → Bool
is_signed mark tokens = touches mark tokens && sees_number tokens

-- the next token is the sign of a number, if it is `-` or `+`
unfoldable pub is_sign : List Token → Bool
is_sign [] = false
is_sign (t ∷ ts) = is_signed t.span ts

-- a `-` that is no sign, or the sign of a number that is raised to a power
unfoldable pub is_negation : List Token → Bool
is_negation tokens = sees shape.Minus tokens && (not (is_sign tokens) || sees shape.Power (after (after tokens)))

abbrev pub prefix_by : Bool → Option Shape → Option Unary
prefix_by signs (Some shape.Not) = Some unary.Not
prefix_by signs (Some shape.Tilde) = Some unary.Tilde
prefix_by signs (Some shape.Plus) = if signs then None else Some unary.Plus
prefix_by signs _ = None

-- the operator in front of an operand, but `-`
unfoldable pub prefix_of : List Token → Option Unary
prefix_of tokens = prefix_by (is_sign tokens) (peek tokens)

unfoldable pub has_prefix : List Token → Bool
has_prefix tokens = is_negation tokens || is_some (prefix_of tokens)

abbrev pub sign_shape : Sign → Shape
sign_shape sign.Minus = shape.Minus
sign_shape sign.Plus = shape.Plus

-- ---- the `[` of an index

abbrev pub closes : Shape → Bool
closes shape.CloseParen = true
closes shape.CloseBracket = true
closes shape.CloseBrace = true
closes _ = false

abbrev pub is_index_after : Option Token → List Token → Bool
is_index_after None rest = false
is_index_after (Some before) rest = closes (shape_of before.kind) || touches before.span rest

-- A `[` touches the token before it, or stands after a closing bracket. `rest` is what is left of the tokens.
unfoldable pub is_index : List Token → List Token → Bool
is_index tokens rest = is_index_after (slice_get tokens (length tokens - length rest - 1)) rest
