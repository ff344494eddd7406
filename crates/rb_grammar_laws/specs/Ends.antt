-- What may stand after a form. None of it would go on with the form, and but for a `def`, and a `rescue` after a term, it may stand there in
-- a program.
use Rattle.std.specs.Prelude.{◌≡◌, ℕ, ◌<◌, Bool, true, List, [], ◌∷◌, ◌++◌, Some}
use Rattle.rb_tree.specs.Tokens.{shape_of}
use Rattle.rb_tree.specs.declared.syntax.Binary.{Binary}
use Rattle.rb_tree.specs.declared.token.Token.{Token}
use Rattle.rb_tree.specs.declared.token.Shape.{Shape}
use Rattle.rb_tree.specs.declared.token.Shape.TheVariants as shape
use Rattle.rb_expr.specs.declared.form.Form.{Form}
use Rattle.rb_expr.specs.declared.form.Form.TheVariants as form
use Rattle.rb_expr.specs.Shapes.{binary_of, level_of}
use Rattle.rb_rules.specs.Tokens.{Is, IsAny}

-- ---- lists of shapes, from the narrowest on

-- a body; no form without declarations goes on with a `def` either. A `rescue` ends one too, but only where a separator or nothing
-- parts the two, so it is none of these
abbrev pub BODY_ENDS : List Shape
BODY_ENDS = shape.End ∷ shape.Elsif ∷ shape.Else ∷ shape.When ∷ shape.Ensure ∷ shape.CloseParen ∷ shape.CloseBrace ∷ shape.Def ∷ []

-- a statement of a body
abbrev pub STATEMENT_ENDS : List Shape
STATEMENT_ENDS = shape.Separator ∷ BODY_ENDS

-- a simple statement, which modifiers, `then` or the `do` of a loop may follow too
abbrev pub SIMPLE_ENDS : List Shape
SIMPLE_ENDS = shape.If ∷ shape.Unless ∷ shape.While ∷ shape.Until ∷ shape.Then ∷ shape.Do ∷ STATEMENT_ENDS

-- a term; none goes on with a `rescue`
abbrev pub TERM_ENDS : List Shape
TERM_ENDS = shape.Rescue ∷ shape.Comma ∷ shape.Arrow ∷ shape.Colon ∷ shape.CloseBracket ∷ SIMPLE_ENDS

-- the operators between two operands, but `**`
abbrev pub OPERATORS : List Shape
OPERATORS =
    shape.OrOr ∷ shape.AndAnd ∷ shape.Equal ∷ shape.NotEqual ∷ shape.CaseEqual ∷ shape.Compare ∷ shape.Less ∷ shape.Greater
    ∷ shape.LessEqual ∷ shape.GreaterEqual ∷ shape.Pipe ∷ shape.Caret ∷ shape.Ampersand ∷ shape.ShiftLeft ∷ shape.ShiftRight
    ∷ shape.Plus ∷ shape.Minus ∷ shape.Star ∷ shape.Slash ∷ shape.Percent ∷ []

-- an operation
abbrev pub OPERATION_ENDS : List Shape
OPERATION_ENDS = shape.Question ∷ (OPERATORS ++ TERM_ENDS)

-- an operand with what stands in front of it
abbrev pub PREFIXED_ENDS : List Shape
PREFIXED_ENDS = shape.Power ∷ OPERATION_ENDS

-- what an operand is assigned by
abbrev pub ASSIGNING : List Shape
ASSIGNING =
    shape.Assign ∷ shape.PlusAssign ∷ shape.MinusAssign ∷ shape.StarAssign ∷ shape.SlashAssign ∷ shape.PercentAssign ∷ shape.PowerAssign
    ∷ shape.OrAssign ∷ shape.AndAssign ∷ shape.PipeAssign ∷ shape.AmpersandAssign ∷ shape.CaretAssign ∷ shape.ShiftLeftAssign
    ∷ shape.ShiftRightAssign ∷ []

-- the first token of the arguments of a command
abbrev pub BARE : List Shape
BARE =
    shape.Label ∷ shape.Identifier ∷ shape.Constant ∷ shape.InstanceVariable ∷ shape.Symbol ∷ shape.Whole ∷ shape.Float ∷ shape.Text
    ∷ shape.Not ∷ shape.Tilde ∷ shape.SelfWord ∷ shape.Nil ∷ shape.True ∷ shape.False ∷ shape.Yield ∷ shape.Super ∷ shape.Case ∷ shape.Begin ∷ []

-- an operand with its suffixes
abbrev pub OPERAND_ENDS : List Shape
OPERAND_ENDS = ASSIGNING ++ (BARE ++ PREFIXED_ENDS)

-- an operand without suffixes
abbrev pub PRIMARY_ENDS : List Shape
PRIMARY_ENDS = shape.Dot ∷ shape.SafeDot ∷ shape.Scope ∷ shape.OpenBracket ∷ OPERAND_ENDS

-- ---- what follows

-- No token is next, or one of these shapes. A `do` is none where a call could take it.
abbrev pub Ends : List Shape → Bool → List Token → Type 0
Ends shapes free [] = Unit {0}
Ends shapes free (t ∷ ts) = IsAny shapes t × (free ≡ true → ¬ Is shape.Do t)

-- an operator that is next binds less tightly than this level, counted from 1
abbrev pub IsLooser : ℕ → List Token → Type 0
IsLooser least [] = Unit {0}
IsLooser least (t ∷ ts) = (operator : Binary) → binary_of (shape_of t.kind) ≡ Some operator → level_of operator < least

-- what follows this form
abbrev pub EndsForm : Form → Bool → List Token → Type 0
EndsForm form.Body free rest = Ends BODY_ENDS free rest
EndsForm form.Simple free rest = Ends SIMPLE_ENDS free rest
EndsForm form.Value free rest = Ends SIMPLE_ENDS free rest
EndsForm form.Tern free rest = Ends TERM_ENDS free rest
EndsForm (form.Operation least) free rest = Ends OPERATION_ENDS free rest × IsLooser least rest
EndsForm form.Negated free rest = Ends OPERATION_ENDS free rest
EndsForm form.Prefixed free rest = Ends PREFIXED_ENDS free rest
