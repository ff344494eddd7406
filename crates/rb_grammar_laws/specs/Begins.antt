-- What forms begin with.
use Rattle.std.specs.Prelude.{◌≡◌, ◌⊎◌, List, [], ◌∷◌, ◌++◌}
use Rattle.rb_tree.specs.Tokens.{shape_of}
use Rattle.rb_tree.specs.declared.syntax.Sign.{Sign}
use Rattle.rb_tree.specs.declared.syntax.Sign.TheVariants as sign
use Rattle.rb_tree.specs.declared.token.Token.{Token}
use Rattle.rb_tree.specs.declared.token.Shape.{Shape}
use Rattle.rb_tree.specs.declared.token.Shape.TheVariants as shape
use Rattle.rb_rules.specs.Tokens.{IsAny, IsBeforeNumber, IsRaised}
use Rattle.rb_rules.specs.Grammar.{IsRow, SIGNS}
use Rattle.rb_grammar_laws.specs.Ends.{BODY_ENDS}

-- an operand, if it is no number with a sign
abbrev pub OPERANDS : List Shape
OPERANDS =
    shape.Identifier ∷ shape.Constant ∷ shape.InstanceVariable ∷ shape.Symbol ∷ shape.Whole ∷ shape.Float ∷ shape.Text ∷ shape.SelfWord
    ∷ shape.Nil ∷ shape.True ∷ shape.False ∷ shape.Yield ∷ shape.Super ∷ shape.Case ∷ shape.Begin ∷ shape.Scope ∷ shape.OpenParen ∷ shape.OpenBracket
    ∷ shape.OpenBrace ∷ shape.If ∷ shape.Unless ∷ shape.While ∷ shape.Until ∷ []

-- a term, or another value
abbrev pub TERMS : List Shape
TERMS = shape.Not ∷ shape.Tilde ∷ shape.Minus ∷ shape.Plus ∷ OPERANDS

-- a simple statement, or one with modifiers
abbrev pub SIMPLE : List Shape
SIMPLE = shape.Return ∷ shape.Break ∷ shape.Next ∷ TERMS

-- an argument of a call
abbrev pub ARGUMENTS : List Shape
ARGUMENTS = shape.Label ∷ shape.Ampersand ∷ TERMS

-- a body without declarations, or what stands after an empty one
abbrev pub BODIES : List Shape
BODIES = shape.Separator ∷ (SIMPLE ++ BODY_ENDS)

-- a sign that belongs to the number after it: no `-` where `**` follows the number
abbrev pub IsSigned : Token → List Token → Type 0
IsSigned t ts = (how : Sign) × IsRow SIGNS (shape_of t.kind) how × IsBeforeNumber t ts × (how ≡ sign.Plus ⊎ ¬ IsRaised ts)

-- the first tokens of an operand
abbrev pub BeginsOperand : List Token → Type 0
BeginsOperand [] = ⊥
BeginsOperand (t ∷ ts) = IsAny OPERANDS t ⊎ IsSigned t ts
