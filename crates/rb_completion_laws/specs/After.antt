-- What may stand after a form.
use Rattle.std.specs.Prelude.{◌≡◌, Bool, true, false, List}
use Rattle.rb_tree.specs.declared.token.Token.{Token}
use Rattle.rb_tree.specs.declared.token.Shape.{Shape}
use Rattle.rb_tree.specs.declared.token.Shape.TheVariants as shape
use Rattle.rb_expr.specs.Reading.{peek}
use Rattle.rb_expr.specs.Shapes.{next_is}

-- a token of this shape may change how those before it are read: a power, a number after a sign, a modifier, or what may not begin
-- the arguments of a command
abbrev pub joins : Shape → Bool
joins shape.Power = true
joins shape.Whole = true
joins shape.Float = true
joins shape.Minus = true
joins shape.Plus = true
joins shape.Star = true
joins shape.Ampersand = true
joins shape.Slash = true
joins shape.Percent = true
joins shape.OpenBracket = true
joins shape.Scope = true
joins shape.ShiftLeft = true
joins shape.OpenParen = true
joins shape.OpenBrace = true
joins shape.If = true
joins shape.Unless = true
joins shape.While = true
joins shape.Until = true
joins _ = false

-- no such token is next
abbrev pub Clear : List Token → Type 0
Clear tokens = next_is joins (peek tokens) ≡ false
