-- What the tokens before a place say about it, read off their shapes, the newest first.
use Rattle.std.specs.Prelude.{◌≡◌, ◌≢◌, ℕ, ◌⊎◌, Bool, true, false, not, ◌&&◌, ◌||◌, if◌then◌else◌, List, [], ◌∷◌, drop}
use Rattle.rb_tree.specs.Tokens.{same_shape}
use Rattle.rb_tree.specs.declared.token.Shape.{Shape}
use Rattle.rb_tree.specs.declared.token.Shape.TheVariants as shape
use Rattle.rb_rules.specs.Spellings.{Holds, OPERATORS, METHOD_OPERATORS}

-- the newest token is one of these
abbrev pub IsAfter : List Shape → List Shape → Type 0
IsAfter shapes [] = ⊥
IsAfter shapes (s ∷ past) = Holds s shapes

-- it is an operand's end
abbrev pub IsOperandEnd : List Shape → Type 0
IsOperandEnd =
    IsAfter (shape.Identifier ∷ shape.Constant ∷ shape.InstanceVariable ∷ shape.Symbol ∷ shape.Whole ∷ shape.Float ∷ shape.Text
    ∷ shape.CloseParen ∷ shape.CloseBracket ∷ shape.CloseBrace ∷ shape.End ∷ shape.SelfWord ∷ shape.Nil ∷ shape.True ∷ shape.False
    ∷ shape.Yield ∷ shape.Super ∷ [])

-- it is an identifier, `yield` or `super`
abbrev pub IsAfterName : List Shape → Type 0
IsAfterName = IsAfter (shape.Identifier ∷ shape.Yield ∷ shape.Super ∷ [])

abbrev pub IsAfterConstant : List Shape → Type 0
IsAfterConstant = IsAfter (shape.Constant ∷ [])

-- it is `.` or `&.`
abbrev pub IsAfterDot : List Shape → Type 0
IsAfterDot = IsAfter (shape.Dot ∷ shape.SafeDot ∷ [])

-- it is `{` or `do`
abbrev pub IsAfterOpener : List Shape → Type 0
IsAfterOpener = IsAfter (shape.OpenBrace ∷ shape.Do ∷ [])

-- an operator after these tokens is a method's name: they end by `def`, or by `def self.`
pub data NamesMethod : List Shape → Type 0 where
  Def : (past : List Shape) → NamesMethod (shape.Def ∷ past)
  DefSelf : (past : List Shape) → NamesMethod (shape.Dot ∷ shape.SelfWord ∷ shape.Def ∷ past)

-- whether the newest token is `{` or `do`
abbrev pub is_opener : List Shape → Bool
is_opener [] = false
is_opener (s ∷ past) = same_shape s shape.OpenBrace || same_shape s shape.Do

-- whether a `|` is open that began block parameters: one after `{` or `do` begins them, and the next one ends them
abbrev pub has_bars : List Shape → Bool
has_bars [] = false
has_bars (s ∷ past) = if same_shape s shape.Pipe then not (has_bars past) && is_opener past else has_bars past

-- A line's end after these tokens is a separator: there is one, and the newest is no label and no operator, other than `)`, `]`,
-- `}`, a method's name and the `|` that ends block parameters.
pub data Keeps : List Shape → Type 0 where
  Other : (s : Shape) (past : List Shape) → s ≢ shape.Label → ((w : List ℕ) → ¬ Holds (s, w) OPERATORS) → Keeps (s ∷ past)
  Closing : (s : Shape) (past : List Shape) → Holds s (shape.CloseParen ∷ shape.CloseBracket ∷ shape.CloseBrace ∷ []) → Keeps (s ∷ past)
  Named : (s : Shape) (w : List ℕ) (past : List Shape) → NamesMethod past → (Holds (s, w) OPERATORS ⊎ Holds (s, w) METHOD_OPERATORS) → Keeps (s ∷ past)
  Bars : (past : List Shape) → has_bars past ≡ true → Keeps (shape.Pipe ∷ past)

-- what is open after the tokens, the innermost first: `true` for an interpolation, `false` for a `{`
abbrev pub frames : List Shape → List Bool
frames [] = []
frames (s ∷ past) =
    if same_shape s shape.Interpolation then true ∷ frames past
    else (if same_shape s shape.OpenBrace then false ∷ frames past
    else (if same_shape s shape.CloseBrace then drop 1 (frames past) else frames past))
