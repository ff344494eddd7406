-- The spellings of tokens, in words: which characters are a token of which shape. A text is a list of characters. Nothing here says
-- how a spelling is found; `Lexes` takes the longest at each place.
use Rattle.std.specs.Prelude.{◌≡◌, ◌≢◌, ℕ, ◌⊎◌, Bool, true, List, [], ◌∷◌, ◌++◌, codes}
use Rattle.std.specs.List.{list_all}
use Rattle.rb_tree.specs.declared.token.Shape.{Shape}
use Rattle.rb_tree.specs.declared.token.Shape.TheVariants as shape
use Rattle.rb_rules.specs.Letters.{begins_name, continues_name, is_capital, is_binary, is_octal, is_decimal, is_hexadecimal}

-- the rest begins with the character
abbrev pub Begins : ℕ → List ℕ → Type 0
Begins c [] = ⊥
Begins c (d ∷ rest) = d ≡ c

-- the list holds the element
abbrev pub Holds : {X : Type 0} → X → List X → Type 0
Holds x [] = ⊥
Holds x (y ∷ ys) = (x ≡ y) ⊎ Holds x ys

-- ---- names

-- a first character, and letters, digits and `_`
abbrev pub IsNamed : (ℕ → Bool) → List ℕ → Type 0
IsNamed first [] = ⊥
IsNamed first (c ∷ w) = (first c ≡ true) × (list_all continues_name w ≡ true)

-- an identifier before the rest: `[a-z_][A-Za-z0-9_]*`, with one `?` or `!` directly after if the next character is not `=`
pub data IsIdentifier : List ℕ → List ℕ → Type 0 where
  Plain : (w rest : List ℕ) → IsNamed begins_name w → IsIdentifier w rest
  Asking : (w rest : List ℕ) → IsNamed begins_name w → ¬ Begins 61 rest → IsIdentifier (w ++ 63 ∷ []) rest
  Shouting : (w rest : List ℕ) → IsNamed begins_name w → ¬ Begins 61 rest → IsIdentifier (w ++ 33 ∷ []) rest

-- a constant: `[A-Z][A-Za-z0-9_]*`
abbrev pub IsConstant : List ℕ → Type 0
IsConstant w = IsNamed is_capital w

-- the name of a symbol before the rest: a constant, or an identifier with an optional `=` that is not followed by `=`, `~` or `>`
pub data IsSymbolName : List ℕ → List ℕ → Type 0 where
  OfConstant : (w rest : List ℕ) → IsConstant w → IsSymbolName w rest
  OfIdentifier : (w rest : List ℕ) → IsIdentifier w rest → IsSymbolName w rest
  OfWriter : (w rest : List ℕ) → IsIdentifier w (61 ∷ rest) → ¬ Begins 61 rest → ¬ Begins 126 rest → ¬ Begins 62 rest → IsSymbolName (w ++ 61 ∷ []) rest

-- ---- numbers

-- digits of a kind, with one `_` between two of them or none
pub data AreDigits (is_digit : ℕ → Bool) : List ℕ → Type 0 where
  One : (d : ℕ) → is_digit d ≡ true → AreDigits is_digit (d ∷ [])
  More : (d : ℕ) (w : List ℕ) → is_digit d ≡ true → AreDigits is_digit w → AreDigits is_digit (d ∷ w)
  Parted : (d : ℕ) (w : List ℕ) → is_digit d ≡ true → AreDigits is_digit w → AreDigits is_digit (d ∷ 95 ∷ w)

-- a whole number: `0`, or digits that do not begin with 0, or `0x`, `0b`, `0o` and digits
pub data IsWhole : List ℕ → Type 0 where
  Zero : IsWhole (48 ∷ [])
  Decimal : (d : ℕ) (w : List ℕ) → d ≢ 48 → AreDigits is_decimal (d ∷ w) → IsWhole (d ∷ w)
  Hexadecimal : (w : List ℕ) → AreDigits is_hexadecimal w → IsWhole (48 ∷ 120 ∷ w)
  Binary : (w : List ℕ) → AreDigits is_binary w → IsWhole (48 ∷ 98 ∷ w)
  Octal : (w : List ℕ) → AreDigits is_octal w → IsWhole (48 ∷ 111 ∷ w)

-- an exponent, or nothing: `e`, perhaps a sign, and digits
pub data IsExponent : List ℕ → Type 0 where
  Missing : IsExponent []
  Unsigned : (w : List ℕ) → AreDigits is_decimal w → IsExponent (101 ∷ w)
  Raised : (w : List ℕ) → AreDigits is_decimal w → IsExponent (101 ∷ 43 ∷ w)
  Lowered : (w : List ℕ) → AreDigits is_decimal w → IsExponent (101 ∷ 45 ∷ w)

-- a float: digits, `.`, digits, and perhaps an exponent
pub data IsFloat : List ℕ → Type 0 where
  Fraction : (a b e : List ℕ) → AreDigits is_decimal a → AreDigits is_decimal b → IsExponent e → IsFloat (a ++ 46 ∷ b ++ e)

-- ---- words of the language

abbrev pub KEYWORDS : List (Shape × List ℕ)
KEYWORDS =
    (shape.Class, codes "class") ∷ (shape.Module, codes "module") ∷ (shape.Def, codes "def") ∷ (shape.End, codes "end")
    ∷ (shape.If, codes "if") ∷ (shape.Elsif, codes "elsif") ∷ (shape.Else, codes "else") ∷ (shape.Unless, codes "unless")
    ∷ (shape.While, codes "while") ∷ (shape.Until, codes "until") ∷ (shape.Do, codes "do") ∷ (shape.Case, codes "case")
    ∷ (shape.When, codes "when") ∷ (shape.Then, codes "then") ∷ (shape.Return, codes "return") ∷ (shape.Break, codes "break")
    ∷ (shape.Next, codes "next") ∷ (shape.SelfWord, codes "self") ∷ (shape.Nil, codes "nil") ∷ (shape.True, codes "true")
    ∷ (shape.False, codes "false") ∷ (shape.Yield, codes "yield") ∷ (shape.Super, codes "super") ∷ (shape.Begin, codes "begin")
    ∷ (shape.Rescue, codes "rescue") ∷ (shape.Ensure, codes "ensure") ∷ []

-- the words of Ruby that are outside the profile
abbrev pub FOREIGN_WORDS : List (List ℕ)
FOREIGN_WORDS =
    codes "and" ∷ codes "or" ∷ codes "not" ∷ codes "retry" ∷ codes "redo"
    ∷ codes "alias" ∷ codes "undef" ∷ codes "defined?" ∷ codes "for" ∷ codes "in" ∷ codes "BEGIN" ∷ codes "END"
    ∷ codes "__FILE__" ∷ codes "__LINE__" ∷ codes "__ENCODING__" ∷ []

-- ---- operators

abbrev pub OPERATORS : List (Shape × List ℕ)
OPERATORS =
    (shape.Plus, codes "+") ∷ (shape.Minus, codes "-") ∷ (shape.Star, codes "*") ∷ (shape.Slash, codes "/") ∷ (shape.Percent, codes "%")
    ∷ (shape.Power, codes "**") ∷ (shape.Equal, codes "==") ∷ (shape.NotEqual, codes "!=") ∷ (shape.CaseEqual, codes "===")
    ∷ (shape.Compare, codes "<=>") ∷ (shape.Less, codes "<") ∷ (shape.Greater, codes ">") ∷ (shape.LessEqual, codes "<=")
    ∷ (shape.GreaterEqual, codes ">=") ∷ (shape.AndAnd, codes "&&") ∷ (shape.OrOr, codes "||") ∷ (shape.Not, codes "!")
    ∷ (shape.Tilde, codes "~") ∷ (shape.Ampersand, codes "&") ∷ (shape.Pipe, codes "|") ∷ (shape.Caret, codes "^")
    ∷ (shape.ShiftLeft, codes "<<") ∷ (shape.ShiftRight, codes ">>") ∷ (shape.Assign, codes "=") ∷ (shape.Arrow, codes "=>")
    ∷ (shape.Question, codes "?") ∷ (shape.Colon, codes ":") ∷ (shape.Scope, codes "::") ∷ (shape.Dot, codes ".")
    ∷ (shape.SafeDot, codes "&.") ∷ (shape.Comma, codes ",") ∷ (shape.OpenParen, codes "(") ∷ (shape.CloseParen, codes ")")
    ∷ (shape.OpenBracket, codes "[") ∷ (shape.CloseBracket, codes "]") ∷ (shape.OpenBrace, codes "{") ∷ (shape.CloseBrace, codes "}")
    ∷ (shape.PlusAssign, codes "+=") ∷ (shape.MinusAssign, codes "-=") ∷ (shape.StarAssign, codes "*=") ∷ (shape.SlashAssign, codes "/=")
    ∷ (shape.PercentAssign, codes "%=") ∷ (shape.PowerAssign, codes "**=") ∷ (shape.OrAssign, codes "||=") ∷ (shape.AndAssign, codes "&&=")
    ∷ (shape.PipeAssign, codes "|=") ∷ (shape.AmpersandAssign, codes "&=") ∷ (shape.CaretAssign, codes "^=")
    ∷ (shape.ShiftLeftAssign, codes "<<=") ∷ (shape.ShiftRightAssign, codes ">>=") ∷ []

-- operators as a method's name alone
abbrev pub METHOD_OPERATORS : List (Shape × List ℕ)
METHOD_OPERATORS =
    (shape.UnaryMinus, codes "-@") ∷ (shape.UnaryPlus, codes "+@") ∷ (shape.Index, codes "[]") ∷ (shape.IndexAssign, codes "[]=") ∷ []

-- spellings of Ruby that are outside the profile
abbrev pub FOREIGN_OPERATORS : List (List ℕ)
FOREIGN_OPERATORS = codes "->" ∷ codes "=~" ∷ codes "!~" ∷ codes ".." ∷ codes "..." ∷ []
