-- Operators, by the bytes at a place, each the longest spelling there. `->`, `=~`, `!~`, `..` and `...` are spellings of Ruby that
-- are outside the profile.
use Rattle.std.specs.Prelude.{◌≢◌, ℕ, ◌<◌, ◌≤◌, ◌&&◌, ◌==◌, if◌then◌else◌}
use Rattle.rb_tree.specs.declared.token.Shape.{Shape}
use Rattle.rb_tree.specs.declared.token.Shape.TheVariants as shape
use Rattle.rb_lex.specs.declared.operator.Ahead.{Ahead}
use Rattle.rb_lex.specs.declared.operator.Sign.{Sign}
use Rattle.rb_lex.specs.declared.operator.Sign.TheVariants.{Operator, Foreign, Nothing}

-- the operator is at most three bytes long, and no longer than the text
abbrev pub IsShort : Ahead → Sign → Type 0
IsShort ahead (Operator s len) = (0 < len) × (1 < len → ahead.next ≢ 0) × (2 < len → ahead.last ≢ 0) × (len ≤ 3)
IsShort ahead Foreign = Unit {0}
IsShort ahead Nothing = Unit {0}

abbrev pub found : Shape → ℕ → Sign
found s len = Operator s len

-- one byte, or two where `=` follows
abbrev pub or_assign : ℕ → Shape → Shape → Sign
or_assign next plain assign = if next == 61 then found assign 2 else found plain 1

abbrev pub minus : ℕ → Sign
minus next = if next == 62 then Foreign else or_assign next shape.Minus shape.MinusAssign

abbrev pub star : ℕ → ℕ → Sign
star next last =
    if next == 42 then (if last == 61 then found shape.PowerAssign 3 else found shape.Power 2)
    else or_assign next shape.Star shape.StarAssign

abbrev pub equals : ℕ → ℕ → Sign
equals next last =
    if next == 61 then (if last == 61 then found shape.CaseEqual 3 else found shape.Equal 2)
    else (if next == 62 then found shape.Arrow 2 else (if next == 126 then Foreign else found shape.Assign 1))

abbrev pub not_sign : ℕ → Sign
not_sign next = if next == 126 then Foreign else or_assign next shape.Not shape.NotEqual

abbrev pub less : ℕ → ℕ → Sign
less next last =
    if next == 61 then (if last == 62 then found shape.Compare 3 else found shape.LessEqual 2)
    else (if next == 60 then (if last == 61 then found shape.ShiftLeftAssign 3 else found shape.ShiftLeft 2) else found shape.Less 1)

abbrev pub greater : ℕ → ℕ → Sign
greater next last =
    if next == 62 then (if last == 61 then found shape.ShiftRightAssign 3 else found shape.ShiftRight 2)
    else or_assign next shape.Greater shape.GreaterEqual

abbrev pub ampersand : ℕ → ℕ → Sign
ampersand next last =
    if next == 38 then (if last == 61 then found shape.AndAssign 3 else found shape.AndAnd 2)
    else (if next == 46 then found shape.SafeDot 2 else or_assign next shape.Ampersand shape.AmpersandAssign)

abbrev pub pipe : ℕ → ℕ → Sign
pipe next last =
    if next == 124 then (if last == 61 then found shape.OrAssign 3 else found shape.OrOr 2)
    else or_assign next shape.Pipe shape.PipeAssign

abbrev pub dot : ℕ → Sign
dot next = if next == 46 then Foreign else found shape.Dot 1

abbrev pub colon : ℕ → Sign
colon next = if next == 58 then found shape.Scope 2 else found shape.Colon 1

abbrev pub single : ℕ → Sign
single b =
    if b == 126 then found shape.Tilde 1
    else (if b == 63 then found shape.Question 1
    else (if b == 44 then found shape.Comma 1
    else (if b == 40 then found shape.OpenParen 1
    else (if b == 41 then found shape.CloseParen 1
    else (if b == 91 then found shape.OpenBracket 1
    else (if b == 93 then found shape.CloseBracket 1
    else (if b == 123 then found shape.OpenBrace 1
    else (if b == 125 then found shape.CloseBrace 1 else Nothing))))))))

abbrev pub compound : ℕ → ℕ → ℕ → Sign
compound b next last =
    if b == 61 then equals next last
    else (if b == 33 then not_sign next
    else (if b == 60 then less next last
    else (if b == 62 then greater next last
    else (if b == 38 then ampersand next last
    else (if b == 124 then pipe next last else single b)))))

-- the operator that begins with these bytes; after the text's end they are 0
unfoldable pub operator : ℕ → ℕ → ℕ → Sign
operator b next last =
    if b == 46 then dot next
    else (if b == 58 then colon next
    else (if b == 43 then or_assign next shape.Plus shape.PlusAssign
    else (if b == 45 then minus next
    else (if b == 42 then star next last
    else (if b == 47 then or_assign next shape.Slash shape.SlashAssign
    else (if b == 37 then or_assign next shape.Percent shape.PercentAssign
    else (if b == 94 then or_assign next shape.Caret shape.CaretAssign
    else compound b next last)))))))

-- the operator that begins with these bytes where a method's name stands: there `-@`, `+@`, `[]` and `[]=` are operators too
unfoldable pub method_name : ℕ → ℕ → ℕ → Sign
method_name b next last =
    if b == 45 && next == 64 then found shape.UnaryMinus 2
    else (if b == 43 && next == 64 then found shape.UnaryPlus 2
    else (if b == 91 && next == 93 then (if last == 61 then found shape.IndexAssign 3 else found shape.Index 2)
    else operator b next last))
