-- One step in a text outside strings: what begins at a place, by what stands before it. A rule of the profile is tested before the
-- rules of what is no token, so that of two broken ones at a place the first wins.
use Rattle.std.specs.Prelude.{ℕ, ◌+◌, ◌<◌, ◌≤◌, Bool, true, false, not, ◌||◌, ◌&&◌, ◌==◌, nat_le, nat_eq, if◌then◌else◌, List, length, take, slice_index, codes}
use Rattle.std.specs.List.{starts_with}
use Rattle.rb_tree.specs.Tokens.{same_shape}
use Rattle.rb_tree.specs.declared.token.Shape.{Shape}
use Rattle.rb_tree.specs.declared.token.Shape.TheVariants as shape
use Rattle.rb_lex.specs.Chars.{is_in, begins_name, is_upper, run_len, blank_len, is_spaced, line_len, after}
use Rattle.rb_lex.specs.Words.{word_of, identifier_len, is_labelled, symbol_len}
use Rattle.rb_lex.specs.Numbers.{spelling_of, is_foreign}
use Rattle.rb_lex.specs.Operators.{operator, method_name}
use Rattle.rb_lex.specs.declared.chars.Set.TheVariants as set
use Rattle.rb_lex.specs.declared.word.Word.TheVariants.{Free, Keyword, Foreign}
use Rattle.rb_lex.specs.declared.operator.Sign.{Sign}
use Rattle.rb_lex.specs.declared.operator.Sign.TheVariants as signs
use Rattle.rb_lex.specs.declared.cut.Before.{Before}
use Rattle.rb_lex.specs.declared.cut.Before.TheVariants as before
use Rattle.rb_lex.specs.declared.cut.Look.{Look}
use Rattle.rb_lex.specs.declared.cut.Cut.{Cut}
use Rattle.rb_lex.specs.declared.cut.Cut.TheVariants.{Blank, Line, Quote, Token, Outside, Bad}

-- the step goes on by at least one byte, and not past the text's end
abbrev pub IsWithin : Cut → ℕ → Type 0
IsWithin (Blank len is_fresh) n = (0 < len) × (len ≤ n)
IsWithin (Token lexeme) n = (0 < lexeme.len) × (lexeme.len ≤ n)
IsWithin _ n = Unit {0}

-- the operator is no longer than the text
abbrev pub IsSigned : Sign → ℕ → Type 0
IsSigned (signs.Operator s len) n = 0 < n → (0 < len) × (len ≤ n)
IsSigned signs.Foreign n = Unit {0}
IsSigned signs.Nothing n = Unit {0}

-- ---- what the token before is

-- the token is an operand's end: an identifier, constant, instance variable, symbol, number, a string's end, `)`, `]`, `}`, `end`,
-- `self`, `nil`, `true`, `false`, `yield` or `super`
abbrev pub is_operand_end : Before → Bool
is_operand_end before.Name = true
is_operand_end before.Constant = true
is_operand_end before.Operand = true
is_operand_end before.DefSelf = true
is_operand_end _ = false

-- an operator after it is a method's name: it is `def`, or the `.` of `def self.`
abbrev pub names_method : Before → Bool
names_method before.Def = true
names_method before.DefDot = true
names_method _ = false

-- it is `.` or `&.`
abbrev pub is_after_dot : Before → Bool
is_after_dot before.Dot = true
is_after_dot before.DefDot = true
is_after_dot _ = false

-- it is `{` or `do`
abbrev pub is_opener : Before → Bool
is_opener before.Opener = true
is_opener _ = false

-- it is an identifier, `yield` or `super`
abbrev pub is_name : Before → Bool
is_name before.Name = true
is_name _ = false

abbrev pub is_constant : Before → Bool
is_constant before.Constant = true
is_constant _ = false

-- ---- names and words

abbrev pub token : Shape → ℕ → Before → Bool → Cut
token s len b keeps = Token (record { shape = s; len = len; before = b; keeps = keeps })

-- `self` directly after `def` is that of `def self`
abbrev pub after_self : Before → Before
after_self before.Def = before.DefSelf
after_self _ = before.Operand

-- `end`, `nil`, `true`, `false`
abbrev pub is_value : Shape → Bool
is_value s = same_shape s shape.End || same_shape s shape.Nil || same_shape s shape.True || same_shape s shape.False

-- what a keyword says about the next token
abbrev pub after_keyword : Before → Shape → Before
after_keyword b s =
    if same_shape s shape.Yield || same_shape s shape.Super then before.Name
    else (if same_shape s shape.Def then before.Def
    else (if same_shape s shape.Do then before.Opener
    else (if same_shape s shape.SelfWord then after_self b
    else (if is_value s then before.Operand else before.Plain))))

abbrev pub keyword : Before → Shape → ℕ → Cut
keyword b s len = token s len (after_keyword b s) true

-- a label, after which a line's end is no separator
abbrev pub label : ℕ → Cut
label end = token shape.Label (end + 1) before.Plain false

-- A name that begins with a lower-case letter or `_`: a label, or an identifier, or a keyword, which is an identifier after `.` and
-- `&.`, or a word that is outside the profile
unfoldable pub name : Before → List ℕ → Cut
name b z =
    let end = identifier_len z in
    if is_labelled z end then label end
    else (if is_after_dot b then token shape.Identifier end before.Name true
    else (elim (word_of (take end z)) [ Free ↦ token shape.Identifier end before.Name true | Keyword s ↦ keyword b s end | Foreign ↦ Outside ]))

-- a name that begins with an upper-case letter: a label, a constant, or outside of `.` and `&.` a word that is outside the profile
unfoldable pub constant : Before → List ℕ → Cut
constant b z =
    let end = run_len set.Word z in
    if is_labelled z end then label end
    else (if is_after_dot b then token shape.Constant end before.Constant true
    else (elim (word_of (take end z)) [ Foreign ↦ Outside | Free ↦ token shape.Constant end before.Constant true | Keyword s ↦ token shape.Constant end before.Constant true ]))

unfoldable pub number : List ℕ → Cut
number z =
    let n = spelling_of z in
    if is_foreign n z then Outside
    else (if n.is_float then token shape.Float n.len before.Operand true else token shape.Whole n.len before.Operand true)

-- an instance variable; `@@` is outside the profile
unfoldable pub variable : List ℕ → Cut
variable z =
    let next = slice_index z 1 in
    if next == 64 then Outside
    else (if begins_name next then token shape.InstanceVariable (1 + run_len set.Word (after 1 z)) before.Operand true else Bad)

-- ---- operators

-- `/`, `%`, `*`, `**`, `<<`, which are outside the profile at an operand's place, unless they are a method's name
abbrev pub is_strange_opening : Shape → Bool
is_strange_opening s = same_shape s shape.Slash || same_shape s shape.Percent || same_shape s shape.Star || same_shape s shape.Power || same_shape s shape.ShiftLeft

-- the operators that are ambiguous after a name and a blank, before an operand
abbrev pub is_ambiguous : Shape → Bool
is_ambiguous s =
    same_shape s shape.Minus || same_shape s shape.Plus || same_shape s shape.Ampersand || same_shape s shape.OpenBracket || same_shape s shape.Scope || is_strange_opening s

-- `~`, `-` or a quote comes next
abbrev pub begins_here_document : List ℕ → Bool
begins_here_document z = let b = slice_index z 0 in b == 126 || b == 45 || b == 39 || b == 34

-- The operator breaks a rule of the profile: `/` and its like at an operand's place; `<<` that begins a here document; `?` at an
-- operand's place, or before anything but a blank or a line's end; `(` directly after a constant.
abbrev pub is_outside : Look → Shape → List ℕ → Bool
is_outside look s rest =
    let is_end = is_operand_end look.before in
    (is_strange_opening s && not is_end && not (names_method look.before))
    || (same_shape s shape.ShiftLeft && is_end && look.is_blank && begins_here_document rest)
    || (same_shape s shape.Question && (not is_end || not (is_spaced rest)))
    || (same_shape s shape.OpenParen && is_constant look.before && not look.is_blank)

-- The operator is refused after an identifier, `yield` or `super` and a blank: `(`, or an ambiguous one before a character that is
-- no blank and no line's end.
abbrev pub is_bad : Look → Shape → List ℕ → Bool
is_bad look s rest = is_name look.before && look.is_blank && (same_shape s shape.OpenParen || (is_ambiguous s && not (is_spaced rest)))

-- `)`, `]`, `}`
abbrev pub is_closing : Shape → Bool
is_closing s = same_shape s shape.CloseParen || same_shape s shape.CloseBracket || same_shape s shape.CloseBrace

-- the `.` after `def self` is that of `def self.`
abbrev pub after_dot : Before → Before
after_dot before.DefSelf = before.DefDot
after_dot _ = before.Dot

-- what an operator says about the next token
abbrev pub after_operator : Before → Shape → Before
after_operator b s =
    if is_closing s then before.Operand
    else (if same_shape s shape.OpenBrace then before.Opener
    else (if same_shape s shape.SafeDot then before.Dot
    else (if same_shape s shape.Dot then after_dot b else before.Plain)))

-- An operator with `rest` after it. After it a line's end is no separator, unless it is `)`, `]`, `}` or a method's name.
unfoldable pub judged : Look → Shape → ℕ → List ℕ → Cut
judged look s len rest =
    if is_outside look s rest then Outside
    else (if is_bad look s rest then Bad
    else token s len (after_operator look.before s) (is_closing s || names_method look.before))

unfoldable pub sign_at : Before → List ℕ → Sign
sign_at b z =
    if names_method b then method_name (slice_index z 0) (slice_index z 1) (slice_index z 2)
    else operator (slice_index z 0) (slice_index z 1) (slice_index z 2)

-- an operator; what begins none begins no token
unfoldable pub sign : Look → List ℕ → Cut
sign look z =
    elim (sign_at look.before z) [ signs.Nothing ↦ Bad | signs.Foreign ↦ Outside | signs.Operator s len ↦ judged look s len (after len z) ]

-- a symbol, `::`, or a `:` before a blank or a line's end; before anything else it is outside the profile
unfoldable pub colon : Look → List ℕ → Cut
colon look z =
    let rest = after 1 z in
    let len = symbol_len rest in
    if not (len == 0) then token shape.Symbol (1 + len) before.Operand true
    else (if slice_index z 1 == 58 || is_spaced rest then sign look z else Outside)

-- ---- the step

-- a line ends here, or the text
abbrev pub ends_line : List ℕ → Bool
ends_line z = length z == 0 || slice_index z 0 == 10 || (slice_index z 0 == 13 && slice_index z 1 == 10)

-- at a line's start: `=begin`, or the line `__END__`
unfoldable pub ends_program : List ℕ → Bool
ends_program z = starts_with nat_eq z (codes "=begin") || (starts_with nat_eq z (codes "__END__") && ends_line (after 7 z))

-- how long the blanks are with which the text begins
abbrev pub blanks_len : List ℕ → ℕ
blanks_len z = if is_in set.Blank (slice_index z 0) then run_len set.Blank z else blank_len z

-- what begins with a byte that begins no name, number or blank
unfoldable pub mark : Look → List ℕ → Cut
mark look z =
    let b = slice_index z 0 in
    if b == 34 || b == 39 then Quote
    else (if b == 58 then colon look z
    else (if b == 64 then variable z
    else (if b == 59 then token shape.Separator 1 before.Plain true
    else (if b == 35 then Blank (line_len z) false
    else (if b == 36 || b == 96 || nat_le 128 b then Outside else sign look z)))))

-- what begins at the front of the text
unfoldable pub cut_of : Look → List ℕ → Cut
cut_of look z =
    let b = slice_index z 0 in
    let len = blanks_len z in
    if look.is_fresh && ends_program z then Outside
    else (if not (len == 0) then Blank len (b == 92)
    else (if b == 10 then Line
    else (if begins_name b then name look.before z
    else (if is_upper b then constant look.before z
    else (if is_in set.Decimal b then number z else mark look z)))))
