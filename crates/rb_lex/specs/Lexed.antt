-- The tokens of a text, or its first refused place, by one pass from the front.
use Rattle.std.specs.Prelude.{◌≡◌, ℕ, zero, suc, ◌+◌, ◌-◌, ◌<◌, Bool, true, false, not, ◌||◌, ◌&&◌, if◌then◌else◌, List, [], ◌∷◌, ◌++◌, length, take, slice_index, slice_get, Option, Some, None, is_some, Result, Ok, Err}
use Rattle.std.specs.List.{list_any}
use Rattle.std.specs.Str.{encode_utf8_all}
use Rattle.rb_tree.specs.Tokens.{same_shape, plain_kind}
use Rattle.rb_tree.specs.declared.token.Token.{Token}
use Rattle.rb_tree.specs.declared.token.TokenKind.{TokenKind}
use Rattle.rb_tree.specs.declared.token.TokenKind.TheVariants as kind
use Rattle.rb_tree.specs.declared.token.Shape.{Shape}
use Rattle.rb_tree.specs.declared.token.Shape.TheVariants as shape
use Rattle.rb_lex.specs.Chars.{is_letter, after}
use Rattle.rb_lex.specs.Pieces.{piece_of, is_touched}
use Rattle.rb_lex.specs.Cuts.{cut_of, is_opener, after_operator, names_method}
use Rattle.rb_lex.specs.declared.cut.Before.{Before}
use Rattle.rb_lex.specs.declared.cut.Before.TheVariants as before
use Rattle.rb_lex.specs.declared.cut.Lexeme.{Lexeme}
use Rattle.rb_lex.specs.declared.cut.Cut.TheVariants as cuts
use Rattle.rb_lex.specs.declared.piece.Stop.TheVariants as stop
use Rattle.rb_lex.specs.declared.state.Opened.{Opened}
use Rattle.rb_lex.specs.declared.state.State.{State}
use Rattle.rb_lex.specs.declared.LexEnd.{LexEnd}
use Rattle.rb_lex.specs.declared.LexEnd.TheVariants.{Bad, Outside, NoMemory}

-- an answer, or the same refusal; or memory ran out
abbrev pub Gives : {A B : Type 0} → (A → B) → Result A LexEnd → Result B LexEnd → Type 0
Gives f (Ok x) answer = answer ≡ Ok (f x)
Gives f (Err (Bad at)) answer = answer ≡ Err (Bad at)
Gives f (Err (Outside at)) answer = answer ≡ Err (Outside at)
Gives f (Err NoMemory) answer = Unit {0}

-- out of memory
abbrev pub IsNoMemory : LexEnd → Type 0
IsNoMemory end = end ≡ NoMemory

-- ---- tokens

-- the bytes of the token that are its words: without the `@` of a variable and the `:` of a symbol and a label
abbrev pub words_of : Shape → ℕ → List ℕ → List ℕ
words_of s len z =
    if same_shape s shape.InstanceVariable || same_shape s shape.Symbol then after 1 (take len z)
    else (if same_shape s shape.Label then take (len - 1) z else take len z)

abbrev pub named_kind : Shape → List ℕ → TokenKind
named_kind s words =
    if same_shape s shape.Identifier then kind.Identifier words
    else (if same_shape s shape.Constant then kind.Constant words
    else (if same_shape s shape.InstanceVariable then kind.InstanceVariable words
    else (if same_shape s shape.Label then kind.Label words
    else (if same_shape s shape.Symbol then kind.Symbol words
    else (if same_shape s shape.Whole then kind.Whole words
    else (if same_shape s shape.Float then kind.Float words else kind.Text words))))))

-- the kind of a shape, with these words if it carries any
unfoldable pub kind_of : Shape → List ℕ → TokenKind
kind_of s words = elim (plain_kind s) [ Some k ↦ k | None ↦ named_kind s words ]

abbrev pub token_at : TokenKind → ℕ → ℕ → Token
token_at k start end = record { kind = k; span = record { start = start; end = end } }

-- ---- steps outside strings

-- one more token, no line's end
abbrev pub pushed : TokenKind → ℕ → ℕ → State → State
pushed k start end s =
    record s { tokens = s.tokens ++ token_at k start end ∷ []; mark = length (s.tokens ++ token_at k start end ∷ []) }

-- A line's end: a separator, unless the token before is an operator other than `)`, `]`, `}`, a method's name and the `|` that
-- ends block parameters, is a label, or does not exist.
abbrev pub after_line : ℕ → State → State
after_line at s =
    if s.keeps then record s { tokens = s.tokens ++ token_at kind.Separator at (at + 1) ∷ []; look = record { before = before.Plain; is_blank = true; is_fresh = true } }
    else record s { look = record { before = s.look.before; is_blank = true; is_fresh = true } }

-- the token goes on with the line before: `&.`, or `.` and a letter
abbrev pub continues : Shape → List ℕ → Bool
continues s rest = same_shape s shape.SafeDot || (same_shape s shape.Dot && is_letter (slice_index rest 0))

-- where the token goes on with the line before, the line ends after that line's last token are no separators
abbrev pub joined : Bool → State → State
joined goes s = if goes then record s { tokens = take s.mark s.tokens } else s

-- and the token stands after that last token
abbrev pub continued : Bool → Before → Lexeme → Lexeme
continued goes last x = if goes then record x { before = after_operator last x.shape; keeps = names_method last } else x

-- the string that goes on after a `}`, if that ends an interpolation
abbrev pub string_after : ℕ → Option (Option ℕ) → Option Opened
string_after end None = None
string_after end (Some None) = None
string_after end (Some (Some opening)) = Some (record { quote = 34; opening = opening; from = end })

-- after `}` what was opened last is closed
abbrev pub closed : ℕ → State → State
closed end s =
    record s { nesting = take (length s.nesting - 1) s.nesting; string = string_after end (slice_get s.nesting (length s.nesting - 1)) }

-- after the braces the open ones are counted
abbrev pub nested : Shape → ℕ → State → State
nested c end s =
    if same_shape c shape.OpenBrace then record s { nesting = s.nesting ++ None ∷ [] }
    else (if same_shape c shape.CloseBrace then closed end s else s)

-- After a token. A `|` whose previous token is `{` or `do` opens block parameters, and the next `|` closes them; a line's end
-- after that one is a separator.
abbrev pub entered : Lexeme → State → State
entered x s =
    let is_bar = same_shape x.shape shape.Pipe in
    record s {
      look = record { before = x.before; is_blank = false; is_fresh = false };
      last = x.before;
      keeps = x.keeps || (is_bar && s.has_bars);
      has_bars = (if is_bar then not s.has_bars && is_opener s.look.before else s.has_bars);
    }

-- the state after a token at the place `at`, with which the text `z` begins
unfoldable pub accepted : Lexeme → ℕ → List ℕ → State → State
accepted x at z s =
    let goes = continues x.shape (after x.len z) in
    let end = at + x.len in
    nested x.shape end (entered (continued goes s.last x) (pushed (kind_of x.shape (words_of x.shape x.len z)) at end (joined goes s)))

abbrev pub blanked : Bool → State → State
blanked is_fresh s = record s { look = record { before = s.look.before; is_blank = true; is_fresh = is_fresh } }

abbrev pub opened : ℕ → ℕ → State → State
opened quote at s = record s { string = Some (record { quote = quote; opening = at; from = at }) }

-- one step outside strings: how many bytes it takes, and the state after them
unfoldable pub code_step : ℕ → List ℕ → State → Result (ℕ × State) LexEnd
code_step at z s =
    elim (cut_of s.look z) [
      | cuts.Blank len is_fresh ↦ Ok (len, blanked is_fresh s)
      | cuts.Line ↦ Ok (1, after_line at s)
      | cuts.Quote ↦ Ok (1, opened (slice_index z 0) at s)
      | cuts.Token x ↦ Ok (x.len, accepted x at z s)
      | cuts.Outside ↦ Err (Outside at)
      | cuts.Bad ↦ Err (Bad at)
    ]

-- ---- steps in strings

-- the quote of the open string is ASCII
abbrev pub IsQuoted : Option Opened → Type 0
IsQuoted None = Unit {0}
IsQuoted (Some o) = o.quote < 128

-- after a string, which is an operand's end, or after its `#{`
abbrev pub left : Bool → State → State
left is_end s =
    let b : Before = if is_end then before.Operand else before.Plain in
    record s { string = None; look = record { before = b; is_blank = false; is_fresh = false }; last = b; keeps = true }

-- After a piece that ends by the quote: the string must not be touched by one `:`.
abbrev pub quoted : Opened → ℕ → ℕ → List ℕ → State → Result (ℕ × State) LexEnd
quoted o at n z s =
    if is_touched (after (n + 1) z) then Err (Outside o.opening)
    else Ok (n + 1, left true (pushed (kind.Text (take n z)) o.from (at + n + 1) s))

-- after a piece that ends by `#{`
abbrev pub interpolated : Opened → ℕ → ℕ → List ℕ → State → Result (ℕ × State) LexEnd
interpolated o at n z s =
    let both = pushed kind.Interpolation (at + n) (at + n + 2) (pushed (kind.Text (take n z)) o.from (at + n) s) in
    Ok (n + 2, left false (record both { nesting = both.nesting ++ Some o.opening ∷ [] }))

-- one step in a string: a piece and what ends it
unfoldable pub string_step : Opened → ℕ → List ℕ → State → Result (ℕ × State) LexEnd
string_step o at z s =
    let p = piece_of o.quote z in
    elim p.stop [
      | stop.Quote ↦ quoted o at p.len z s
      | stop.Interpolation ↦ interpolated o at p.len z s
      | stop.Foreign ↦ Err (Outside (at + p.len))
      | stop.End ↦ Err (Bad (at + p.len))
    ]

-- ---- the whole text

unfoldable pub step : ℕ → List ℕ → State → Result (ℕ × State) LexEnd
step at z s = elim s.string [ Some o ↦ string_step o at z s | None ↦ code_step at z s ]

-- an interpolation is open
abbrev pub is_inside : List (Option ℕ) → Bool
is_inside nesting = list_any is_some nesting

-- at the text's end, which must not be in a string or interpolation
abbrev pub finished : ℕ → State → Result (List Token) LexEnd
finished at s = if is_some s.string || is_inside s.nesting then Err (Bad at) else Ok s.tokens

-- The tokens of a text that goes on at the place `at` in this state. The number counts the bytes that the step before still takes.
abbrev pub lexed_from : ℕ → ℕ → State → List ℕ → Result (List Token) LexEnd
lexed_from k at s [] = finished at s
lexed_from (suc k) at s (b ∷ z) = lexed_from k (at + 1) s z
lexed_from zero at s (b ∷ z) = elim (step at (b ∷ z) s) [ Err e ↦ Err e | Ok y ↦ lexed_from (y.0 - 1) (at + 1) y.1 z ]

-- before the first token, at a line's start
abbrev pub START : State
START =
    record {
      tokens = [];
      mark = 0;
      nesting = [];
      string = None;
      look = record { before = before.Plain; is_blank = false; is_fresh = true };
      last = before.Plain;
      keeps = false;
      has_bars = false;
    }

-- the tokens of the bytes of a text
unfoldable pub lexed : List ℕ → Result (List Token) LexEnd
lexed z = lexed_from 0 0 START z

-- the tokens of a text, or the least place at which a rule of the tokens is broken, in bytes
abbrev pub lexed_text : List ℕ → Result (List Token) LexEnd
lexed_text text = lexed (encode_utf8_all text)
