-- What stands between and after the elements of lists, and what their kinds say.
use Rattle.std.specs.Prelude.{ℕ, ◌-◌, Bool, true, false, not, ◌&&◌, if◌then◌else◌, bytes_eq, List, [], ◌∷◌, ◌++◌, length, slice_get, Option, Some, None, Ok, Err}
use Rattle.std.specs.List.{list_any}
use Rattle.srb_terms.specs.declared.span.Span.{Span}
use Rattle.rb_tree.specs.Tokens.{same_shape}
use Rattle.rb_tree.specs.Trees.{span_of}
use Rattle.rb_tree.specs.declared.syntax.Argument.{Argument}
use Rattle.rb_tree.specs.declared.syntax.Argument.TheVariants as argument
use Rattle.rb_tree.specs.declared.syntax.Block.{Block}
use Rattle.rb_tree.specs.declared.syntax.PlacedName.{PlacedName}
use Rattle.rb_tree.specs.declared.syntax.Suffix.{Suffix}
use Rattle.rb_tree.specs.declared.syntax.Suffix.TheVariants as suffix
use Rattle.rb_tree.specs.declared.syntax.Tree.{Tree}
use Rattle.rb_tree.specs.declared.token.Token.{Token}
use Rattle.rb_tree.specs.declared.token.Shape.{Shape}
use Rattle.rb_tree.specs.declared.token.Shape.TheVariants as shape
use Rattle.rb_expr.specs.declared.lists.Order.{Order}
use Rattle.rb_expr.specs.declared.lists.Order.TheVariants as order
use Rattle.rb_expr.specs.Reading.{Parser, ◌>>=◌, ◌<$>◌, sees, after, skip_separators, expect, named}

-- ---- arguments, suffixes and blocks

abbrev pub order_of : {T : Type 0} → Argument T → Order
order_of (argument.Positional value) = order.Positional
order_of (argument.Keyword name span value) = order.Keyword
order_of (argument.Block span value) = order.Block

abbrev pub is_keyword : Order → Bool
is_keyword order.Keyword = true
is_keyword _ = false

abbrev pub is_block : Order → Bool
is_block order.Block = true
is_block _ = false

abbrev pub value_of : {T : Type 0} → Argument T → T
value_of (argument.Positional value) = value
value_of (argument.Keyword name span value) = value
value_of (argument.Block span value) = value

unfoldable pub end_of_argument : Argument Tree → ℕ
end_of_argument given = (span_of (value_of given)).end

abbrev pub is_some_block : {T : Type 0} → Option (Argument T) → Bool
is_some_block None = false
is_some_block (Some given) = is_block (order_of given)

-- the last argument is given as a block
unfoldable pub passes_block : List (Argument Tree) → Bool
passes_block given = is_some_block (slice_get given (length given - 1))

abbrev pub span_of_suffix : {T : Type 0} → Suffix T → Span
span_of_suffix (suffix.Call dot name name_span arguments block span) = span
span_of_suffix (suffix.Constant name name_span span) = span
span_of_suffix (suffix.Index arguments span) = span

-- where a call with this block ends
abbrev pub end_with : {T : Type 0} → Option (Block T) → ℕ → ℕ
end_with None end = end
end_with (Some block) end = block.span.end

-- ---- lists in brackets

-- `[ ]` and `{ }` may have a last comma
abbrev pub takes_comma : Shape → Bool
takes_comma closer = not (same_shape closer shape.CloseParen)

unfoldable pub closed : Shape → Parser (Option Span)
closed closer = λ tokens. (Some <$> expect closer) (skip_separators tokens)

-- after a comma and separators
unfoldable pub after_comma : Shape → Parser (Option Span)
after_comma closer = λ tokens. if takes_comma closer && sees closer tokens then closed closer tokens else Ok (None, tokens)

-- The closing bracket and `Some`, or a comma and `None`: then an element follows.
unfoldable pub after_element : Shape → Parser (Option Span)
after_element closer = λ tokens.
    if sees shape.Comma tokens then after_comma closer (skip_separators (after tokens)) else closed closer tokens

unfoldable pub after_last : Shape → Parser (Option Span)
after_last closer = λ tokens.
    if takes_comma closer && sees shape.Comma tokens then closed closer (after tokens) else closed closer tokens

-- an argument that is given as a block is the last
unfoldable pub after_argument : Shape → Order → Parser (Option Span)
after_argument closer given = if is_block given then after_last closer else after_element closer

-- without brackets
unfoldable pub goes_on : Order → List Token → Bool
goes_on given tokens = not (is_block given) && sees shape.Comma tokens

-- ---- names, each once

-- the name is one of these
abbrev pub is_among : List (List ℕ) → List ℕ → Bool
is_among names name = list_any (bytes_eq name) names

-- the names with one more, if it is none of them
abbrev pub noted : List (List ℕ) → List ℕ → List (List ℕ)
noted names name = if is_among names name then names else names ++ name ∷ []

-- an identifier that is none of these names
unfoldable pub fresh_name : List (List ℕ) → Parser PlacedName
fresh_name names = λ tokens. (do
  next ← named shape.Identifier
  (λ rest. if is_among names next.name then Err tokens else Ok (next, rest))) tokens
