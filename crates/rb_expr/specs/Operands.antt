-- Operands: literals, names, brackets, calls, and the suffixes after them.
use Rattle.std.specs.Prelude.{ℕ, zero, suc, Bool, true, if◌then◌else◌, List, [], ◌∷◌, ◌++◌, Option, Some, None, Ok}
use Rattle.srb_terms.specs.declared.span.Span.{Span}
use Rattle.rb_tree.specs.Trees.{span_of}
use Rattle.rb_tree.specs.declared.syntax.Argument.{Argument}
use Rattle.rb_tree.specs.declared.syntax.Block.{Block}
use Rattle.rb_tree.specs.declared.syntax.Dot.{Dot}
use Rattle.rb_tree.specs.declared.syntax.Dot.TheVariants as dot
use Rattle.rb_tree.specs.declared.syntax.Pair.{Pair}
use Rattle.rb_tree.specs.declared.syntax.Pair.TheVariants as pair
use Rattle.rb_tree.specs.declared.syntax.Piece.{Piece}
use Rattle.rb_tree.specs.declared.syntax.Piece.TheVariants as piece
use Rattle.rb_tree.specs.declared.syntax.PlacedName.{PlacedName}
use Rattle.rb_tree.specs.declared.syntax.Sign.{Sign}
use Rattle.rb_tree.specs.declared.syntax.Sign.TheVariants as sign
use Rattle.rb_tree.specs.declared.syntax.Suffix.{Suffix}
use Rattle.rb_tree.specs.declared.syntax.Suffix.TheVariants as suffix
use Rattle.rb_tree.specs.declared.syntax.Test.TheVariants as test
use Rattle.rb_tree.specs.declared.syntax.Tree.{Tree}
use Rattle.rb_tree.specs.Nodes as tree
use Rattle.rb_tree.specs.declared.token.Token.{Token}
use Rattle.rb_tree.specs.declared.token.Shape.{Shape}
use Rattle.rb_tree.specs.declared.token.Shape.TheVariants as shape
use Rattle.rb_expr.specs.declared.form.Form.{Form}
use Rattle.rb_expr.specs.declared.form.Form.TheVariants as form
use Rattle.rb_expr.specs.Branches.{branch, repeated, choice, guards}
use Rattle.rb_expr.specs.Calls.{index_arguments, optional_brackets, optional_block}
use Rattle.rb_expr.specs.Lists.{after_element, span_of_suffix, end_with}
use Rattle.rb_expr.specs.Reading.{Parser, ◌>>=◌, ◌>>◌, ◌<$>◌, pure, refuse, peek, sees, start_of, skip_separators, take_token, expect, named, worded}
use Rattle.rb_expr.specs.Shapes.{is_signed, is_index}

-- ---- literals and names

abbrev pub number_by : Option Sign → ℕ → Option Shape → Parser Tree
number_by mark start (Some shape.Whole) = do
  digits ← worded shape.Whole
  pure (tree.Whole mark digits.0 (record { start = start; end = digits.1.end }))
number_by mark start (Some shape.Float) = do
  digits ← worded shape.Float
  pure (tree.Float mark digits.0 (record { start = start; end = digits.1.end }))
number_by mark start _ = refuse

-- a number after its sign, if it has one; the number is where both begin
unfoldable pub number : Option Sign → ℕ → Parser Tree
number mark start = λ tokens. number_by mark start (peek tokens) tokens

-- the number of a sign touches it
unfoldable pub touching : Sign → Span → Parser Tree
touching mark place = λ tokens. if is_signed place tokens then number (Some mark) place.start tokens else refuse tokens

-- a sign and its number
unfoldable pub signed : Sign → Parser Tree
signed mark = do
  place ← take_token
  touching mark place

-- no `**` after a number with a `-`: there the `-` stands in front of the whole power
unfoldable pub unraised : Tree → Parser Tree
unraised value = λ tokens. if sees shape.Power tokens then refuse tokens else Ok (value, tokens)

unfoldable pub negative : Parser Tree
negative = do
  value ← signed sign.Minus
  unraised value

unfoldable pub symbol : Parser Tree
symbol = do
  name ← worded shape.Symbol
  pure (tree.Symbol name.0 name.1)

unfoldable pub instance_variable : Parser Tree
instance_variable = do
  name ← named shape.InstanceVariable
  pure (tree.InstanceVariable name.name name.span)

unfoldable pub constant : Parser Tree
constant = do
  name ← named shape.Constant
  pure (tree.Constant name.name name.span)

-- `::` and a constant
unfoldable pub top_constant : Parser Tree
top_constant = do
  mark ← take_token
  name ← named shape.Constant
  pure (tree.TopConstant name.name name.span (record { start = mark.start; end = name.span.end }))

-- `self`, `nil`, `true`, `false`
abbrev pub word_by : Option Shape → Span → Tree
word_by (Some shape.SelfWord) span = tree.SelfWord span
word_by (Some shape.True) span = tree.True span
word_by (Some shape.False) span = tree.False span
word_by _ span = tree.Nil span

unfoldable pub word : Parser Tree
word = λ tokens. (word_by (peek tokens) <$> take_token) tokens

-- ---- with suffixes

-- a name with what stands after it: where nothing does, the name alone
abbrev pub call_of : PlacedName → Option (List (Argument Tree)) → ℕ → Option (Block Tree) → Tree
call_of name None end None = tree.Name name.name name.span
call_of name None end (Some block) = tree.Call name.name name.span None (Some block) (record { start = name.span.start; end = end_with (Some block) end })
call_of name (Some given) end block = tree.Call name.name name.span (Some given) block (record { start = name.span.start; end = end_with block end })

-- an operand with its suffixes; the number is the end of the last
abbrev pub post_of : Tree → List (Suffix Tree) → ℕ → Tree
post_of receiver [] end = receiver
post_of receiver (first ∷ more) end = tree.Post receiver (first ∷ more) (record { start = (span_of receiver).start; end = end })

-- `nested` reads a form that nests: the flag says whether its calls may take a `do`. Loops take at most `turns` turns. Calls
-- that stand here may take a `do` where `takes_do` says so.
module _ (nested : Form → Bool → Parser Tree) (turns : ℕ) (takes_do : Bool) where
  unfoldable pub interpolation : Parser (Piece Tree)
  interpolation = do
    opening ← expect shape.Interpolation
    body ← nested form.Body true
    closing ← expect shape.CloseBrace
    pure (piece.Code body (record { start = opening.start; end = closing.end }))

  -- after some pieces, the last of which ends at the second number; the first is where the string begins
  unfoldable pub pieces_from : ℕ → ℕ → ℕ → List (Piece Tree) → Parser Tree
  pieces_from start end zero found = refuse
  pieces_from start end (suc n) found = λ tokens.
      if sees shape.Interpolation tokens
      then (do
        code ← interpolation
        more ← worded shape.Text
        pieces_from start more.1.end n ((found ++ code ∷ []) ++ piece.Words more.0 more.1 ∷ [])) tokens
      else Ok (tree.Text found (record { start = start; end = end }), tokens)

  unfoldable pub pieces : Piece Tree → Span → Parser Tree
  pieces first span = pieces_from span.start span.end turns (first ∷ [])

  unfoldable pub text : Parser Tree
  text = do
    first ← worded shape.Text
    pieces (piece.Words first.0 first.1) first.1

  unfoldable pub called : Parser Tree
  called = do
    name ← named shape.Identifier
    given ← optional_brackets nested turns takes_do name.span.end
    block ← optional_block nested turns takes_do given.0
    pure (call_of name given.0 given.1 block)

  unfoldable pub yielding : Parser Tree
  yielding = do
    mark ← take_token
    given ← optional_brackets nested turns takes_do mark.end
    pure (tree.Yield given.0 (record { start = mark.start; end = given.1 }))

  unfoldable pub super_call : Parser Tree
  super_call = do
    mark ← take_token
    given ← optional_brackets nested turns takes_do mark.end
    pure (tree.Super given.0 (record { start = mark.start; end = given.1 }))

  -- at least one element, and the closing bracket
  unfoldable pub elements_from : ℕ → ℕ → List Tree → Parser Tree
  elements_from start zero found = refuse
  elements_from start (suc n) found = do
    element ← nested form.Tern true
    closing ← after_element shape.CloseBracket
    elim closing [
      | Some place ↦ pure (tree.Array (found ++ element ∷ []) (record { start = start; end = place.end }))
      | None ↦ elements_from start n (found ++ element ∷ [])
    ]

  unfoldable pub elements : ℕ → Parser Tree
  elements start = elements_from start turns []

  -- after the opening bracket, which begins at the number
  unfoldable pub array_from : ℕ → Parser Tree
  array_from start = λ tokens. if sees shape.CloseBracket tokens
      then ((λ closing. tree.Array [] (record { start = start; end = closing.end })) <$> expect shape.CloseBracket) tokens
      else elements start tokens

  unfoldable pub array : Parser Tree
  array = do
    opening ← take_token
    (λ tokens. array_from opening.start (skip_separators tokens))

  unfoldable pub label_pair : Parser (Pair Tree)
  label_pair = do
    label ← named shape.Label
    value ← nested form.Tern true
    pure (pair.Label label.name label.span value)

  unfoldable pub arrow_pair : Parser (Pair Tree)
  arrow_pair = do
    key ← nested form.Tern true
    expect shape.Arrow
    value ← nested form.Tern true
    pure (pair.Arrow key value)

  unfoldable pub a_pair : Parser (Pair Tree)
  a_pair = λ tokens. if sees shape.Label tokens then label_pair tokens else arrow_pair tokens

  unfoldable pub pairs_from : ℕ → ℕ → List (Pair Tree) → Parser Tree
  pairs_from start zero found = refuse
  pairs_from start (suc n) found = do
    next ← a_pair
    closing ← after_element shape.CloseBrace
    elim closing [
      | Some place ↦ pure (tree.Hash (found ++ next ∷ []) (record { start = start; end = place.end }))
      | None ↦ pairs_from start n (found ++ next ∷ [])
    ]

  unfoldable pub pairs : ℕ → Parser Tree
  pairs start = pairs_from start turns []

  unfoldable pub hash_from : ℕ → Parser Tree
  hash_from start = λ tokens. if sees shape.CloseBrace tokens
      then ((λ closing. tree.Hash [] (record { start = start; end = closing.end })) <$> expect shape.CloseBrace) tokens
      else pairs start tokens

  unfoldable pub hash : Parser Tree
  hash = do
    opening ← take_token
    (λ tokens. hash_from opening.start (skip_separators tokens))

  unfoldable pub parens : Parser Tree
  parens = do
    opening ← take_token
    body ← nested form.Body true
    closing ← expect shape.CloseParen
    pure (tree.Parens body (record { start = opening.start; end = closing.end }))

  abbrev pub primary_by : Option Shape → Parser Tree
  primary_by (Some shape.Identifier) = called
  primary_by (Some shape.Constant) = constant
  primary_by (Some shape.InstanceVariable) = instance_variable
  primary_by (Some shape.Symbol) = symbol
  primary_by (Some shape.Whole) = λ tokens. number None (start_of tokens) tokens
  primary_by (Some shape.Float) = λ tokens. number None (start_of tokens) tokens
  primary_by (Some shape.Minus) = negative
  primary_by (Some shape.Plus) = signed sign.Plus
  primary_by (Some shape.Text) = text
  primary_by (Some shape.Scope) = top_constant
  primary_by (Some shape.SelfWord) = word
  primary_by (Some shape.Nil) = word
  primary_by (Some shape.True) = word
  primary_by (Some shape.False) = word
  primary_by (Some shape.Yield) = yielding
  primary_by (Some shape.Super) = super_call
  primary_by (Some shape.OpenBracket) = array
  primary_by (Some shape.OpenBrace) = hash
  primary_by (Some shape.OpenParen) = parens
  primary_by (Some shape.If) = branch nested turns takes_do test.Positive
  primary_by (Some shape.Unless) = branch nested turns takes_do test.Negative
  primary_by (Some shape.While) = repeated nested turns takes_do test.Positive
  primary_by (Some shape.Until) = repeated nested turns takes_do test.Negative
  primary_by (Some shape.Case) = choice nested turns takes_do
  primary_by (Some shape.Begin) = guards nested turns takes_do
  primary_by _ = refuse

  unfoldable pub primary : Parser Tree
  primary = λ tokens. primary_by (peek tokens) tokens

  -- ---- suffixes

  -- `.name` or `&.name`, perhaps with brackets and a block
  unfoldable pub call_suffix : Dot → Parser (Suffix Tree)
  call_suffix joint = do
    mark ← take_token
    name ← named shape.Identifier
    given ← optional_brackets nested turns takes_do name.span.end
    block ← optional_block nested turns takes_do given.0
    pure (suffix.Call joint name.name name.span given.0 block (record { start = mark.start; end = end_with block given.1 }))

  unfoldable pub constant_suffix : Parser (Suffix Tree)
  constant_suffix = do
    mark ← take_token
    name ← named shape.Constant
    pure (suffix.Constant name.name name.span (record { start = mark.start; end = name.span.end }))

  unfoldable pub index_suffix : Parser (Suffix Tree)
  index_suffix = do
    mark ← take_token
    given ← index_arguments nested turns takes_do
    pure (suffix.Index given.0 (record { start = mark.start; end = given.1.end }))

  -- `all` are the tokens from the operand on
  abbrev pub suffix_by : List Token → Option Shape → Parser (Option (Suffix Tree))
  suffix_by all (Some shape.Dot) = Some <$> call_suffix dot.Plain
  suffix_by all (Some shape.SafeDot) = Some <$> call_suffix dot.Safe
  suffix_by all (Some shape.Scope) = Some <$> constant_suffix
  suffix_by all (Some shape.OpenBracket) = λ tokens. if is_index all tokens then (Some <$> index_suffix) tokens else Ok (None, tokens)
  suffix_by all _ = pure None

  unfoldable pub a_suffix : List Token → Parser (Option (Suffix Tree))
  a_suffix all = λ tokens. suffix_by all (peek tokens) tokens

  unfoldable pub suffixes_from : List Token → Tree → ℕ → ℕ → List (Suffix Tree) → Parser Tree
  suffixes_from all receiver end zero found = refuse
  suffixes_from all receiver end (suc n) found = do
    next ← a_suffix all
    elim next [
      | Some more ↦ suffixes_from all receiver (span_of_suffix more).end n (found ++ more ∷ [])
      | None ↦ pure (post_of receiver found end)
    ]

  unfoldable pub suffixes : List Token → Tree → Parser Tree
  suffixes all receiver = suffixes_from all receiver 0 turns []

  unfoldable pub post : Parser Tree
  post = λ all. (do receiver ← primary; suffixes all receiver) all
