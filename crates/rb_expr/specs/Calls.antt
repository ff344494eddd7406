-- The arguments and blocks of calls.
use Rattle.std.specs.Prelude.{ℕ, zero, suc, Bool, true, false, ◌&&◌, if◌then◌else◌, List, [], ◌∷◌, ◌++◌, Option, Some, None, Ok}
use Rattle.srb_terms.specs.declared.span.Span.{Span}
use Rattle.rb_tree.specs.declared.syntax.Argument.{Argument}
use Rattle.rb_tree.specs.declared.syntax.Argument.TheVariants as argument
use Rattle.rb_tree.specs.declared.syntax.Block.{Block}
use Rattle.rb_tree.specs.declared.syntax.PlacedName.{PlacedName}
use Rattle.rb_tree.specs.declared.syntax.Tree.{Tree}
use Rattle.rb_tree.specs.declared.token.Shape.{Shape}
use Rattle.rb_tree.specs.declared.token.Shape.TheVariants as shape
use Rattle.rb_expr.specs.declared.form.Form.{Form}
use Rattle.rb_expr.specs.declared.form.Form.TheVariants as form
use Rattle.rb_expr.specs.Lists.{order_of, is_keyword, end_of_argument, passes_block, after_argument, goes_on, noted, fresh_name}
use Rattle.rb_expr.specs.Reading.{Parser, ◌>>=◌, ◌>>◌, ◌<$>◌, pure, refuse, peek, sees, after, skip_separators, expect, named}

-- `nested` reads a form that nests: the flag says whether its calls may take a `do`. Loops take at most `turns` turns. Calls
-- that stand here may take a `do` where `takes_do` says so.
module _ (nested : Form → Bool → Parser Tree) (turns : ℕ) (takes_do : Bool) where
  -- `name: value`
  unfoldable pub keyword : Bool → Parser (Argument Tree)
  keyword takes = do
    label ← named shape.Label
    value ← nested form.Tern takes
    pure (argument.Keyword label.name label.span value)

  -- `&value`
  unfoldable pub passed_block : Bool → Parser (Argument Tree)
  passed_block takes = do
    mark ← expect shape.Ampersand
    value ← nested form.Tern takes
    pure (argument.Block mark value)

  unfoldable pub positional : Bool → Parser (Argument Tree)
  positional takes = do
    value ← nested form.Tern takes
    pure (argument.Positional value)

  -- keyword arguments stand after those by place
  abbrev pub argument_by : Bool → Bool → Option Shape → Parser (Argument Tree)
  argument_by keywords takes (Some shape.Label) = keyword takes
  argument_by keywords takes (Some shape.Ampersand) = passed_block takes
  argument_by keywords takes _ = if keywords then refuse else positional takes

  unfoldable pub one_argument : Bool → Bool → Parser (Argument Tree)
  one_argument keywords takes = λ tokens. argument_by keywords takes (peek tokens) tokens

  -- At least one argument, and the closing bracket. The flag says whether a keyword argument stands before.
  unfoldable pub listed_from : Shape → ℕ → Bool → List (Argument Tree) → Parser (List (Argument Tree) × Span)
  listed_from closer zero keywords found = refuse
  listed_from closer (suc n) keywords found = do
    next ← one_argument keywords true
    closing ← after_argument closer (order_of next)
    elim closing [
      | Some place ↦ pure (found ++ next ∷ [], place)
      | None ↦ listed_from closer n (is_keyword (order_of next)) (found ++ next ∷ [])
    ]

  unfoldable pub listed : Shape → Parser (List (Argument Tree) × Span)
  listed closer = listed_from closer turns false []

  unfoldable pub in_brackets : Parser (List (Argument Tree) × Span)
  in_brackets = λ tokens. if sees shape.CloseParen tokens then ((λ closing. ([], closing)) <$> expect shape.CloseParen) tokens else listed shape.CloseParen tokens

  -- `(`, arguments and `)`
  unfoldable pub brackets : Parser (List (Argument Tree) × Span)
  brackets = do
    expect shape.OpenParen
    (λ tokens. in_brackets (skip_separators tokens))

  -- after the `[` of an index
  unfoldable pub index_arguments : Parser (List (Argument Tree) × Span)
  index_arguments = λ tokens. listed shape.CloseBracket (skip_separators tokens)

  -- with the end of all that was read; the number is the end of the name before
  unfoldable pub optional_brackets : ℕ → Parser (Option (List (Argument Tree)) × ℕ)
  optional_brackets end = λ tokens.
      if sees shape.OpenParen tokens then ((λ found. (Some found.0, found.1.end)) <$> brackets) tokens else Ok ((None, end), tokens)

  -- without brackets; a `do` after them belongs to the call
  unfoldable pub bare_from : ℕ → Bool → List (Argument Tree) → Parser (List (Argument Tree) × ℕ)
  bare_from zero keywords found = refuse
  bare_from (suc n) keywords found = do
    next ← one_argument keywords false
    (λ tokens. if goes_on (order_of next) tokens then bare_from n (is_keyword (order_of next)) (found ++ next ∷ []) (after tokens)
        else Ok ((found ++ next ∷ [], end_of_argument next), tokens))

  unfoldable pub bare : Parser (List (Argument Tree) × ℕ)
  bare = bare_from turns false []

  -- ---- blocks

  -- after some names, in a list of the names alone and with their places
  unfoldable pub bar_names_from : ℕ → List (List ℕ) → List PlacedName → Parser (List PlacedName)
  bar_names_from zero names found = refuse
  bar_names_from (suc n) names found = do
    next ← fresh_name names
    (λ tokens. if sees shape.Comma tokens then bar_names_from n (noted names next.name) (found ++ next ∷ []) (after tokens)
        else ((λ _. found ++ next ∷ []) <$> expect shape.Pipe) tokens)

  unfoldable pub bar_names : Parser (List PlacedName)
  bar_names = bar_names_from turns [] []

  unfoldable pub bars : Parser (List PlacedName)
  bars = λ tokens. if sees shape.Pipe tokens then bar_names (after tokens) else Ok ([], tokens)

  unfoldable pub block : Shape → Shape → Parser (Block Tree)
  block opener closer = do
    opening ← expect opener
    parameters ← bars
    body ← nested form.Body true
    closing ← expect closer
    pure (record { parameters = parameters; body = body; span = record { start = opening.start; end = closing.end } })

  unfoldable pub optional_do : Parser (Option (Block Tree))
  optional_do = λ tokens. if takes_do && sees shape.Do tokens then (Some <$> block shape.Do shape.End) tokens else Ok (None, tokens)

  unfoldable pub any_block : Parser (Option (Block Tree))
  any_block = λ tokens. if sees shape.OpenBrace tokens then (Some <$> block shape.OpenBrace shape.CloseBrace) tokens else optional_do tokens

  -- a call that is given a block as an argument takes none after it
  unfoldable pub optional_block : Option (List (Argument Tree)) → Parser (Option (Block Tree))
  optional_block (Some given) = if passes_block given then pure None else any_block
  optional_block None = any_block

  unfoldable pub command_block : List (Argument Tree) → Parser (Option (Block Tree))
  command_block given = if passes_block given then pure None else optional_do
