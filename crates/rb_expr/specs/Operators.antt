-- Operators in front of operands and between them.
use Rattle.std.specs.Prelude.{ℕ, zero, suc, ◌+◌, Bool, if◌then◌else◌, Option, Some, None, Ok}
use Rattle.srb_terms.specs.declared.span.Span.{Span}
use Rattle.rb_tree.specs.Trees.{span_of}
use Rattle.rb_tree.specs.declared.syntax.Binary.{Binary}
use Rattle.rb_tree.specs.declared.syntax.Binary.TheVariants as binary
use Rattle.rb_tree.specs.declared.syntax.Tree.{Tree}
use Rattle.rb_tree.specs.Nodes as tree
use Rattle.rb_tree.specs.declared.syntax.Unary.{Unary}
use Rattle.rb_tree.specs.declared.syntax.Unary.TheVariants as unary
use Rattle.rb_tree.specs.declared.token.Shape.TheVariants as shape
use Rattle.rb_expr.specs.declared.form.Form.{Form}
use Rattle.rb_expr.specs.declared.form.Form.TheVariants as form
use Rattle.rb_expr.specs.Operands.{post}
use Rattle.rb_expr.specs.Reading.{Parser, ◌>>=◌, ◌>>◌, pure, refuse, peek, sees, take_token, expect}
use Rattle.rb_expr.specs.Shapes.{level_of, ceiling, operator_between, is_negation, prefix_of}

-- from the start of one place to the end of another
abbrev pub from_to : Span → Span → Span
from_to first last = record { start = first.start; end = last.end }

-- from the first tree to the last
unfoldable pub across : Tree → Tree → Span
across first last = from_to (span_of first) (span_of last)

-- `nested` reads a form that nests: the flag says whether its calls may take a `do`. Loops take at most `turns` turns. Calls
-- that stand here may take a `do` where `takes_do` says so.
module _ (nested : Form → Bool → Parser Tree) (turns : ℕ) (takes_do : Bool) where
  -- an operator and its operand, which is read as this form
  unfoldable pub unary_operation : Unary → Form → Parser Tree
  unary_operation operator form = do
    mark ← take_token
    operand ← nested form takes_do
    pure (tree.Unary operator operand (from_to mark (span_of operand)))

  -- an operator and what stands after it, which is read as this form
  unfoldable pub binary_operation : Binary → Form → Tree → Parser Tree
  binary_operation operator form left = do
    mark ← take_token
    right ← nested form takes_do
    pure (tree.Binary operator mark left right (across left right))

  abbrev pub prefixed_by : Option Unary → Parser Tree
  prefixed_by (Some operator) = unary_operation operator form.Prefixed
  prefixed_by None = post nested turns takes_do

  unfoldable pub prefixed : Parser Tree
  prefixed = λ tokens. prefixed_by (prefix_of tokens) tokens

  -- perhaps `**` and its right side
  unfoldable pub powered : Tree → Parser Tree
  powered left = λ tokens. if sees shape.Power tokens then binary_operation binary.Power form.Negated left tokens else Ok (left, tokens)

  -- an operand with prefixes and powers, and no `-` in front of it all
  unfoldable pub power : Parser Tree
  power = do
    left ← prefixed
    powered left

  unfoldable pub negated : Parser Tree
  negated = λ tokens. if is_negation tokens then unary_operation unary.Minus form.Negated tokens else power tokens

  -- operations after an operand, with operators whose levels lie between these two
  abbrev pub climb_by : (ℕ → Tree → Parser Tree) → Tree → Option Binary → Parser Tree
  climb_by again left None = pure left
  climb_by again left (Some operator) = do
    longer ← binary_operation operator (form.Operation (level_of operator + 1)) left
    again (ceiling operator) longer

  unfoldable pub climb_from : ℕ → ℕ → ℕ → Tree → Parser Tree
  climb_from least zero most left = refuse
  climb_from least (suc n) most left = λ tokens. climb_by (climb_from least n) left (operator_between (peek tokens) least most) tokens

  unfoldable pub climb : ℕ → Tree → Parser Tree
  climb least left = climb_from least turns 9 left

  unfoldable pub operation : ℕ → Parser Tree
  operation least = do
    left ← negated
    climb least left

  -- perhaps `?`, `:` and their sides
  unfoldable pub alternatives : Tree → Parser Tree
  alternatives condition = do
    expect shape.Question
    positive ← nested form.Tern takes_do
    expect shape.Colon
    negative ← nested form.Tern takes_do
    pure (tree.Conditional condition positive negative (across condition negative))

  unfoldable pub chosen : Tree → Parser Tree
  chosen condition = λ tokens. if sees shape.Question tokens then alternatives condition tokens else Ok (condition, tokens)

  unfoldable pub tern : Parser Tree
  tern = do
    condition ← operation 1
    chosen condition

  -- the rest of an expression that begins by this operand
  unfoldable pub tern_after : Tree → Parser Tree
  tern_after first = do
    left ← powered first
    condition ← climb 1 left
    chosen condition
