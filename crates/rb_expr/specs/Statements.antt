-- Statements that are no declarations, and bodies of them.
use Rattle.std.specs.Prelude.{ℕ, zero, suc, ◌-◌, Bool, true, false, not, ◌&&◌, ◌||◌, if◌then◌else◌, List, [], ◌∷◌, ◌++◌, length, slice_get, Option, Some, None, Ok}
use Rattle.srb_terms.specs.declared.span.Span.{Span}
use Rattle.rb_tree.specs.Trees.{span_of}
use Rattle.rb_tree.specs.declared.syntax.Binary.{Binary}
use Rattle.rb_tree.specs.declared.syntax.Dot.TheVariants as dot
use Rattle.rb_tree.specs.declared.syntax.Jump.{Jump}
use Rattle.rb_tree.specs.declared.syntax.Modifier.{Modifier}
use Rattle.rb_tree.specs.declared.syntax.Modifier.TheVariants as modifier
use Rattle.rb_tree.specs.declared.syntax.Suffix.{Suffix}
use Rattle.rb_tree.specs.declared.syntax.Suffix.TheVariants as suffix
use Rattle.rb_tree.specs.declared.syntax.Tree.{Tree}
use Rattle.rb_tree.specs.declared.syntax.Node.{out-Node}
use Rattle.rb_tree.specs.declared.syntax.Node.TheOpen.{Node-F}
use Rattle.rb_tree.specs.Nodes as tree
use Rattle.rb_tree.specs.declared.token.Token.{Token}
use Rattle.rb_tree.specs.declared.token.Shape.{Shape}
use Rattle.rb_tree.specs.declared.token.Shape.TheVariants as shape
use Rattle.rb_expr.specs.declared.ending.Ending.{Ending}
use Rattle.rb_expr.specs.declared.ending.Ending.TheVariants as ending
use Rattle.rb_expr.specs.declared.ending.Follower.{Follower}
use Rattle.rb_expr.specs.declared.ending.Follower.TheVariants as follower
use Rattle.rb_expr.specs.declared.form.Form.{Form}
use Rattle.rb_expr.specs.declared.form.Form.TheVariants as form
use Rattle.rb_expr.specs.Calls.{bare, command_block}
use Rattle.rb_expr.specs.Lists.{end_with}
use Rattle.rb_expr.specs.Operands.{post}
use Rattle.rb_expr.specs.Operators.{across, tern, tern_after}
use Rattle.rb_expr.specs.Reading.{Parser, ◌>>=◌, ◌>>◌, ◌<$>◌, pure, refuse, peek, sees, start_of, skip_separators, take_token, expect}
use Rattle.rb_expr.specs.Shapes.{begins_bare, begins_statement, has_value, has_prefix, jump_of, modifier_of, assigning_of, next_is}

-- ---- what an operand may be followed by

-- a plain call by `.` may be assigned to and take arguments, one by `&.` may take arguments alone
abbrev pub ending_of_suffix : {T : Type 0} → Suffix T → Ending
ending_of_suffix (suffix.Call dot.Plain name name_span None None span) = ending.Name
ending_of_suffix (suffix.Call dot.Safe name name_span None None span) = ending.Callee
ending_of_suffix (suffix.Index arguments span) = ending.Target
ending_of_suffix _ = ending.Other

abbrev pub ending_of_last : {T : Type 0} → Option (Suffix T) → Ending
ending_of_last None = ending.Other
ending_of_last (Some last) = ending_of_suffix last

abbrev pub ending_at : {X Y : Type 0} → Node-F X Y → Ending
ending_at (Node-F.Name name span) = ending.Name
ending_at (Node-F.InstanceVariable name span) = ending.Target
ending_at (Node-F.Constant name span) = ending.Constant
ending_at (Node-F.Yield None span) = ending.Callee
ending_at (Node-F.Super None span) = ending.Callee
ending_at (Node-F.Post receiver suffixes span) = ending_of_last (slice_get suffixes (length suffixes - 1))
ending_at _ = ending.Other

-- how an operand ends
unfoldable pub ending_of : Tree → Ending
ending_of operand = ending_at (out-Node operand.node)

-- what may be assigned to; a constant by `=` alone, and only where the flag allows it
abbrev pub is_target : Ending → Bool
is_target ending.Name = true
is_target ending.Target = true
is_target _ = false

abbrev pub is_plain_target : Bool → Ending → Bool
is_plain_target constants ending.Constant = constants
is_plain_target constants end = is_target end

-- what may take arguments without brackets
abbrev pub is_callee : Ending → Bool
is_callee ending.Name = true
is_callee ending.Callee = true
is_callee _ = false

abbrev pub begin_arguments : Option Shape → Bool
begin_arguments (Some shape.Label) = true
begin_arguments next = next_is begins_bare next

abbrev pub other_follower : Ending → Option Shape → Follower
other_follower end next = if is_callee end && begin_arguments next then follower.Arguments else follower.Operators

abbrev pub operator_follower : Ending → Option Shape → Option Binary → Follower
operator_follower end next (Some operator) = if is_target end then follower.Operator operator else follower.Operators
operator_follower end next None = other_follower end next

abbrev pub follower_by : Bool → Ending → Option Shape → Follower
follower_by constants end (Some shape.Assign) = if is_plain_target constants end then follower.Value else follower.Operators
follower_by constants end next = operator_follower end next (assigning_of next)

-- what follows an operand that ends so, by the next token
unfoldable pub follower_of : Bool → Ending → Option Shape → Follower
follower_of constants end next = follower_by constants end next

-- what a modifier may not make a loop of: a `begin` with its `end` alone
abbrev pub is_begin_at : {X Y : Type 0} → Node-F X Y → Bool
is_begin_at (Node-F.Begin guarded span) = true
is_begin_at _ = false

unfoldable pub is_begin : Tree → Bool
is_begin inner = is_begin_at (out-Node inner.node)

-- the modifier makes a loop
abbrev pub repeats : Modifier → Bool
repeats modifier.If = false
repeats modifier.Unless = false
repeats modifier.While = true
repeats modifier.Until = true

-- the modifier may stand after the statement
unfoldable pub may_modify : Modifier → Tree → Bool
may_modify word inner = not (repeats word) || not (is_begin inner)

abbrev pub allowed : Tree → Option Modifier → Option Modifier
allowed inner None = None
allowed inner (Some word) = if may_modify word inner then Some word else None

-- the modifier that the next token is, if it may stand after the statement
unfoldable pub modifier_after : Tree → Option Shape → Option Modifier
modifier_after inner next = allowed inner (modifier_of next)

-- where a tree ends, or the place where none is
abbrev pub end_or : ℕ → Option Tree → ℕ
end_or end None = end
end_or end (Some value) = (span_of value).end

-- the place of a body begins with its first statement; that of an empty body is 0 to 0
abbrev pub body_start : List Token → ℕ
body_start tokens = if begins_statement tokens then start_of tokens else 0

-- a body of these statements ends after the last: a `rescue` does not stand there without a separator
unfoldable pub ended : List Tree → Span → Parser Tree
ended found span = λ tokens. if sees shape.Rescue tokens then refuse tokens else Ok (tree.Body found span, tokens)

-- ---- statements

-- `nested` reads a form that nests: the flag says whether its calls may take a `do`. Loops take at most `turns` turns. Calls
-- that stand here may take a `do` where `takes_do` says so.
module _ (nested : Form → Bool → Parser Tree) (turns : ℕ) (takes_do : Bool) where
  unfoldable pub assigned : Tree → Parser Tree
  assigned target = do
    expect shape.Assign
    value ← nested form.Value takes_do
    pure (tree.Assign target value (across target value))

  unfoldable pub operator_assigned : Binary → Tree → Parser Tree
  operator_assigned operator target = do
    mark ← take_token
    value ← nested form.Value takes_do
    pure (tree.OperatorAssign target operator mark value (across target value))

  unfoldable pub command : Tree → Parser Tree
  command callee = do
    given ← bare nested turns takes_do
    block ← command_block nested turns takes_do given.0
    pure (tree.Command callee given.0 block (record { start = (span_of callee).start; end = end_with block given.1 }))

  abbrev pub followed_by : Tree → Follower → Parser Tree
  followed_by first follower.Value = assigned first
  followed_by first (follower.Operator operator) = operator_assigned operator first
  followed_by first follower.Arguments = command first
  followed_by first follower.Operators = tern_after nested turns takes_do first

  -- what begins by this operand; the flag says whether a constant may be assigned to
  unfoldable pub followed : Bool → Tree → Parser Tree
  followed constants first = λ tokens. followed_by first (follower_of constants (ending_of first) (peek tokens)) tokens

  unfoldable pub from_operand : Bool → Parser Tree
  from_operand constants = do
    first ← post nested turns takes_do
    followed constants first

  unfoldable pub value : Bool → Parser Tree
  value constants = λ tokens. if has_prefix tokens then tern nested turns takes_do tokens else from_operand constants tokens

  unfoldable pub jump_value : Parser (Option Tree)
  jump_value = λ tokens. if has_value tokens then (Some <$> nested form.Value takes_do) tokens else Ok (None, tokens)

  unfoldable pub jump : Jump → Parser Tree
  jump word = do
    mark ← take_token
    given ← jump_value
    pure (tree.Jump word given (record { start = mark.start; end = end_or mark.end given }))

  abbrev pub simple_by : Bool → Option Jump → Parser Tree
  simple_by constants (Some word) = jump word
  simple_by constants None = value constants

  unfoldable pub simple : Bool → Parser Tree
  simple constants = λ tokens. simple_by constants (jump_of (peek tokens)) tokens

  unfoldable pub modified : Modifier → Tree → Parser Tree
  modified modifier inner = do
    take_token
    condition ← nested form.Simple takes_do
    pure (tree.Modified inner modifier condition (across inner condition))

  abbrev pub modifiers_by : (Tree → Parser Tree) → Tree → Option Modifier → Parser Tree
  modifiers_by again inner None = pure inner
  modifiers_by again inner (Some modifier) = do
    longer ← modified modifier inner
    again longer

  unfoldable pub modifiers_from : ℕ → Tree → Parser Tree
  modifiers_from zero inner = refuse
  modifiers_from (suc n) inner = λ tokens. modifiers_by (modifiers_from n) inner (modifier_after inner (peek tokens)) tokens

  unfoldable pub modifiers : Tree → Parser Tree
  modifiers inner = modifiers_from turns inner

  unfoldable pub statement : Bool → Parser Tree
  statement constants = do
    inner ← simple constants
    modifiers inner

  -- Statements after others. The numbers are where the first begins and the last ends.
  unfoldable pub body_from : Bool → ℕ → ℕ → ℕ → List Tree → Parser Tree
  body_from constants start end zero found = refuse
  body_from constants start end (suc n) found = λ tokens.
      if begins_statement tokens
      then (do
        next ← statement constants
        (λ rest. if sees shape.Separator rest
            then body_from constants start (span_of next).end n (found ++ next ∷ []) (skip_separators rest)
            else ended (found ++ next ∷ []) (record { start = start; end = (span_of next).end }) rest)) tokens
      else Ok (tree.Body found (record { start = start; end = end }), tokens)

  unfoldable pub statements : Bool → Parser Tree
  statements constants = λ tokens. body_from constants (body_start tokens) 0 turns [] tokens

  -- the longest body without declarations
  unfoldable pub body : Bool → Parser Tree
  body constants = λ tokens. statements constants (skip_separators tokens)
