-- `if`, `unless`, `while`, `until`, `case` and `begin`, each with its `end`.
use Rattle.std.specs.Prelude.{ℕ, zero, suc, Bool, false, ◌||◌, if◌then◌else◌, List, [], ◌∷◌, ◌++◌, Option, Some, None, Ok}
use Rattle.srb_terms.specs.declared.span.Span.{Span}
use Rattle.rb_tree.specs.declared.syntax.Arm.{Arm}
use Rattle.rb_tree.specs.declared.syntax.Guarded.{Guarded}
use Rattle.rb_tree.specs.declared.syntax.PlacedName.{PlacedName}
use Rattle.rb_tree.specs.declared.syntax.Rescue.{Rescue}
use Rattle.rb_tree.specs.declared.syntax.Test.{Test}
use Rattle.rb_tree.specs.declared.syntax.Test.TheVariants as test
use Rattle.rb_tree.specs.declared.syntax.Tree.{Tree}
use Rattle.rb_tree.specs.Nodes as tree
use Rattle.rb_tree.specs.declared.syntax.When.{When}
use Rattle.rb_tree.specs.declared.token.Token.{Token}
use Rattle.rb_tree.specs.declared.token.Shape.TheVariants as shape
use Rattle.rb_expr.specs.declared.form.Form.{Form}
use Rattle.rb_expr.specs.declared.form.Form.TheVariants as form
use Rattle.rb_expr.specs.Reading.{Parser, ◌>>=◌, ◌>>◌, ◌<$>◌, pure, refuse, sees, after, skip_separators, take_token, expect, named}

-- a `then` after a separator, if one comes next
abbrev pub after_then : List Token → List Token
after_then tokens = if sees shape.Then tokens then after tokens else tokens

-- `then`, or one separator and perhaps `then`
unfoldable pub then_word : Parser Span
then_word = λ tokens. if sees shape.Then tokens then expect shape.Then tokens
    else (do mark ← expect shape.Separator; (λ rest. Ok (mark, after_then rest))) tokens

-- `do`, or one separator
unfoldable pub do_word : Parser Span
do_word = λ tokens. if sees shape.Do tokens then expect shape.Do tokens else expect shape.Separator tokens

-- no pattern stands after a `rescue`
unfoldable pub rescues_all : List Token → Bool
rescues_all tokens = sees shape.Arrow tokens || (sees shape.Then tokens || sees shape.Separator tokens)

-- `=>` and the variable of a `rescue`, if `=>` comes next
unfoldable pub rescue_variable : Parser (Option PlacedName)
rescue_variable = λ tokens. if sees shape.Arrow tokens then (Some <$> named shape.Identifier) (after tokens) else Ok (None, tokens)

-- `nested` reads a form that nests: the flag says whether its calls may take a `do`. Loops take at most `turns` turns. Calls
-- that stand here may take a `do` where `takes_do` says so.
module _ (nested : Form → Bool → Parser Tree) (turns : ℕ) (takes_do : Bool) where
  unfoldable pub otherwise : Parser (Option Tree)
  otherwise = λ tokens. if sees shape.Else tokens then (Some <$> nested form.Body takes_do) (after tokens) else Ok (None, tokens)

  unfoldable pub elsif_arm : Parser (Arm Tree)
  elsif_arm = do
    expect shape.Elsif
    condition ← nested form.Simple takes_do
    then_word
    body ← nested form.Body takes_do
    pure (record { condition = condition; body = body })

  unfoldable pub elsif_arms_from : ℕ → List (Arm Tree) → Parser (List (Arm Tree))
  elsif_arms_from zero found = refuse
  elsif_arms_from (suc n) found = λ tokens.
      if sees shape.Elsif tokens then (do arm ← elsif_arm; elsif_arms_from n (found ++ arm ∷ [])) tokens else Ok (found, tokens)

  unfoldable pub elsif_arms : Parser (List (Arm Tree))
  elsif_arms = elsif_arms_from turns []

  -- `unless` has none
  unfoldable pub arms_of : Test → Parser (List (Arm Tree))
  arms_of test.Positive = elsif_arms
  arms_of test.Negative = pure []

  unfoldable pub branch : Test → Parser Tree
  branch test = do
    mark ← take_token
    condition ← nested form.Simple takes_do
    then_word
    body ← nested form.Body takes_do
    arms ← arms_of test
    other ← otherwise
    closing ← expect shape.End
    pure (tree.If test condition body arms other (record { start = mark.start; end = closing.end }))

  -- the condition takes no `do`
  unfoldable pub repeated : Test → Parser Tree
  repeated test = do
    mark ← take_token
    condition ← nested form.Simple false
    do_word
    body ← nested form.Body takes_do
    closing ← expect shape.End
    pure (tree.While test condition body (record { start = mark.start; end = closing.end }))

  unfoldable pub subject : Parser (Option Tree)
  subject = λ tokens. if sees shape.Separator tokens || sees shape.When tokens then Ok (None, tokens)
      else (Some <$> nested form.Simple takes_do) tokens

  unfoldable pub patterns_from : ℕ → List Tree → Parser (List Tree)
  patterns_from zero found = refuse
  patterns_from (suc n) found = do
    pattern ← nested form.Tern takes_do
    (λ tokens. if sees shape.Comma tokens then patterns_from n (found ++ pattern ∷ []) (after tokens) else Ok (found ++ pattern ∷ [], tokens))

  unfoldable pub patterns : Parser (List Tree)
  patterns = patterns_from turns []

  unfoldable pub when_arm : Parser (When Tree)
  when_arm = do
    expect shape.When
    found ← patterns
    then_word
    body ← nested form.Body takes_do
    pure (record { patterns = found; body = body })

  -- at least one
  unfoldable pub when_arms_from : ℕ → List (When Tree) → Parser (List (When Tree))
  when_arms_from zero found = refuse
  when_arms_from (suc n) found = do
    arm ← when_arm
    (λ tokens. if sees shape.When tokens then when_arms_from n (found ++ arm ∷ []) tokens else Ok (found ++ arm ∷ [], tokens))

  unfoldable pub when_arms : Parser (List (When Tree))
  when_arms = when_arms_from turns []

  unfoldable pub choice : Parser Tree
  choice = do
    mark ← take_token
    given ← subject
    arms ← (λ tokens. when_arms (skip_separators tokens))
    other ← otherwise
    closing ← expect shape.End
    pure (tree.Case given arms other (record { start = mark.start; end = closing.end }))

  -- what a `rescue` rescues, if it is told
  unfoldable pub raised : Parser (List Tree)
  raised = λ tokens. if rescues_all tokens then Ok ([], tokens) else patterns tokens

  unfoldable pub rescue_clause : Parser (Rescue Tree)
  rescue_clause = do
    expect shape.Rescue
    found ← raised
    variable ← rescue_variable
    then_word
    body ← nested form.Body takes_do
    pure (record { patterns = found; variable = variable; body = body })

  unfoldable pub rescues_from : ℕ → List (Rescue Tree) → Parser (List (Rescue Tree))
  rescues_from zero found = refuse
  rescues_from (suc n) found = λ tokens.
      if sees shape.Rescue tokens then (do clause ← rescue_clause; rescues_from n (found ++ clause ∷ [])) tokens else Ok (found, tokens)

  unfoldable pub rescues : Parser (List (Rescue Tree))
  rescues = rescues_from turns []

  -- an `else` stands after a `rescue` alone
  unfoldable pub otherwise_after : List (Rescue Tree) → Parser (Option Tree)
  otherwise_after [] = pure None
  otherwise_after (clause ∷ clauses) = otherwise

  unfoldable pub ensure : Parser (Option Tree)
  ensure = λ tokens. if sees shape.Ensure tokens then (Some <$> nested form.Body takes_do) (after tokens) else Ok (None, tokens)

  -- a body and what guards it
  unfoldable pub guarded : Parser (Guarded Tree)
  guarded = do
    body ← nested form.Body takes_do
    clauses ← rescues
    other ← otherwise_after clauses
    last ← ensure
    pure (record { body = body; rescues = clauses; otherwise = other; ensure = last })

  unfoldable pub guards : Parser Tree
  guards = do
    mark ← take_token
    found ← guarded
    closing ← expect shape.End
    pure (tree.Begin found (record { start = mark.start; end = closing.end }))
