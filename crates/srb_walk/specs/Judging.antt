-- How trees are judged, by their nodes: what is no expression of its own, and what an expression gives where it is reached.
use Rattle.srb_walk.specs.Known.{known_node}
use Rattle.std.specs.Prelude.{◌≡◌, Bool, true, false, [], ◌∷◌, map, codes, Some, None}
use Rattle.srb_terms.specs.declared.span.Span.{Span}
use Rattle.rb_tree.specs.Trees.{span_of}
use Rattle.rb_tree.specs.declared.syntax.Test.TheVariants as sense
use Rattle.rb_tree.specs.declared.syntax.Tree.{Tree}
use Rattle.rb_tree.specs.declared.syntax.Node.{out-Node}
use Rattle.rb_tree.specs.declared.syntax.Node.TheOpen.{Node-F}
use Rattle.rb_views.specs.Calls.{arguments_of}
use Rattle.srb_judgement.specs.Assignments.{assigned, operator_assigned, assigned_test}
use Rattle.srb_judgement.specs.Branches.{if_judged}
use Rattle.srb_judgement.specs.Calls.{call_untyped}
use Rattle.srb_judgement.specs.Cases.{case_judged}
use Rattle.srb_judgement.specs.Chains.{operands_of, chain_test}
use Rattle.srb_judgement.specs.Conditions.{name_test, command_test, unary_test, body_test}
use Rattle.srb_judgement.specs.Environments.{is_live}
use Rattle.srb_judgement.specs.Expressions.{name_judged, own_call, command, modified, declaration}
use Rattle.srb_judgement.specs.Guards.{guard_judged}
use Rattle.srb_judgement.specs.Judgements.{part_of}
use Rattle.srb_judgement.specs.Jumps.{jump_judged}
use Rattle.srb_judgement.specs.Languages.{Language}
use Rattle.srb_judgement.specs.Loops.{loop_judged}
use Rattle.srb_judgement.specs.Operators.{binary_judged, unary_judged, binary_test}
use Rattle.srb_judgement.specs.Parts.{Part}
use Rattle.srb_judgement.specs.Reaching.{closed, excluding, judged_only}
use Rattle.srb_judgement.specs.Sequences.{body}
use Rattle.srb_judgement.specs.Spellings.{chain_at}
use Rattle.srb_judgement.specs.States.{Context, State, Judged, Run, Test}
use Rattle.srb_judgement.specs.Unreached.{by_life, tested_by_life, not_reached, not_tested}
use Rattle.srb_judgement.specs.Variables.{part_operand}
use Rattle.srb_judgement.specs.Words.{literal, text, array, hash, self_word, constant, instance_variable}

-- "A body and a declaration are none."
abbrev pub is_expression_at : {N P : Type 0} → Node-F N P → Bool
is_expression_at (Node-F.Body statements span) = false
is_expression_at (Node-F.Class path superclass inner span) = false
is_expression_at (Node-F.Module path inner span) = false
is_expression_at (Node-F.Def visibility own name name_span parameters guarded span) = false
is_expression_at _ = true

unfoldable pub is_expression : Tree → Bool
is_expression t = is_expression_at (out-Node t.node)

module _ {T X : Type 0} (L : Language T X) where
  abbrev pub judge_of : Tree → Run T
  judge_of t = (part_of L t).it.judge

  abbrev pub test_of : Tree → Test T
  test_of t = (part_of L t).test

  -- ---- values

  -- a body or a declaration
  abbrev pub unplaced_at : Node-F (Part T X) (Part T X) → Run T
  unplaced_at (Node-F.Body statements span) = body L statements
  unplaced_at _ = declaration L

  unfoldable pub unplaced_of : Tree → Run T
  unplaced_of t = unplaced_at (known_node L (out-Node t.node))

  -- an expression that is reached
  abbrev pub inside_at : Node-F (Part T X) (Part T X) → Run T
  inside_at (Node-F.Modified statement m cond span) = modified L m statement cond
  inside_at (Node-F.Jump word value span) = jump_judged L word value span
  inside_at (Node-F.Assign target value span) = assigned L target.ending value.it
  inside_at (Node-F.OperatorAssign target operator place value span) = operator_assigned L target.ending operator place value.it span
  inside_at (Node-F.Command callee arguments b span) = command L callee.ending (operands_of arguments) b span
  inside_at (Node-F.Conditional cond positive negative span) = if_judged L sense.Positive cond positive [] (Some negative)
  inside_at (Node-F.Binary operator place left right span) = binary_judged L operator place left right
  inside_at (Node-F.Unary operator operand span) = unary_judged L operator operand.it span
  inside_at (Node-F.Post receiver suffixes span) = (chain_at L receiver suffixes).it.judge
  inside_at (Node-F.Whole sign words span) = literal L (codes "Integer")
  inside_at (Node-F.Float sign words span) = literal L (codes "Float")
  inside_at (Node-F.Text pieces span) = text L pieces
  inside_at (Node-F.Symbol words span) = literal L (codes "Symbol")
  inside_at (Node-F.InstanceVariable name span) = instance_variable L name span
  inside_at (Node-F.Constant name span) = constant L (name ∷ [])
  inside_at (Node-F.TopConstant name name_span span) = constant L ([] ∷ name ∷ [])
  inside_at (Node-F.SelfWord span) = self_word L
  inside_at (Node-F.Nil span) = literal L (codes "NilClass")
  inside_at (Node-F.True span) = literal L (codes "TrueClass")
  inside_at (Node-F.False span) = literal L (codes "FalseClass")
  inside_at (Node-F.Name name span) = name_judged L name span
  inside_at (Node-F.Call name place arguments b span) = own_call L name place (operands_of (arguments_of arguments)) b
  inside_at (Node-F.Yield arguments span) = call_untyped L (operands_of (arguments_of arguments)) None
  inside_at (Node-F.Super arguments span) = call_untyped L (operands_of (arguments_of arguments)) None
  inside_at (Node-F.Array elements span) = array L (map part_operand elements)
  inside_at (Node-F.Hash pairs span) = hash L pairs
  inside_at (Node-F.Parens inner span) = inner.it.judge
  inside_at (Node-F.If which cond inner arms otherwise span) = if_judged L which cond inner arms otherwise
  inside_at (Node-F.While which cond inner span) = loop_judged L which cond inner
  inside_at (Node-F.Case subject whens otherwise span) = case_judged L subject whens otherwise
  inside_at (Node-F.Begin guarded span) = guard_judged L guarded
  inside_at _ = declaration L

  unfoldable pub inside_of : Tree → Run T
  inside_of t = inside_at (known_node L (out-Node t.node))

  -- a tree, by whether it is an expression and is reached
  abbrev pub placed_or : Bool → Judged T → Judged T → Judged T
  placed_or true own other = own
  placed_or false own other = other

  unfoldable pub judge_by_life : Tree → Run T
  judge_by_life t c s =
      placed_or (is_expression t)
      (by_life L (is_live s.environment) (closed L (inside_of t c s)) (not_reached L s.environment (span_of t) s))
      (unplaced_of t c s)

  -- ---- conditions

  -- a condition that is reached; `run` is the whole as a value
  abbrev pub tested_at : Run T → Node-F (Part T X) (Part T X) → Test T
  tested_at run (Node-F.Parens inner span) = inner.test
  tested_at run (Node-F.Name name span) = name_test L name span
  tested_at run (Node-F.Assign target value span) = assigned_test L target.ending (assigned L target.ending value.it)
  tested_at run (Node-F.OperatorAssign target operator place value span) =
      assigned_test L target.ending (operator_assigned L target.ending operator place value.it span)
  tested_at run (Node-F.Unary operator operand span) = unary_test L operator operand span
  tested_at run (Node-F.Binary operator place left right span) = binary_test L operator place left right
  tested_at run (Node-F.Post receiver suffixes span) = chain_test L (chain_at L receiver suffixes)
  tested_at run (Node-F.Command callee arguments b span) = command_test L callee.ending (operands_of arguments) b span
  tested_at run _ = judged_only run

  unfoldable pub tested_inside : Tree → Test T
  tested_inside t = tested_at (judge_of t) (known_node L (out-Node t.node))

  -- a condition, by whether it is a body and is reached
  abbrev pub body_or : Test T → Span → Node-F (Part T X) (Part T X) → Test T
  body_or inside span (Node-F.Body statements place) c s = body_test L statements c s
  body_or inside span _ c s = tested_by_life L (is_live s.environment) (excluding L (inside c s)) (not_tested L s.environment span s)

  unfoldable pub test_by_life : Tree → Test T
  test_by_life t = body_or (tested_inside t) (span_of t) (known_node L (out-Node t.node))

-- ---- laws

-- each tree is judged by its life: a body or a declaration as it stands, and an expression where it is reached
pub record JudgedByLife {T X : Type 0} (L : Language T X) (t : Tree) : Type 0 where
  pub value : (c : Context T) (s : State T) → judge_of L t c s ≡ judge_by_life L t c s
  pub test : (c : Context T) (s : State T) → test_of L t c s ≡ test_by_life L t c s

abbrev pub TreesAreJudgedByLife : Type 0 → Type 0 → Type 0
TreesAreJudgedByLife T X = (L : Language T X) (t : Tree) → JudgedByLife L t
