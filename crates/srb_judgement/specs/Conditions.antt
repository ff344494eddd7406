-- Conditions: the environments for truth and for falsehood that each kind of node gives.
--
-- | e | truth | falsehood |
-- | `!a`, `unless`, `until` | exchanged | exchanged |
-- | `a && b` | truth of b after truth of a | join of both falsehoods |
-- | `a || b` | join of both truths | falsehood of b after falsehood of a |
-- | `(e)` with one expression | as e | as e |
-- | variable x, or `x = e` | x is `truthy` | x is `falsy` |
-- | `x.nil?`, `x == nil` (`!=` exchanged) | x meets `NilClass` | x without it |
-- | `x.is_a?(C)`, `x.kind_of?(C)`, `C === x`, C a class or module | x meets C | x without C |
-- | other | judged | judged |
--
-- `&&`, `||` and `!` stand in `Operators`, the tests of a variable in `Narrowing`, and the sides that are dead in `Reaching`.
use Rattle.std.specs.Prelude.{ℕ, Bool, true, false, List, [], ◌∷◌, Option}
use Rattle.srb_terms.specs.declared.span.Span.{Span}
use Rattle.rb_tree.specs.Trees.{span_at}
use Rattle.rb_tree.specs.declared.syntax.Argument.{Argument}
use Rattle.rb_tree.specs.declared.syntax.Block.{Block}
use Rattle.rb_tree.specs.declared.syntax.Unary.{Unary}
use Rattle.rb_tree.specs.declared.syntax.Unary.TheVariants as unary
use Rattle.rb_tree.specs.declared.syntax.Node.TheOpen.{Node-F}
use Rattle.srb_judgement.specs.Assignments.{assigned, operator_assigned, assigned_test}
use Rattle.srb_judgement.specs.Chains.{chain_test, operands_of, says_of}
use Rattle.srb_judgement.specs.Languages.{Language}
use Rattle.srb_judgement.specs.Narrowing.{SaysTruthy, SaysNothing, Says, saying}
use Rattle.srb_judgement.specs.Operators.{binary_test, unary_judged, exchanged}
use Rattle.srb_judgement.specs.Parts.{Operand, Part, Ending, EndsInCall}
use Rattle.srb_judgement.specs.Reaching.{condition, judged_only}
use Rattle.srb_judgement.specs.Sequences.{body}
use Rattle.srb_judgement.specs.States.{Context, Test, is_visible}
use Rattle.srb_judgement.specs.Expressions.{name_judged, command, judge_at}
use Rattle.srb_judgement.specs.Spellings.{chain_at}

module _ {T X : Type 0} (L : Language T X) where
  -- a name says something where it is a variable
  abbrev pub says_name : Bool → List ℕ → Says T
  says_name true name = SaysTruthy name
  says_name false name = SaysNothing

  -- "variable x: x is `truthy`; x is `falsy`"
  abbrev pub name_test : List ℕ → Span → Test T
  name_test name span c s = saying L (says_name (is_visible c name) name) (name_judged L name span c s)

  -- a command may be a test of a variable, as `x.is_a? C`
  abbrev pub command_says : Ending T X → List (Argument (Operand T X)) → Option (Block (Part T X)) → Context T → Says T
  command_says (EndsInCall o how name place) arguments b c = says_of L o how name arguments b c
  command_says _ arguments b c = SaysNothing

  abbrev pub command_test : Ending T X → List (Argument (Operand T X)) → Option (Block (Part T X)) → Span → Test T
  command_test ending arguments b span c s = saying L (command_says ending arguments b c) (command L ending arguments b span c s)

  -- "`!a`: exchanged"
  abbrev pub unary_test : Unary → Part T X → Span → Test T
  unary_test unary.Not operand span c s = exchanged L (operand.test c s)
  unary_test operator operand span c s = judged_only (unary_judged L operator operand.it span) c s

  -- "`(e)` with one expression: as e"
  abbrev pub body_test : List (Part T X) → Test T
  body_test (p ∷ []) = p.test
  body_test statements = judged_only (body L statements)

  -- "other: judged"
  abbrev pub test_at : Node-F (Part T X) (Part T X) → Test T
  test_at (Node-F.Body statements span) = body_test statements
  test_at (Node-F.Parens inner span) = condition L span inner.test
  test_at (Node-F.Name name span) = condition L span (name_test name span)
  test_at (Node-F.Assign target value span) = condition L span (assigned_test L target.ending (assigned L target.ending value.it))
  test_at (Node-F.OperatorAssign target operator place value span) =
      condition L span (assigned_test L target.ending (operator_assigned L target.ending operator place value.it span))
  test_at (Node-F.Unary operator operand span) = condition L span (unary_test operator operand span)
  test_at (Node-F.Binary operator place left right span) = condition L span (binary_test L operator place left right)
  test_at (Node-F.Post receiver suffixes span) = condition L span (chain_test L (chain_at L receiver suffixes))
  test_at (Node-F.Command callee arguments b span) = condition L span (command_test callee.ending (operands_of arguments) b span)
  test_at n = condition L (span_at n) (judged_only (judge_at L n))
