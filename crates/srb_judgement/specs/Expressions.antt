-- Expressions: how each kind of node is judged as a value.
use Rattle.std.specs.Prelude.{ℕ, Bool, true, false, List, [], ◌∷◌, map, codes, Option, Some, None}
use Rattle.srb_terms.specs.declared.span.Span.{Span}
use Rattle.rb_tree.specs.declared.syntax.Argument.{Argument}
use Rattle.rb_tree.specs.declared.syntax.Block.{Block}
use Rattle.rb_tree.specs.declared.syntax.Modifier.{Modifier}
use Rattle.rb_tree.specs.declared.syntax.Modifier.TheVariants as modifier
use Rattle.rb_tree.specs.declared.syntax.Test.TheVariants as sense
use Rattle.rb_tree.specs.declared.syntax.Node.TheOpen.{Node-F}
use Rattle.rb_views.specs.Calls.{arguments_of}
use Rattle.srb_judgement.specs.Assignments.{assigned, operator_assigned}
use Rattle.srb_judgement.specs.Branches.{if_judged, modified_if}
use Rattle.srb_judgement.specs.Calls.{call_on, call_untyped, send}
use Rattle.srb_judgement.specs.Cases.{case_judged}
use Rattle.srb_judgement.specs.Chains.{operands_of}
use Rattle.srb_judgement.specs.Guards.{guard_judged}
use Rattle.srb_judgement.specs.Jumps.{jump_judged}
use Rattle.srb_judgement.specs.Languages.{Language}
use Rattle.srb_judgement.specs.Loops.{loop_judged, modified_loop}
use Rattle.srb_judgement.specs.Operators.{binary_judged, unary_judged}
use Rattle.srb_judgement.specs.Parts.{Operand, Part, Ending, EndsInName, EndsInCall, EndsInYield, EndsInSuper}
use Rattle.srb_judgement.specs.Reaching.{expression, condition}
use Rattle.srb_judgement.specs.Sequences.{body}
use Rattle.srb_judgement.specs.States.{Run, judged, is_visible}
use Rattle.srb_judgement.specs.Types.{nil_type}
use Rattle.srb_judgement.specs.Words.{literal, text, array, hash, self_word, constant, variable, instance_variable}
use Rattle.srb_judgement.specs.Spellings.{chain_at}
use Rattle.srb_judgement.specs.Variables.{part_operand}

module _ {T X : Type 0} (L : Language T X) where
  -- ---- names

  -- "a local variable where a parameter of that name, or an assignment to it, begins earlier ..; else it is a call on `self`"
  abbrev pub name_by : Bool → List ℕ → Span → Run T
  name_by true name span c s = variable L name c s
  name_by false name span c s = call_on L c.self_type name span [] None c s

  abbrev pub name_judged : List ℕ → Span → Run T
  name_judged name span c s = name_by (is_visible c name) name span c s

  -- ---- commands and calls on `self`

  -- a call on `self` that does not say so
  abbrev pub own_call : List ℕ → Span → List (Argument (Operand T X)) → Option (Block (Part T X)) → Run T
  own_call name place arguments b c s = call_on L c.self_type name place arguments b c s

  -- "`yield` and `super` judge their arguments and are `T.untyped`"; any other command is a call
  abbrev pub command : Ending T X → List (Argument (Operand T X)) → Option (Block (Part T X)) → Span → Run T
  command (EndsInName name place) arguments b span = own_call name place arguments b
  command (EndsInCall o how name place) arguments b span = send L o how name place arguments b span
  command EndsInYield arguments b span = call_untyped L arguments b
  command EndsInSuper arguments b span = call_untyped L arguments b
  command _ arguments b span = call_untyped L arguments b

  -- ---- nodes

  -- a statement with a modifier
  abbrev pub modified : Modifier → Part T X → Part T X → Run T
  modified modifier.If statement condition = modified_if L sense.Positive statement condition
  modified modifier.Unless statement condition = modified_if L sense.Negative statement condition
  modified modifier.While statement condition = modified_loop L sense.Positive statement condition
  modified modifier.Until statement condition = modified_loop L sense.Negative statement condition

  -- A declaration changes no environment, has `NilClass` and never gets 7006.
  abbrev pub declaration : Run T
  declaration c s = judged (nil_type L) s

  -- Each expression is judged at its own place; a body and a declaration are none.
  abbrev pub judge_at : Node-F (Part T X) (Part T X) → Run T
  judge_at (Node-F.Body statements span) = body L statements
  judge_at (Node-F.Modified statement m cond span) = expression L span (modified m statement cond)
  judge_at (Node-F.Jump word value span) = expression L span (jump_judged L word value span)
  judge_at (Node-F.Assign target value span) = expression L span (assigned L target.ending value.it)
  judge_at (Node-F.OperatorAssign target operator place value span) =
      expression L span (operator_assigned L target.ending operator place value.it span)
  judge_at (Node-F.Command callee arguments b span) = expression L span (command callee.ending (operands_of arguments) b span)
  judge_at (Node-F.Conditional cond positive negative span) =
      expression L span (if_judged L sense.Positive cond positive [] (Some negative))
  judge_at (Node-F.Binary operator place left right span) = expression L span (binary_judged L operator place left right)
  judge_at (Node-F.Unary operator operand span) = expression L span (unary_judged L operator operand.it span)
  judge_at (Node-F.Post receiver suffixes span) = expression L span (chain_at L receiver suffixes).it.judge
  judge_at (Node-F.Whole sign words span) = expression L span (literal L (codes "Integer"))
  judge_at (Node-F.Float sign words span) = expression L span (literal L (codes "Float"))
  judge_at (Node-F.Text pieces span) = expression L span (text L pieces)
  judge_at (Node-F.Symbol words span) = expression L span (literal L (codes "Symbol"))
  judge_at (Node-F.InstanceVariable name span) = expression L span (instance_variable L name span)
  judge_at (Node-F.Constant name span) = expression L span (constant L (name ∷ []))
  judge_at (Node-F.TopConstant name name_span span) = expression L span (constant L ([] ∷ name ∷ []))
  judge_at (Node-F.SelfWord span) = expression L span (self_word L)
  judge_at (Node-F.Nil span) = expression L span (literal L (codes "NilClass"))
  judge_at (Node-F.True span) = expression L span (literal L (codes "TrueClass"))
  judge_at (Node-F.False span) = expression L span (literal L (codes "FalseClass"))
  judge_at (Node-F.Name name span) = expression L span (name_judged name span)
  judge_at (Node-F.Call name place arguments b span) =
      expression L span (own_call name place (operands_of (arguments_of arguments)) b)
  judge_at (Node-F.Yield arguments span) = expression L span (call_untyped L (operands_of (arguments_of arguments)) None)
  judge_at (Node-F.Super arguments span) = expression L span (call_untyped L (operands_of (arguments_of arguments)) None)
  judge_at (Node-F.Array elements span) = expression L span (array L (map part_operand elements))
  judge_at (Node-F.Hash pairs span) = expression L span (hash L pairs)
  judge_at (Node-F.Parens inner span) = expression L span inner.it.judge
  judge_at (Node-F.If which cond inner arms otherwise span) = expression L span (if_judged L which cond inner arms otherwise)
  judge_at (Node-F.While which cond inner span) = expression L span (loop_judged L which cond inner)
  judge_at (Node-F.Case subject whens otherwise span) = expression L span (case_judged L subject whens otherwise)
  judge_at (Node-F.Begin guarded span) = expression L span (guard_judged L guarded)
  judge_at (Node-F.Class path superclass inner span) = declaration
  judge_at (Node-F.Module path inner span) = declaration
  judge_at (Node-F.Def visibility own name name_span parameters guarded span) = declaration
