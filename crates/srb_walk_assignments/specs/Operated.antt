-- Assignments with an operator, after the reading of the target.
use Rattle.std.specs.Prelude.{ℕ, List}
use Rattle.srb_terms.specs.declared.span.Span.{Span}
use Rattle.rb_tree.specs.declared.syntax.Binary.{Binary}
use Rattle.rb_tree.specs.declared.syntax.Binary.TheVariants as binary
use Rattle.srb_judgement.specs.Narrowing.{Says, SaysTruthy, SaysNothing, saying}
use Rattle.srb_judgement.specs.Assignments.{operated, after_read}
use Rattle.srb_judgement.specs.Reaching.{closed, excluding}
use Rattle.srb_judgement.specs.Languages.{Language}
use Rattle.srb_judgement.specs.Operators.{and_after, or_after, method_name}
use Rattle.srb_judgement.specs.Parts.{Operand}
use Rattle.srb_judgement.specs.States.{Context, State, Judged, Run, judged}
use Rattle.srb_judgement.specs.Words.{variable, instance_variable}

module _ {T X : Type 0} (L : Language T X) where
  -- ---- assignments with an operator, after the reading of the target

  abbrev pub closed_read : T → State T → Judged T
  closed_read read s = closed L (judged read s)

  abbrev pub operated_inside : Binary → Span → Says T → Judged T → Operand T X → Context T → Judged T
  operated_inside binary.Or place says read e c = or_after L e.judge c (excluding L (saying L says read))
  operated_inside binary.And place says read e c = and_after L e.judge c (excluding L (saying L says read))
  operated_inside operator place says read e c = after_read L (method_name operator) place e c (closed_read read.ty read.state)

  abbrev pub operated_read : Binary → Span → Says T → Judged T → Operand T X → Context T → Judged T
  operated_read operator place says read e c = closed L (operated_inside operator place says read e c)

  -- what an operator assigns to a variable, and to an instance variable
  abbrev pub operated_variable : List ℕ → Binary → Span → Operand T X → Run T
  operated_variable name operator place e c s = operated L operator place (SaysTruthy name) (variable L name) e c s

  abbrev pub operated_instance_variable : List ℕ → Span → Binary → Span → Operand T X → Run T
  operated_instance_variable name span operator place e c s = operated L operator place SaysNothing (instance_variable L name span) e c s
