-- Assignments, and those with an operator: "`t op= e` is `t = t op e`, `t ||= e` is `t = t || e`, `t &&= e` is `t = t && e`; the receiver
-- and index of t are judged once."
use Rattle.std.specs.Prelude.{ℕ, List, [], ◌∷◌, ◌++◌, codes, Option, Some, None}
use Rattle.srb_terms.specs.declared.span.Span.{Span}
use Rattle.rb_tree.specs.declared.syntax.Argument.{Argument}
use Rattle.rb_tree.specs.declared.syntax.Argument.TheVariants as argument
use Rattle.rb_tree.specs.declared.syntax.Binary.{Binary}
use Rattle.rb_tree.specs.declared.syntax.Binary.TheVariants as binary
use Rattle.srb_judgement.specs.Calls.{Arguments, no_arguments, judge_arguments, declared_by, call_with, call_on}
use Rattle.srb_judgement.specs.Errors.{wrong_type}
use Rattle.srb_judgement.specs.Languages.{Language}
use Rattle.srb_judgement.specs.Narrowing.{Says, SaysTruthy, SaysNothing, saying}
use Rattle.srb_judgement.specs.Operators.{method_name, and_judged, or_judged}
use Rattle.srb_judgement.specs.Parts.{Operand, Ending, EndsInName, EndsInInstanceVariable, EndsInConstant, EndsInCall, EndsInIndex, EndsInYield, EndsInSuper, EndsOtherwise}
use Rattle.srb_judgement.specs.Pins.{assign}
use Rattle.srb_judgement.specs.Reaching.{closed, excluding}
use Rattle.srb_judgement.specs.States.{Context, Judged, Run, Test, judged, seeing, unless_error}
use Rattle.srb_judgement.specs.Words.{variable, instance_variable}

-- the name of the method that writes
abbrev pub writer : List ℕ → List ℕ
writer name = name ++ codes "="

module _ {T X : Type 0} (L : Language T X) where
  -- ---- a value that was judged is written; the place is that of the assigned expression

  -- "`x = e` has e's type and gives it to x", subject to the pins
  abbrev pub to_variable : List ℕ → Span → Context T → Judged T → Judged T
  to_variable name place c e = judged e.ty (assign L c name e.ty place e.state)

  -- "`@x = e` with a declared X needs a subtype of X, else 7007 at e."
  abbrev pub checked_by : Option T → Span → Judged T → Judged T
  checked_by (Some x) place e = judged e.ty (unless_error (L.is_sub e.ty x) (wrong_type L place x e.ty) e.state)
  checked_by None place e = e

  abbrev pub to_instance_variable : List ℕ → Span → Context T → Judged T → Judged T
  to_instance_variable name place c e = checked_by (L.instance_variable c.owner c.meta name) place e

  -- a call that writes this value, after these arguments: "their type is e's"
  abbrev pub written : T → Judged T → Judged T
  written ty call = judged ty call.state

  abbrev pub with_value : Arguments T → Span → Judged T → Arguments T
  with_value a place e =
      record { positional = a.positional ++ record { ty = e.ty; span = place } ∷ []; keys = a.keys; state = e.state }

  abbrev pub to_call : T → List ℕ → Span → Arguments T → Span → Context T → Judged T → Judged T
  to_call receiver name name_span a place c e =
      written e.ty (call_with L None receiver name name_span c (with_value a place e))

  -- ---- `t = e`

  abbrev pub value_after : T → List ℕ → Span → Operand T X → Context T → Arguments T → Judged T
  value_after receiver name name_span e c a = to_call receiver name name_span a e.span c (e.judge c a.state)

  -- "`a[i] = e` .. calls of `[]=`"
  abbrev pub index_after : List (Argument (Operand T X)) → Span → Operand T X → Context T → Judged T → Judged T
  index_after arguments bracket e c a =
      value_after a.ty (codes "[]=") bracket e (seeing (declared_by arguments) c) (judge_arguments arguments c (no_arguments a.state))

  -- "`a.b = e` .. calls of `b=`"
  abbrev pub attribute_after : List ℕ → Span → Operand T X → Context T → Judged T → Judged T
  attribute_after name name_span e c a = value_after a.ty (writer name) name_span e c (no_arguments a.state)

  abbrev pub assigned : Ending T X → Operand T X → Run T
  assigned (EndsInName name span) e c s = to_variable name e.span c (e.judge (seeing (name ∷ []) c) s)
  assigned (EndsInInstanceVariable name span) e c s = to_instance_variable name e.span c (e.judge c s)
  assigned (EndsInCall a how name span) e c s = attribute_after name span e (seeing a.declares c) (a.judge c s)
  assigned (EndsInIndex a arguments bracket) e c s = index_after arguments bracket e (seeing a.declares c) (a.judge c s)
  assigned EndsInConstant e c s = e.judge c s
  assigned EndsInYield e c s = e.judge c s
  assigned EndsInSuper e c s = e.judge c s
  assigned EndsOtherwise e c s = e.judge c s

  -- ---- `t op= e`

  -- the target as a condition, after it was read
  abbrev pub read_test : Says T → Run T → Test T
  read_test says read c s = excluding L (saying L says (read c s))

  abbrev pub read_closed : Run T → Run T
  read_closed read c s = closed L (read c s)

  abbrev pub after_read : List ℕ → Span → Operand T X → Context T → Judged T → Judged T
  after_read name place e c t = call_on L t.ty name place (argument.Positional e ∷ []) None c t.state

  -- `t op e`: "its method name is the operator token; the argument is `e`"
  abbrev pub operated : Binary → Span → Says T → Run T → Operand T X → Run T
  operated binary.Or place says read e c s = closed L (or_judged L (read_test says read) [] e.judge c s)
  operated binary.And place says read e c s = closed L (and_judged L (read_test says read) [] e.judge c s)
  operated operator place says read e c s = closed L (after_read (method_name operator) place e c (closed L (read c s)))

  -- the call that reads the target, after its receiver and index were judged
  abbrev pub reading : T → List ℕ → Span → Arguments T → Run T
  reading receiver name name_span a c s =
      call_with L None receiver name name_span c (record { positional = a.positional; keys = a.keys; state = s })

  abbrev pub operated_call : T → List ℕ → List ℕ → Span → Arguments T → Binary → Span → Operand T X → Span → Context T → Judged T
  operated_call receiver reader name name_span a operator place e whole c =
      to_call receiver name name_span a whole c
      (operated operator place SaysNothing (reading receiver reader name_span a) e c a.state)

  abbrev pub operated_attribute : List ℕ → Span → Binary → Span → Operand T X → Span → Context T → Judged T → Judged T
  operated_attribute name name_span operator place e whole c a =
      operated_call a.ty name (writer name) name_span (no_arguments a.state) operator place e whole c

  abbrev pub operated_index : List (Argument (Operand T X)) → Span → Binary → Span → Operand T X → Span → Context T → Judged T → Judged T
  operated_index arguments bracket operator place e whole c a =
      operated_call a.ty (codes "[]") (codes "[]=") bracket (judge_arguments arguments c (no_arguments a.state)) operator place e whole
      (seeing (declared_by arguments) c)

  -- "`t op e` has the span of the whole statement"
  abbrev pub operator_assigned : Ending T X → Binary → Span → Operand T X → Span → Run T
  operator_assigned (EndsInName name span) operator place e whole c s =
      to_variable name whole c (operated operator place (SaysTruthy name) (variable L name) e (seeing (name ∷ []) c) s)
  operator_assigned (EndsInInstanceVariable name span) operator place e whole c s =
      to_instance_variable name whole c (operated operator place SaysNothing (instance_variable L name span) e c s)
  operator_assigned (EndsInCall a how name span) operator place e whole c s =
      operated_attribute name span operator place e whole (seeing a.declares c) (a.judge c s)
  operator_assigned (EndsInIndex a arguments bracket) operator place e whole c s =
      operated_index arguments bracket operator place e whole (seeing a.declares c) (a.judge c s)
  operator_assigned EndsInConstant operator place e whole c s = e.judge c s
  operator_assigned EndsInYield operator place e whole c s = e.judge c s
  operator_assigned EndsInSuper operator place e whole c s = e.judge c s
  operator_assigned EndsOtherwise operator place e whole c s = e.judge c s

  -- ---- as conditions

  -- "variable x, or `x = e`: x is `truthy`; x is `falsy`"; "as a condition `x op= e` narrows as `x = ..` does"
  abbrev pub target_says : Ending T X → Says T
  target_says (EndsInName name span) = SaysTruthy name
  target_says (EndsInInstanceVariable name span) = SaysNothing
  target_says (EndsInCall a how name span) = SaysNothing
  target_says (EndsInIndex a arguments bracket) = SaysNothing
  target_says EndsInConstant = SaysNothing
  target_says EndsInYield = SaysNothing
  target_says EndsInSuper = SaysNothing
  target_says EndsOtherwise = SaysNothing

  abbrev pub assigned_test : Ending T X → Run T → Test T
  assigned_test target run c s = saying L (target_says target) (run c s)
