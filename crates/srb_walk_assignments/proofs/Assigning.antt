-- Assignments: what a step gives is what the definitions say.
use Rattle.std.proofs.Common.{◌≡◌, ℕ, List, [], ◌∷◌, codes, None, refl, sym, ap, ◌∙◌}
use Rattle.srb_terms.specs.declared.span.Span.{Span}
use Rattle.srb_terms.specs.declared.ty.Ty.{Ty}
use Rattle.rb_tree.specs.Trees.{span_of}
use Rattle.rb_tree.specs.declared.syntax.Argument.{Argument}
use Rattle.rb_tree.specs.declared.syntax.Binary.{Binary}
use Rattle.rb_tree.specs.declared.syntax.Binary.TheVariants as binary
use Rattle.rb_tree.specs.declared.syntax.Tree.{Tree}
use Rattle.srb_judgement.specs.Assignments.{writer, value_after, index_after, attribute_after, to_variable, to_instance_variable, to_call, after_read, operated, reading, operated_call, operated_attribute, operated_index}
use Rattle.srb_judgement.specs.Calls.{Arguments, no_arguments, judge_arguments, declared_by, call_with}
use Rattle.srb_judgement.specs.Judgements.{part_of}
use Rattle.srb_judgement.specs.Languages.{Language}
use Rattle.srb_judgement.specs.Narrowing.{Says, SaysTruthy, SaysNothing, saying}
use Rattle.srb_judgement.specs.Operators.{after_left, and_after, or_after, method_name}
use Rattle.srb_judgement.specs.Parts.{Operand}
use Rattle.srb_judgement.specs.Reaching.{excluding}
use Rattle.srb_judgement.specs.States.{Context, State, Judged, Tested, Run, judged, seeing}
use Rattle.srb_judgement.specs.Views.{settled}
use Rattle.srb_judgement.specs.Words.{type_at, variable, instance_variable}
use Rattle.srb_walk.proofs.Writing.{span_told}
use Rattle.srb_walk.specs.Judging.{judge_of}
use Rattle.srb_walk_assignments.specs.Operated.{closed_read, operated_inside, operated_read, operated_variable, operated_instance_variable}

module _ {X : Type 0} (L : Language Ty X) where
  -- ---- values that are written

  pub variable_assigned : (t : Tree) (name : List ℕ) (place : Span) (c : Context Ty) (s : State Ty) (ty done : Judged Ty) →
      place ≡ span_of t → ty ≡ judge_of L t (seeing (name ∷ []) c) s → done ≡ to_variable L name place c ty →
      done ≡ to_variable L name (part_of L t).it.span c (judge_of L t (seeing (name ∷ []) c) s)
  variable_assigned t name place c s ty done at by h =
      h ∙ (λ i. to_variable L name ((at ∙ sym (span_told L t)) i) c (by i))

  pub instance_variable_assigned : (t : Tree) (name : List ℕ) (place : Span) (c : Context Ty) (s : State Ty) (ty done : Judged Ty) →
      place ≡ span_of t → ty ≡ judge_of L t c s → done ≡ to_instance_variable L name place c ty →
      done ≡ to_instance_variable L name (part_of L t).it.span c (judge_of L t c s)
  instance_variable_assigned t name place c s ty done at by h =
      h ∙ (λ i. to_instance_variable L name ((at ∙ sym (span_told L t)) i) c (by i))

  pub value_written : (t : Tree) (receiver : Ty) (name : List ℕ) (name_span place : Span) (c : Context Ty) (a : Arguments Ty) (s : State Ty) (ty done : Judged Ty) →
      place ≡ span_of t → ty ≡ judge_of L t c a.state →
      done ≡ to_call L receiver name name_span (record { positional = a.positional; keys = a.keys; state = s }) place c ty →
      done ≡ value_after L receiver name name_span (part_of L t).it c a
  value_written t receiver name name_span place c a s ty done at by h =
      h ∙ (λ i. to_call L receiver name name_span a ((at ∙ sym (span_told L t)) i) c (by i))

  pub index_assigned : (e : Operand Ty X) (receiver : Ty) (row : List (Argument (Operand Ty X))) (at : Span) (c around : Context Ty) (s : State Ty) (a : Arguments Ty) →
      a ≡ judge_arguments row c (no_arguments s) → around ≡ seeing (declared_by row) c →
      value_after L receiver (codes "[]=") at e around a ≡ index_after L row at e c (judged receiver s)
  index_assigned e receiver row at c around s a by k = λ i. value_after L receiver (codes "[]=") at e (k i) (by i)

  pub index_assigned_in : (e : Operand Ty X) (row : List (Argument (Operand Ty X))) (at : Span) (c around : Context Ty) (before j : Judged Ty) →
      around ≡ c → before ≡ j → index_after L row at e around before ≡ index_after L row at e c j
  index_assigned_in e row at c around before j k by = λ i. index_after L row at e (k i) (by i)

  -- ---- what was read

  -- as a condition: it goes by what is settled of it
  pub read_is : (says : Says Ty) (j : Judged Ty) (t u : Tested Ty) →
      settled t ≡ settled (saying L says j) → u ≡ excluding L t → settled u ≡ settled (excluding L (saying L says j))
  read_is says j t u h e = ap (λ x. settled x) e ∙ (λ i. settled (excluding L (h i)))

  pub or_read : (run : Run Ty) (c : Context Ty) (t u : Tested Ty) (r : Judged Ty) →
      settled t ≡ settled u → r ≡ or_after L run c t → r ≡ or_after L run c u
  or_read run c t u r by h = h ∙ (λ i. or_after L run c (by i))

  pub and_read : (run : Run Ty) (c : Context Ty) (t u : Tested Ty) (r : Judged Ty) →
      settled t ≡ settled u → r ≡ and_after L run c t → r ≡ and_after L run c u
  and_read run c t u r by h = h ∙ (λ i. and_after L run c (by i))

  pub method_read : (e : Operand Ty X) (name : List ℕ) (place : Span) (c : Context Ty) (read : Ty) (s : State Ty) (j r : Judged Ty) →
      j ≡ closed_read L read s → r ≡ after_left L e name place c j → r ≡ after_read L name place e c (closed_read L read s)
  method_read e name place c read s j r by h = h ∙ (λ i. after_left L e name place c (by i))

  -- an operator that is a call
  pub by_method : (operator : Binary) (place : Span) (says : Says Ty) (read : Judged Ty) (e : Operand Ty X) (c : Context Ty) →
      (operator ≡ binary.Or → ⊥) → (operator ≡ binary.And → ⊥) →
      after_read L (method_name operator) place e c (closed_read L read.ty read.state) ≡ operated_inside L operator place says read e c
  by_method binary.Or place says read e c no_or no_and = absurd (no_or refl)
  by_method binary.And place says read e c no_or no_and = absurd (no_and refl)
  by_method binary.Equal place says read e c no_or no_and = refl
  by_method binary.NotEqual place says read e c no_or no_and = refl
  by_method binary.CaseEqual place says read e c no_or no_and = refl
  by_method binary.Compare place says read e c no_or no_and = refl
  by_method binary.Less place says read e c no_or no_and = refl
  by_method binary.Greater place says read e c no_or no_and = refl
  by_method binary.LessEqual place says read e c no_or no_and = refl
  by_method binary.GreaterEqual place says read e c no_or no_and = refl
  by_method binary.Pipe place says read e c no_or no_and = refl
  by_method binary.Caret place says read e c no_or no_and = refl
  by_method binary.Ampersand place says read e c no_or no_and = refl
  by_method binary.ShiftLeft place says read e c no_or no_and = refl
  by_method binary.ShiftRight place says read e c no_or no_and = refl
  by_method binary.Plus place says read e c no_or no_and = refl
  by_method binary.Minus place says read e c no_or no_and = refl
  by_method binary.Star place says read e c no_or no_and = refl
  by_method binary.Slash place says read e c no_or no_and = refl
  by_method binary.Percent place says read e c no_or no_and = refl
  by_method binary.Power place says read e c no_or no_and = refl

  -- ---- to an attribute

  pub attribute_is : (e : Operand Ty X) (receiver : Ty) (name text : List ℕ) (at : Span) (c around : Context Ty) (s : State Ty) (a : Arguments Ty) (j : Judged Ty) →
      a ≡ no_arguments s → text ≡ writer name → around ≡ c → judged receiver s ≡ j →
      value_after L receiver text at e around a ≡ attribute_after L name at e c j
  attribute_is e receiver name text at c around s a j none n k by =
      (λ i. value_after L receiver (n i) at e (k i) (none i))
      ∙ (λ i. value_after L (by i).ty (writer name) at e c (no_arguments (by i).state))

  -- an operator by what was read before it
  pub operated_is : (operator : Binary) (place : Span) (says : Says Ty) (run : Run Ty) (e : Operand Ty X) (c : Context Ty) (s : State Ty) →
      operated_read L operator place says (run c s) e c ≡ operated L operator place says run e c s
  operated_is binary.Or place says run e c s = refl
  operated_is binary.And place says run e c s = refl
  operated_is binary.Equal place says run e c s = refl
  operated_is binary.NotEqual place says run e c s = refl
  operated_is binary.CaseEqual place says run e c s = refl
  operated_is binary.Compare place says run e c s = refl
  operated_is binary.Less place says run e c s = refl
  operated_is binary.Greater place says run e c s = refl
  operated_is binary.LessEqual place says run e c s = refl
  operated_is binary.GreaterEqual place says run e c s = refl
  operated_is binary.Pipe place says run e c s = refl
  operated_is binary.Caret place says run e c s = refl
  operated_is binary.Ampersand place says run e c s = refl
  operated_is binary.ShiftLeft place says run e c s = refl
  operated_is binary.ShiftRight place says run e c s = refl
  operated_is binary.Plus place says run e c s = refl
  operated_is binary.Minus place says run e c s = refl
  operated_is binary.Star place says run e c s = refl
  operated_is binary.Slash place says run e c s = refl
  operated_is binary.Percent place says run e c s = refl
  operated_is binary.Power place says run e c s = refl

  pub variable_operated : (e : Operand Ty X) (name said : List ℕ) (operator : Binary) (place : Span) (c : Context Ty) (s : State Ty) (read : Ty) (r : Judged Ty) →
      read ≡ type_at L s.environment name → said ≡ name → r ≡ operated_read L operator place (SaysTruthy said) (judged read s) e c →
      r ≡ operated_variable L name operator place e c s
  variable_operated e name said operator place c s read r is n h =
      h ∙ (λ i. operated_read L operator place (SaysTruthy (n i)) (judged (is i) s) e c)
      ∙ operated_is operator place (SaysTruthy name) (variable L name) e c s

  pub instance_variable_operated : (e : Operand Ty X) (name : List ℕ) (at : Span) (operator : Binary) (place whole : Span) (c : Context Ty) (s : State Ty) (read ty done : Judged Ty) →
      read ≡ instance_variable L name at c s →
      ty ≡ operated_read L operator place SaysNothing read e c →
      done ≡ to_instance_variable L name whole c ty →
      done ≡ to_instance_variable L name whole c (operated_instance_variable L name at operator place e c s)
  instance_variable_operated e name at operator place whole c s read ty done r o h =
      h ∙ ap (λ j. to_instance_variable L name whole c j)
      (o ∙ ap (λ j. operated_read L operator place SaysNothing j e c) r
      ∙ operated_is operator place SaysNothing (instance_variable L name at) e c s)

  pub call_operated : (e : Operand Ty X) (receiver : Ty) (reader name : List ℕ) (at : Span) (a : Arguments Ty) (operator : Binary) (place whole : Span) (c : Context Ty) (s : State Ty) (read ty done : Judged Ty) →
      read ≡ call_with L None receiver reader at c a →
      ty ≡ operated_read L operator place SaysNothing read e c →
      done ≡ to_call L receiver name at (record { positional = a.positional; keys = a.keys; state = s }) whole c ty →
      done ≡ operated_call L receiver reader name at a operator place e whole c
  call_operated e receiver reader name at a operator place whole c s read ty done r o h =
      h ∙ ap (λ j. to_call L receiver name at a whole c j)
      (o ∙ ap (λ j. operated_read L operator place SaysNothing j e c) r
      ∙ operated_is operator place SaysNothing (reading L receiver reader at a) e c a.state)

  pub operated_attribute_is : (e : Operand Ty X) (operator : Binary) (place whole : Span) (receiver : Ty) (name text : List ℕ) (at : Span) (c around : Context Ty) (s : State Ty) (a : Arguments Ty) (j : Judged Ty) →
      a ≡ no_arguments s → text ≡ writer name → around ≡ c → judged receiver s ≡ j →
      operated_call L receiver name text at a operator place e whole around ≡ operated_attribute L name at operator place e whole c j
  operated_attribute_is e operator place whole receiver name text at c around s a j none n k by =
      (λ i. operated_call L receiver name (n i) at (none i) operator place e whole (k i))
      ∙ (λ i. operated_call L (by i).ty name (writer name) at (no_arguments (by i).state) operator place e whole c)

  pub operated_index_is : (e : Operand Ty X) (operator : Binary) (place whole : Span) (receiver : Ty) (reader text : List ℕ) (row : List (Argument (Operand Ty X))) (at : Span) (c around : Context Ty) (s : State Ty) (a : Arguments Ty) →
      a ≡ judge_arguments row c (no_arguments s) → reader ≡ codes "[]" → text ≡ codes "[]=" → around ≡ seeing (declared_by row) c →
      operated_call L receiver reader text at a operator place e whole around ≡ operated_index L row at operator place e whole c (judged receiver s)
  operated_index_is e operator place whole receiver reader text row at c around s a by m n k =
      λ i. operated_call L receiver (m i) (n i) at (by i) operator place e whole (k i)

  pub index_is : (e : Operand Ty X) (operator : Binary) (place whole : Span) (receiver : Ty) (row : List (Argument (Operand Ty X))) (at : Span) (c around : Context Ty) (s : State Ty) (j : Judged Ty) →
      around ≡ c → judged receiver s ≡ j →
      operated_index L row at operator place e whole around (judged receiver s) ≡ operated_index L row at operator place e whole c j
  index_is e operator place whole receiver row at c around s j k by = λ i. operated_index L row at operator place e whole (k i) (by i)
