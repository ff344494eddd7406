-- What is known of a node is fine, where what is known of the trees in it is, and the node's places are.
use Rattle.std.proofs.Common.{ℕ, Bool, true, false, ◌||◌, List, [], ◌∷◌, map, Option, Some, None}
use Rattle.std.specs.Option.{is_some}
use Rattle.srb_terms.specs.declared.span.Span.{Span}
use Rattle.rb_tree.specs.Trees.{span_at}
use Rattle.rb_tree.specs.declared.syntax.Argument.{Argument}
use Rattle.rb_tree.specs.declared.syntax.Block.{Block}
use Rattle.rb_tree.specs.declared.syntax.Guarded.{Guarded}
use Rattle.rb_tree.specs.declared.syntax.Modifier.{Modifier}
use Rattle.rb_tree.specs.declared.syntax.Modifier.TheVariants as modifier
use Rattle.rb_tree.specs.declared.syntax.Parameter.{Parameter}
use Rattle.rb_tree.specs.declared.syntax.PlacedName.{PlacedName}
use Rattle.rb_tree.specs.declared.syntax.Test.TheVariants as sense
use Rattle.rb_tree.specs.declared.syntax.Unary.{Unary}
use Rattle.rb_tree.specs.declared.syntax.Unary.TheVariants as unary
use Rattle.rb_tree.specs.declared.syntax.Node.TheOpen.{Node-F}
use Rattle.rb_views.specs.Calls.{arguments_of}
use Rattle.rb_views.specs.Places.{prefix_operator}
use Rattle.rb_grammar.specs.Places.{Each, IfThere}
use Rattle.srb_judgement.specs.Assignments.{assigned, operator_assigned}
use Rattle.srb_judgement.specs.Bodies.{declared_name, sig_missing, has_type, fresh, program_context, class_context, method_context, signature_by, sig_errors, param_type, with_default, declared_by, parameter_names, with_parameters, has_any, whole_place, result_place, last_checked, method_body, method_errors, class_errors, program_bodies, sig_before, inner_bodies, program_errors}
use Rattle.srb_judgement.specs.Branches.{if_judged}
use Rattle.srb_judgement.specs.Cases.{case_judged}
use Rattle.srb_judgement.specs.Chains.{operands_of}
use Rattle.srb_judgement.specs.Conditions.{name_test, command_test, unary_test, body_test, test_at}
use Rattle.srb_judgement.specs.Environments.{joined, is_live}
use Rattle.srb_judgement.specs.Errors.{wrong_default}
use Rattle.srb_judgement.specs.Expressions.{name_by, name_judged, own_call, command, modified, judge_at}
use Rattle.srb_judgement.specs.Guards.{guard_judged}
use Rattle.srb_judgement.specs.Judgements.{bodies_at, inner_at, in_class_at, part_at}
use Rattle.srb_judgement.specs.Jumps.{jump_judged}
use Rattle.srb_judgement.specs.Languages.{Language, Signature}
use Rattle.srb_judgement.specs.Loops.{loop_judged}
use Rattle.srb_judgement.specs.Operators.{binary_judged, binary_test, unary_judged}
use Rattle.srb_judgement.specs.Parts.{Operand, Part, Ending, EndsInName, EndsInCall, EndsInYield, EndsInSuper}
use Rattle.srb_judgement.specs.Reaching.{judged_only}
use Rattle.srb_judgement.specs.Spellings.{chain_at, ending_at, last_place, last_at}
use Rattle.srb_judgement.specs.States.{Context, State, Judged, moved, seeing, is_visible}
use Rattle.srb_judgement.specs.Words.{text, array, hash, instance_variable}
use Rattle.srb_judgement_laws.specs.Placed.{CallsStandAt}
use Rattle.srb_judgement_laws.proofs.Fine.{IsAt, All, Fine, FineRun, FineTest, FinePart, FineArgument, FineEnding, FineBlock, FineParameter, FineGuarded, FineNode}
use Rattle.srb_judgement_laws.proofs.Runs.{each-append, unless-fine, expression-fine, condition-fine, operands-fine, body-fine, class-body-fine, text-fine, array-fine, hash-fine, instance-variable-fine}
use Rattle.srb_judgement_laws.proofs.Branchings.{if-fine, modified-if-fine, loop-fine, modified-loop-fine, guard-fine, case-fine, checked-result-fine, jump-fine}
use Rattle.srb_judgement_laws.proofs.Calls.{operands-of-fine, given-fine, call-on-fine, call-untyped-fine, send-fine, chain-fine}
use Rattle.srb_judgement_laws.proofs.Operations.{unary-fine, binary-fine, binary-test-fine, assigned-fine, operator-assigned-fine}

module _ {T X : Type 0} (L : Language T X) (P : Span → Type 0) (calls : CallsStandAt P L) where
  -- ---- as a value

  name-by-fine : (b : Bool) (name : List ℕ) (span : Span) → P span → FineRun P (name_by L b name span)
  name-by-fine true name span h c s k = k
  name-by-fine false name span h c s k = call-on-fine L P calls [] None tt tt c.self_type name span h c s k

  name-fine : (name : List ℕ) (span : Span) → P span → FineRun P (name_judged L name span)
  name-fine name span h c s k = name-by-fine (is_visible c name) name span h c s k

  own-call-fine : (name : List ℕ) (place : Span) → P place → (args : List (Argument (Operand T X))) (b : Option (Block (Part T X))) → Each (FineArgument P) args →
      IfThere (FineBlock P) b → FineRun P (own_call L name place args b)
  own-call-fine name place h args b ha hb c s k = call-on-fine L P calls args b ha hb c.self_type name place h c s k

  command-fine : (ending : Ending T X) → FineEnding P ending → (args : List (Argument (Operand T X))) (b : Option (Block (Part T X))) (span : Span) → Each (FineArgument P) args →
      IfThere (FineBlock P) b → P span → FineRun P (command L ending args b span)
  command-fine (EndsInName name place) h args b span ha hb hs = own-call-fine name place h args b ha hb
  command-fine (EndsInCall o how name place) h args b span ha hb hs = send-fine L P calls o h.0 how name place h.1 args ha b hb span hs
  command-fine EndsInYield h args b span ha hb hs = call-untyped-fine L P calls args b ha hb
  command-fine EndsInSuper h args b span ha hb hs = call-untyped-fine L P calls args b ha hb
  command-fine _ h args b span ha hb hs = call-untyped-fine L P calls args b ha hb

  modified-fine : (m : Modifier) (statement condition : Part T X) → FinePart P statement → FinePart P condition → FineRun P (modified L m statement condition)
  modified-fine modifier.If statement condition hs hc = modified-if-fine L P sense.Positive statement condition hs hc
  modified-fine modifier.Unless statement condition hs hc = modified-if-fine L P sense.Negative statement condition hs hc
  modified-fine modifier.While statement condition hs hc = modified-loop-fine L P sense.Positive statement condition hs hc
  modified-fine modifier.Until statement condition hs hc = modified-loop-fine L P sense.Negative statement condition hs hc

  judge-fine : (n : Node-F (Part T X) (Part T X)) → FineNode P n → FineRun P (judge_at L n)
  judge-fine (Node-F.Body statements span) h = body-fine L P statements h.1
  judge-fine (Node-F.Modified statement m condition span) h =
      expression-fine L P span (modified L m statement condition) h.0 (modified-fine m statement condition h.1.0 h.1.1)
  judge-fine (Node-F.Jump word value span) h = expression-fine L P span (jump_judged L word value span) h.0 (jump-fine L P word value span h.1.0 h.1.1)
  judge-fine (Node-F.Assign target value span) h =
      expression-fine L P span (assigned L target.ending value.it) h.0 (assigned-fine L P calls value.it h.1.1.it target.ending h.1.0.ending)
  judge-fine (Node-F.OperatorAssign target operator place value span) h =
      expression-fine L P span (operator_assigned L target.ending operator place value.it span) h.0
      (operator-assigned-fine L P calls value.it h.1.2.it place h.1.1 operator span h.0 target.ending h.1.0.ending)
  judge-fine (Node-F.Command callee args b span) h =
      expression-fine L P span (command L callee.ending (operands_of args) b span) h.0
      (command-fine callee.ending h.1.0.ending (operands_of args) b span (operands-of-fine P args h.1.1) h.1.2 h.0)
  judge-fine (Node-F.Conditional condition positive negative span) h =
      expression-fine L P span (if_judged L sense.Positive condition positive [] (Some negative)) h.0
      (if-fine L P positive [] (Some negative) h.1.1 tt h.1.2 sense.Positive condition h.1.0)
  judge-fine (Node-F.Binary operator place left right span) h =
      expression-fine L P span (binary_judged L operator place left right) h.0 (binary-fine L P calls operator place left right h.1.0 h.1.1 h.1.2)
  judge-fine (Node-F.Unary operator operand span) h =
      expression-fine L P span (unary_judged L operator operand.it span) h.0 (unary-fine L P calls operator operand.it span h.1.1.it h.1.0)
  judge-fine (Node-F.Post receiver suffixes span) h =
      expression-fine L P span (chain_at L receiver suffixes).it.judge h.0 (chain-fine L P calls receiver.it suffixes h.1.0.it h.1.1).0.run
  judge-fine (Node-F.Text pieces span) h = expression-fine L P span (text L pieces) h.0 (text-fine L P pieces h.1)
  judge-fine (Node-F.InstanceVariable name span) h = expression-fine L P span (instance_variable L name span) h.0 (instance-variable-fine L P name span h.0)
  judge-fine (Node-F.Name name span) h = expression-fine L P span (name_judged L name span) h.0 (name-fine name span h.0)
  judge-fine (Node-F.Call name place args b span) h =
      expression-fine L P span (own_call L name place (operands_of (arguments_of args)) b) h.0
      (own-call-fine name place h.1.0 (operands_of (arguments_of args)) b (given-fine P args h.1.1) h.1.2)
  judge-fine (Node-F.Yield args span) h = expression-fine L P span _ h.0 (call-untyped-fine L P calls (operands_of (arguments_of args)) None (given-fine P args h.1) tt)
  judge-fine (Node-F.Super args span) h = expression-fine L P span _ h.0 (call-untyped-fine L P calls (operands_of (arguments_of args)) None (given-fine P args h.1) tt)
  judge-fine (Node-F.Array elements span) h =
      expression-fine L P span (array L (map (λ (p : Part T X). p.it) elements)) h.0
      (array-fine L P (map (λ (p : Part T X). p.it) elements) (operands-fine L P elements h.1))
  judge-fine (Node-F.Hash pairs span) h = expression-fine L P span (hash L pairs) h.0 (hash-fine L P pairs h.1)
  judge-fine (Node-F.Parens inner span) h = expression-fine L P span inner.it.judge h.0 h.1.it.run
  judge-fine (Node-F.If which condition inner arms otherwise span) h =
      expression-fine L P span (if_judged L which condition inner arms otherwise) h.0
      (if-fine L P inner arms otherwise h.1.1 h.1.2 h.1.3 which condition h.1.0)
  judge-fine (Node-F.While which condition inner span) h =
      expression-fine L P span (loop_judged L which condition inner) h.0 (loop-fine L P which condition inner h.1.0 h.1.1)
  judge-fine (Node-F.Case subject whens otherwise span) h =
      expression-fine L P span (case_judged L subject whens otherwise) h.0 (case-fine L P subject whens otherwise h.1.0 h.1.1 h.1.2)
  judge-fine (Node-F.Begin guarded span) h = expression-fine L P span (guard_judged L guarded) h.0 (guard-fine L P guarded h.1)
  judge-fine (Node-F.Class path superclass inner span) h = λ c s k. k
  judge-fine (Node-F.Module path inner span) h = λ c s k. k
  judge-fine (Node-F.Def visibility own name name_span parameters guarded span) h = λ c s k. k
  judge-fine (Node-F.Whole sign words span) h = expression-fine L P span _ h.0 (λ c s k. k)
  judge-fine (Node-F.Float sign words span) h = expression-fine L P span _ h.0 (λ c s k. k)
  judge-fine (Node-F.Symbol words span) h = expression-fine L P span _ h.0 (λ c s k. k)
  judge-fine (Node-F.Constant name span) h = expression-fine L P span _ h.0 (λ c s k. k)
  judge-fine (Node-F.TopConstant name name_span span) h = expression-fine L P span _ h.0 (λ c s k. k)
  judge-fine (Node-F.SelfWord span) h = expression-fine L P span _ h.0 (λ c s k. k)
  judge-fine (Node-F.Nil span) h = expression-fine L P span _ h.0 (λ c s k. k)
  judge-fine (Node-F.True span) h = expression-fine L P span _ h.0 (λ c s k. k)
  judge-fine (Node-F.False span) h = expression-fine L P span _ h.0 (λ c s k. k)

  -- ---- as a condition

  unary-test-fine : (operator : Unary) (operand : Part T X) (span : Span) → FinePart P operand → P (prefix_operator span) → FineTest P (unary_test L operator operand span)
  unary-test-fine unary.Not operand span h hp c s k = h.test c s k
  unary-test-fine operator operand span h hp c s k = unary-fine L P calls operator operand.it span h.it hp c s k

  body-test-fine : (ps : List (Part T X)) → Each (FinePart P) ps → FineTest P (body_test L ps)
  body-test-fine (p ∷ []) h = h.0.test
  body-test-fine [] h = body-fine L P [] h
  body-test-fine (p ∷ q ∷ ps) h = body-fine L P (p ∷ q ∷ ps) h

  test-fine : (n : Node-F (Part T X) (Part T X)) → FineNode P n → FineTest P (test_at L n)
  test-fine (Node-F.Body statements span) h = body-test-fine statements h.1
  test-fine (Node-F.Parens inner span) h = condition-fine L P span inner.test h.0 h.1.test
  test-fine (Node-F.Name name span) h = condition-fine L P span (name_test L name span) h.0 (name-fine name span h.0)
  test-fine (Node-F.Assign target value span) h =
      condition-fine L P span _ h.0 (assigned-fine L P calls value.it h.1.1.it target.ending h.1.0.ending)
  test-fine (Node-F.OperatorAssign target operator place value span) h =
      condition-fine L P span _ h.0 (operator-assigned-fine L P calls value.it h.1.2.it place h.1.1 operator span h.0 target.ending h.1.0.ending)
  test-fine (Node-F.Unary operator operand span) h = condition-fine L P span (unary_test L operator operand span) h.0 (unary-test-fine operator operand span h.1.1 h.1.0)
  test-fine (Node-F.Binary operator place left right span) h =
      condition-fine L P span (binary_test L operator place left right) h.0 (binary-test-fine L P calls operator place left right h.1.0 h.1.1 h.1.2)
  test-fine (Node-F.Post receiver suffixes span) h = condition-fine L P span _ h.0 (chain-fine L P calls receiver.it suffixes h.1.0.it h.1.1).0.run
  test-fine (Node-F.Command callee args b span) h =
      condition-fine L P span (command_test L callee.ending (operands_of args) b span) h.0
      (command-fine callee.ending h.1.0.ending (operands_of args) b span (operands-of-fine P args h.1.1) h.1.2 h.0)
  test-fine n h = condition-fine L P (span_at n) (judged_only (judge_at L n)) h.0 (judge-fine n h)

  -- ---- its end

  ending-fine : (n : Node-F (Part T X) (Part T X)) → FineNode P n → FineEnding P (ending_at L n)
  ending-fine (Node-F.Name name span) h = h.0
  ending-fine (Node-F.InstanceVariable name span) h = h.0
  ending-fine (Node-F.Post receiver suffixes span) h = (chain-fine L P calls receiver.it suffixes h.1.0.it h.1.1).1
  ending-fine (Node-F.Yield None span) h = tt
  ending-fine (Node-F.Super None span) h = tt
  ending-fine _ h = tt

  last-place-fine : (span : Span) (ps : List (Part T X)) → P span → Each (FinePart P) ps → P (last_place span ps)
  last-place-fine span [] h k = h
  last-place-fine span (p ∷ ps) h k = last-place-fine p.it.span ps k.0.it.place k.1

  last-fine : (n : Node-F (Part T X) (Part T X)) → FineNode P n → P (last_at n)
  last-fine (Node-F.Body statements span) h = last-place-fine span statements h.0 h.1
  last-fine _ h = h.0

  -- ---- methods

  default-fine : (method name : List ℕ) (ty : T) (d : Option (Part T X)) → IfThere (FinePart P) d → (c : Context T) (s : State T) → Fine P s →
      Fine P (with_default L method name ty d c s)
  default-fine method name ty None h c s k = k
  default-fine method name ty (Some d) h c s k =
      let j : Judged T = d.it.judge c s in
      unless-fine L P (L.is_sub j.ty ty) (wrong_default L d.it.span name method ty j.ty) (moved (joined L s.environment j.state.environment) j.state) h.it.place
      (h.it.run c s k)

  parameters-fine : (method : List ℕ) (sig : Signature T) (ps : List (Parameter (Part T X))) → Each (FineParameter P) ps → (c : Context T) (s : State T) → Fine P s →
      Fine P (with_parameters L method sig ps c s)
  parameters-fine method sig [] h c s k = k
  parameters-fine method sig (p ∷ ps) h c s k =
      let ty : T = param_type L sig.params p.name in
      let inner : Context T = seeing (p.name ∷ []) c in
      parameters-fine method sig ps h.1 (seeing (p.name ∷ declared_by L p.default) c) (with_default L method p.name ty p.default inner (has_type p.name ty s))
      (default-fine method p.name ty p.default h.0 inner (has_type p.name ty s) k)

  whole-place-fine : (b : Bool) (name last : Span) → P name → P last → P (whole_place L b name last)
  whole-place-fine true name last h k = h
  whole-place-fine false name last h k = k

  last-checked-fine : (b : Bool) (o : Option T) (place : Span) (j : Judged T) → P place → Fine P j.state → All P (last_checked L b o place j)
  last-checked-fine true o place j h k = checked-result-fine L P o place j.ty j.state h k
  last-checked-fine false o place j h k = k

  method-body-fine : (own : Bool) (name : List ℕ) (span : Span) → P span → (ps : List (Parameter (Part T X))) → Each (FineParameter P) ps → (g : Guarded (Part T X)) →
      FineGuarded P g → (scope : List (List ℕ)) (sig : Signature T) → All P (method_body L own name span ps g scope sig)
  method-body-fine own name span h ps hp g hg scope sig =
      let c : Context T = method_context L own scope sig.result in
      let start : State T = with_parameters L name sig ps c fresh in
      let j : Judged T = guard_judged L g (seeing (parameter_names L ps) c) start in
      last-checked-fine (is_live j.state.environment) sig.result (result_place L g span) j
      (whole-place-fine (has_any L g.rescues || is_some g.ensure || g.body.is_empty) span g.body.last h hg.0.last)
      (guard-fine L P g hg (seeing (parameter_names L ps) c) start (parameters-fine name sig ps hp c fresh tt))

  sig-missing-fine : (b : Bool) (name : List ℕ) (span : Span) → P span → All P (sig_missing b name span)
  sig-missing-fine false name span h = (h, tt)
  sig-missing-fine true name span h = tt

  method-fine : (own : Bool) (name : List ℕ) (span : Span) → P span → (ps : List (Parameter (Part T X))) → Each (FineParameter P) ps → (g : Guarded (Part T X)) →
      FineGuarded P g → (sig : Option X) (scope : List (List ℕ)) → All P (method_errors L own name span ps g sig scope)
  method-fine own name span h ps hp g hg sig scope =
      each-append (IsAt P) (sig_errors L sig name span) (method_body L own name span ps g scope (signature_by L sig scope ps)) (sig-missing-fine (is_some sig) name span h)
      (method-body-fine own name span h ps hp g hg scope (signature_by L sig scope ps))

  -- ---- classes, modules and the program

  class-fine : (path : List PlacedName) (p : Part T X) → FinePart P p → (scope : List (List ℕ)) → All P (class_errors L path p scope)
  class-fine path p h scope =
      let name : List ℕ = declared_name scope path in
      each-append (IsAt P) (p.in_class (class_context L name (name ∷ scope)) fresh).state.errors (p.inner (name ∷ scope))
      (h.in_class (class_context L name (name ∷ scope)) fresh tt) (h.inner (name ∷ scope))

  program-bodies-fine : (ps : List (Part T X)) → Each (FinePart P) ps → (scope : List (List ℕ)) → All P (program_bodies L ps scope)
  program-bodies-fine [] h scope = tt
  program-bodies-fine (p ∷ ps) h scope =
      each-append (IsAt P) (p.bodies None scope) (program_bodies L ps scope) (h.0.bodies None scope) (program-bodies-fine ps h.1 scope)

  inner-bodies-fine : (sig : Option X) (ps : List (Part T X)) → Each (FinePart P) ps → (scope : List (List ℕ)) → All P (inner_bodies L sig ps scope)
  inner-bodies-fine sig [] h scope = tt
  inner-bodies-fine sig (p ∷ ps) h scope =
      each-append (IsAt P) (p.bodies sig scope) (inner_bodies L (sig_before L p.standing p.it.text) ps scope) (h.0.bodies sig scope)
      (inner-bodies-fine (sig_before L p.standing p.it.text) ps h.1 scope)

  pub program-fine : (p : Part T X) → FinePart P p → All P (program_errors L p)
  program-fine p h =
      each-append (IsAt P) (p.it.judge (program_context L) fresh).state.errors (p.bodies None []) (h.it.run (program_context L) fresh tt) (h.bodies None [])

  bodies-fine : (n : Node-F (Part T X) (Part T X)) → FineNode P n → (sig : Option X) (scope : List (List ℕ)) → All P (bodies_at L n sig scope)
  bodies-fine (Node-F.Body statements span) h sig scope = program-bodies-fine statements h.1 scope
  bodies-fine (Node-F.Class path superclass inner span) h sig scope = class-fine path inner h.1 scope
  bodies-fine (Node-F.Module path inner span) h sig scope = class-fine path inner h.1 scope
  bodies-fine (Node-F.Def visibility own name name_span parameters guarded span) h sig scope =
      method-fine own name name_span h.1.0 parameters h.1.1 guarded h.1.2 sig scope
  bodies-fine _ h sig scope = tt

  inner-fine : (n : Node-F (Part T X) (Part T X)) → FineNode P n → (scope : List (List ℕ)) → All P (inner_at L n scope)
  inner-fine (Node-F.Body statements span) h scope = inner-bodies-fine None statements h.1 scope
  inner-fine _ h scope = tt

  in-class-at-fine : (n : Node-F (Part T X) (Part T X)) → FineNode P n → FineRun P (in_class_at L n)
  in-class-at-fine (Node-F.Body statements span) h = class-body-fine L P statements h.1
  in-class-at-fine n h = judge-fine n h

  -- ---- the step

  pub part-fine : (n : Node-F (Part T X) (Part T X)) → FineNode P n → FinePart P (part_at L n)
  unfolding part_at
  part-fine n h = record {
    it = record { place = h.0; run = judge-fine n h };
    test = test-fine n h;
    ending = ending-fine n h;
    last = last-fine n h;
    in_class = in-class-at-fine n h;
    bodies = bodies-fine n h;
    inner = inner-fine n h;
  }
