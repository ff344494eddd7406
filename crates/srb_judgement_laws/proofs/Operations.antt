-- Operators and assignments keep what was fine, where their parts are.
use Rattle.std.proofs.Common.{ℕ, List, [], ◌∷◌, codes, Option, Some, None}
use Rattle.srb_terms.specs.declared.span.Span.{Span}
use Rattle.rb_tree.specs.declared.syntax.Argument.TheVariants as argument
use Rattle.rb_tree.specs.declared.syntax.Binary.{Binary}
use Rattle.rb_tree.specs.declared.syntax.Binary.TheVariants as binary
use Rattle.rb_tree.specs.declared.syntax.Unary.{Unary}
use Rattle.rb_tree.specs.declared.syntax.Unary.TheVariants as unary
use Rattle.rb_views.specs.Places.{prefix_operator}
use Rattle.srb_judgement.specs.Assignments.{writer, to_variable, checked_by, to_instance_variable, with_value, to_call, value_after, assigned, read_test, after_read, operated, reading, operated_call, operator_assigned}
use Rattle.srb_judgement.specs.Calls.{Arguments, no_arguments, judge_arguments, declared_by}
use Rattle.srb_judgement.specs.Errors.{wrong_type}
use Rattle.srb_judgement.specs.Languages.{Language}
use Rattle.srb_judgement.specs.Narrowing.{Says, SaysTruthy, SaysNothing}
use Rattle.srb_judgement.specs.Operators.{method_name, and_test, or_test, and_judged, or_judged, operator_judged, unary_judged, binary_judged, binary_test}
use Rattle.srb_judgement.specs.Parts.{Operand, Part, Ending, EndsInName, EndsInInstanceVariable, EndsInConstant, EndsInCall, EndsInIndex, EndsInYield, EndsInSuper, EndsOtherwise}
use Rattle.srb_judgement.specs.Reaching.{closed}
use Rattle.srb_judgement.specs.States.{Context, Judged, Run, Test, moved, seeing}
use Rattle.srb_judgement.specs.Words.{variable, instance_variable}
use Rattle.srb_judgement_laws.specs.Placed.{CallsStandAt}
use Rattle.srb_judgement_laws.proofs.Fine.{Fine, FineRun, FineTest, FineOperand, FinePart, FineEnding}
use Rattle.srb_judgement_laws.proofs.Runs.{each-append, unless-fine, assign-fine, closed-fine, instance-variable-fine}
use Rattle.srb_judgement_laws.proofs.Calls.{IsGivenAt, FineArguments, arguments-fine, call-with-fine, call-on-fine}

module _ {T X : Type 0} (L : Language T X) (P : Span → Type 0) (calls : CallsStandAt P L) where
  -- ---- operators

  and-test-fine : (a : Test T) (declared : List (List ℕ)) (b : Test T) → FineTest P a → FineTest P b → FineTest P (and_test L a declared b)
  and-test-fine a declared b ha hb c s k = hb (seeing declared c) (moved (a c s).truth (a c s).state) (ha c s k)

  or-test-fine : (a : Test T) (declared : List (List ℕ)) (b : Test T) → FineTest P a → FineTest P b → FineTest P (or_test L a declared b)
  or-test-fine a declared b ha hb c s k = hb (seeing declared c) (moved (a c s).falsehood (a c s).state) (ha c s k)

  and-fine : (a : Test T) (declared : List (List ℕ)) (b : Run T) → FineTest P a → FineRun P b → FineRun P (and_judged L a declared b)
  and-fine a declared b ha hb c s k = hb (seeing declared c) (moved (a c s).truth (a c s).state) (ha c s k)

  or-fine : (a : Test T) (declared : List (List ℕ)) (b : Run T) → FineTest P a → FineRun P b → FineRun P (or_judged L a declared b)
  or-fine a declared b ha hb c s k = hb (seeing declared c) (moved (a c s).falsehood (a c s).state) (ha c s k)

  operator-fine : (left : Operand T X) → FineOperand P left → (name : List ℕ) (place : Span) → P place → (right : Operand T X) → FineOperand P right →
      FineRun P (operator_judged L left name place right)
  operator-fine left hl name place hp right hr c s k =
      call-on-fine L P calls (argument.Positional right ∷ []) None (hr, tt) tt (left.judge c s).ty name place hp (seeing left.declares c) (left.judge c s).state (hl.run c s k)

  pub unary-fine : (operator : Unary) (o : Operand T X) (span : Span) → FineOperand P o → P (prefix_operator span) → FineRun P (unary_judged L operator o span)
  unary-fine unary.Minus o span h hp c s k =
      call-on-fine L P calls [] None tt tt (o.judge c s).ty (codes "-@") (prefix_operator span) hp (seeing o.declares c) (o.judge c s).state (h.run c s k)
  unary-fine unary.Plus o span h hp c s k =
      call-on-fine L P calls [] None tt tt (o.judge c s).ty (codes "+@") (prefix_operator span) hp (seeing o.declares c) (o.judge c s).state (h.run c s k)
  unary-fine unary.Tilde o span h hp c s k =
      call-on-fine L P calls [] None tt tt (o.judge c s).ty (codes "~") (prefix_operator span) hp (seeing o.declares c) (o.judge c s).state (h.run c s k)
  unary-fine unary.Not o span h hp c s k = h.run c s k

  pub binary-fine : (operator : Binary) (place : Span) (left right : Part T X) → P place → FinePart P left → FinePart P right →
      FineRun P (binary_judged L operator place left right)
  binary-fine binary.And place left right hp hl hr = and-fine left.test left.it.declares right.it.judge hl.test hr.it.run
  binary-fine binary.Or place left right hp hl hr = or-fine left.test left.it.declares right.it.judge hl.test hr.it.run
  binary-fine operator place left right hp hl hr = operator-fine left.it hl.it (method_name operator) place hp right.it hr.it

  pub binary-test-fine : (operator : Binary) (place : Span) (left right : Part T X) → P place → FinePart P left → FinePart P right →
      FineTest P (binary_test L operator place left right)
  binary-test-fine binary.And place left right hp hl hr = and-test-fine left.test left.it.declares right.test hl.test hr.test
  binary-test-fine binary.Or place left right hp hl hr = or-test-fine left.test left.it.declares right.test hl.test hr.test
  binary-test-fine operator place left right hp hl hr = operator-fine left.it hl.it (method_name operator) place hp right.it hr.it

  -- ---- a value is written

  to-variable-fine : (name : List ℕ) (place : Span) → P place → (c : Context T) (e : Judged T) → Fine P e.state → Fine P (to_variable L name place c e).state
  to-variable-fine name place h c e k = assign-fine L P c name e.ty place e.state h k

  checked-by-fine : (o : Option T) (place : Span) → P place → (e : Judged T) → Fine P e.state → Fine P (checked_by L o place e).state
  checked-by-fine (Some x) place h e k = unless-fine L P (L.is_sub e.ty x) (wrong_type L place x e.ty) e.state h k
  checked-by-fine None place h e k = k

  to-instance-fine : (name : List ℕ) (place : Span) → P place → (c : Context T) (e : Judged T) → Fine P e.state → Fine P (to_instance_variable L name place c e).state
  to-instance-fine name place h c e k = checked-by-fine (L.instance_variable c.owner c.meta name) place h e k

  to-call-fine : (receiver : T) (name : List ℕ) (span : Span) → P span → (a : Arguments T) → FineArguments P a → (place : Span) → P place →
      (c : Context T) (e : Judged T) → Fine P e.state → Fine P (to_call L receiver name span a place c e).state
  to-call-fine receiver name span hs a ka place hp c e k =
      call-with-fine L P calls None tt receiver name span hs c (with_value L a place e)
      (each-append (IsGivenAt P) a.positional (record { ty = e.ty; span = place } ∷ []) ka.0 (hp, tt), ka.1, k)

  -- ---- `t = e`

  module _ (e : Operand T X) (he : FineOperand P e) where
    value-after-fine : (receiver : T) (name : List ℕ) (span : Span) → P span → (c : Context T) (a : Arguments T) → FineArguments P a →
        Fine P (value_after L receiver name span e c a).state
    value-after-fine receiver name span hs c a ka = to-call-fine receiver name span hs a ka e.span he.place c (e.judge c a.state) (he.run c a.state ka.2)

    pub assigned-fine : (target : Ending T X) → FineEnding P target → FineRun P (assigned L target e)
    assigned-fine (EndsInName name span) h c s k = to-variable-fine name e.span he.place c (e.judge (seeing (name ∷ []) c) s) (he.run (seeing (name ∷ []) c) s k)
    assigned-fine (EndsInInstanceVariable name span) h c s k = to-instance-fine name e.span he.place c (e.judge c s) (he.run c s k)
    assigned-fine (EndsInCall a how name span) h c s k =
        value-after-fine (a.judge c s).ty (writer name) span h.1 (seeing a.declares c) (no_arguments (a.judge c s).state) (tt, tt, h.0.run c s k)
    assigned-fine (EndsInIndex a args bracket) h c s k =
        let inner : Context T = seeing a.declares c in
        let start : Arguments T = no_arguments (a.judge c s).state in
        value-after-fine (a.judge c s).ty (codes "[]=") bracket h.2 (seeing (declared_by args) inner) (judge_arguments args inner start)
        (arguments-fine P args h.1 inner start (tt, tt, h.0.run c s k))
    assigned-fine EndsInConstant h c s k = he.run c s k
    assigned-fine EndsInYield h c s k = he.run c s k
    assigned-fine EndsInSuper h c s k = he.run c s k
    assigned-fine EndsOtherwise h c s k = he.run c s k

    -- ---- `t op= e`

    module _ (place : Span) (hp : P place) where
      operated-fine : (operator : Binary) (says : Says T) (read : Run T) → FineRun P read → FineRun P (operated L operator place says read e)
      operated-fine binary.Or says read f c s k =
          closed-fine L P (or_judged L (read_test L says read) [] e.judge c s) (or-fine (read_test L says read) [] e.judge f he.run c s k)
      operated-fine binary.And says read f c s k =
          closed-fine L P (and_judged L (read_test L says read) [] e.judge c s) (and-fine (read_test L says read) [] e.judge f he.run c s k)
      operated-fine operator says read f c s k =
          let t : Judged T = closed L (read c s) in
          closed-fine L P (after_read L (method_name operator) place e c t)
          (call-on-fine L P calls (argument.Positional e ∷ []) None (he, tt) tt t.ty (method_name operator) place hp c t.state (closed-fine L P (read c s) (f c s k)))

      reading-fine : (receiver : T) (name : List ℕ) (span : Span) → P span → (a : Arguments T) → FineArguments P a → FineRun P (reading L receiver name span a)
      reading-fine receiver name span hs a ka c s k =
          call-with-fine L P calls None tt receiver name span hs c (record { positional = a.positional; keys = a.keys; state = s }) (ka.0, ka.1, k)

      module _ (operator : Binary) (whole : Span) (hw : P whole) where
        operated-call-fine : (receiver : T) (reader name : List ℕ) (span : Span) → P span → (a : Arguments T) → FineArguments P a → (c : Context T) →
            Fine P (operated_call L receiver reader name span a operator place e whole c).state
        operated-call-fine receiver reader name span hs a ka c =
            to-call-fine receiver name span hs a ka whole hw c (operated L operator place SaysNothing (reading L receiver reader span a) e c a.state)
            (operated-fine operator SaysNothing (reading L receiver reader span a) (reading-fine receiver reader span hs a ka) c a.state ka.2)

        pub operator-assigned-fine : (target : Ending T X) → FineEnding P target → FineRun P (operator_assigned L target operator place e whole)
        operator-assigned-fine (EndsInName name span) h c s k =
            to-variable-fine name whole hw c (operated L operator place (SaysTruthy name) (variable L name) e (seeing (name ∷ []) c) s)
            (operated-fine operator (SaysTruthy name) (variable L name) (λ c s k. k) (seeing (name ∷ []) c) s k)
        operator-assigned-fine (EndsInInstanceVariable name span) h c s k =
            to-instance-fine name whole hw c (operated L operator place SaysNothing (instance_variable L name span) e c s)
            (operated-fine operator SaysNothing (instance_variable L name span) (instance-variable-fine L P name span h) c s k)
        operator-assigned-fine (EndsInCall a how name span) h c s k =
            operated-call-fine (a.judge c s).ty name (writer name) span h.1 (no_arguments (a.judge c s).state) (tt, tt, h.0.run c s k) (seeing a.declares c)
        operator-assigned-fine (EndsInIndex a args bracket) h c s k =
            let inner : Context T = seeing a.declares c in
            let start : Arguments T = no_arguments (a.judge c s).state in
            operated-call-fine (a.judge c s).ty (codes "[]") (codes "[]=") bracket h.2 (judge_arguments args inner start)
            (arguments-fine P args h.1 inner start (tt, tt, h.0.run c s k)) (seeing (declared_by args) inner)
        operator-assigned-fine EndsInConstant h c s k = he.run c s k
        operator-assigned-fine EndsInYield h c s k = he.run c s k
        operator-assigned-fine EndsInSuper h c s k = he.run c s k
        operator-assigned-fine EndsOtherwise h c s k = he.run c s k
