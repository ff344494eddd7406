-- Branches, loops, guards, cases and jumps keep what was fine, where their parts are.
use Rattle.std.proofs.Common.{ℕ, Bool, true, false, List, [], ◌∷◌, ◌++◌, map, Option, Some, None}
use Rattle.srb_terms.specs.declared.span.Span.{Span}
use Rattle.rb_tree.specs.declared.syntax.Arm.{Arm}
use Rattle.rb_tree.specs.declared.syntax.Guarded.{Guarded}
use Rattle.rb_tree.specs.declared.syntax.Jump.{Jump}
use Rattle.rb_tree.specs.declared.syntax.Jump.TheVariants as jump
use Rattle.rb_tree.specs.declared.syntax.PlacedName.{PlacedName}
use Rattle.rb_tree.specs.declared.syntax.Rescue.{Rescue}
use Rattle.rb_tree.specs.declared.syntax.Test as syntax
use Rattle.rb_tree.specs.declared.syntax.Test.TheVariants as sense
use Rattle.rb_tree.specs.declared.syntax.When.{When}
use Rattle.rb_views.specs.Places.{jump_word}
use Rattle.rb_grammar.specs.Places.{Each, IfThere}
use Rattle.srb_judgement.specs.Branches.{Branching, branching, turned, after_condition, with_arms, with_otherwise, if_after, if_judged, modified_if}
use Rattle.srb_judgement.specs.Cases.{Fitting, fitting, with_fit, test_of, fit_patterns, after_patterns, with_whens, case_after, case_judged}
use Rattle.srb_judgement.specs.Environments.{Environment, Live, Dead, Silent}
use Rattle.srb_judgement.specs.Errors.{wrong_result}
use Rattle.srb_judgement.specs.Guards.{Rescuing, caught_names, part_operand, handled, caught_type, caught, clause_body, with_clauses, with_else, ensured_whole, ensured_names, with_ensure, rescuing, guard_judged}
use Rattle.srb_judgement.specs.Jumps.{left_by, checked_result, checked_jump, jumped, jump_judged}
use Rattle.srb_judgement.specs.Languages.{Language}
use Rattle.srb_judgement.specs.Loops.{head, loop_after, loop_judged, modified_loop}
use Rattle.srb_judgement.specs.Parts.{Part}
use Rattle.srb_judgement.specs.Pins.{in_loop}
use Rattle.srb_judgement.specs.Sequences.{judge_all, all_declared}
use Rattle.srb_judgement.specs.States.{Context, State, Left, Judged, Tested, Test, judged, moved, seeing}
use Rattle.srb_judgement.specs.Types.{nil_type}
use Rattle.srb_judgement_laws.proofs.Fine.{Fine, FineRun, FineTest, FinePart, FineName, FineArm, FineWhen, FineRescue, FineGuarded}
use Rattle.srb_judgement_laws.proofs.Runs.{unless-fine, assign-fine, all-fine, operands-fine}

module _ {T X : Type 0} (L : Language T X) (P : Span → Type 0) where
  -- ---- branches

  turned-fine : (which : syntax.Test) (t : Tested T) → Fine P t.state → Fine P (turned which t).state
  turned-fine sense.Positive t k = k
  turned-fine sense.Negative t k = k

  after-condition-fine : (b : Part T X) → FinePart P b → (visible : List (List ℕ)) (c : Context T) (v : Branching T) (t : Tested T) → Fine P t.state →
      Fine P (after_condition L b visible c v t).state
  after-condition-fine b h visible c v t k = h.it.run (seeing visible c) (moved t.truth t.state) k

  arms-fine : (arms : List (Arm (Part T X))) → Each (FineArm P) arms → (c : Context T) (v : Branching T) → Fine P v.state → Fine P (with_arms L arms c v).state
  arms-fine [] h c v k = k
  arms-fine (a ∷ arms) h c v k =
      let t : Tested T = a.condition.test (seeing v.visible c) (moved v.rest v.state) in
      arms-fine arms h.1 c (after_condition L a.body (v.visible ++ a.condition.it.declares) c v t)
      (after-condition-fine a.body h.0.1 (v.visible ++ a.condition.it.declares) c v t (h.0.0.test (seeing v.visible c) (moved v.rest v.state) k))

  otherwise-fine : (o : Option (Part T X)) → IfThere (FinePart P) o → (c : Context T) (v : Branching T) → Fine P v.state → Fine P (with_otherwise L o c v).state
  otherwise-fine None h c v k = k
  otherwise-fine (Some e) h c v k = h.it.run (seeing v.visible c) (moved v.rest v.state) k

  module _ (b : Part T X) (arms : List (Arm (Part T X))) (o : Option (Part T X)) (hb : FinePart P b) (ha : Each (FineArm P) arms) (ho : IfThere (FinePart P) o) where
    if-after-fine : (visible : List (List ℕ)) (c : Context T) (t : Tested T) → Fine P t.state → Fine P (if_after L b arms o visible c t).state
    if-after-fine visible c t k =
        let first : Branching T = after_condition L b visible c (branching L t.falsehood t.state) t in
        otherwise-fine o ho c (with_arms L arms c first)
        (arms-fine arms ha c first (after-condition-fine b hb visible c (branching L t.falsehood t.state) t k))

    pub if-fine : (which : syntax.Test) (condition : Part T X) → FinePart P condition → FineRun P (if_judged L which condition b arms o)
    if-fine which condition h c s k =
        if-after-fine condition.it.declares c (turned which (condition.test c s)) (turned-fine which (condition.test c s) (h.test c s k))

  pub modified-if-fine : (which : syntax.Test) (b condition : Part T X) → FinePart P b → FinePart P condition → FineRun P (modified_if L which b condition)
  modified-if-fine which b condition hb h c s k =
      let t : Tested T = condition.test (seeing b.it.declares c) s in
      if-after-fine b [] None hb tt tt [] c (turned which t) (turned-fine which t (h.test (seeing b.it.declares c) s k))

  -- ---- loops

  loop-after-fine : (b : Part T X) → FinePart P b → (c : Context T) (before : State T) (t : Tested T) → Fine P t.state → Fine P (loop_after L b c before t).state
  loop-after-fine b h c before t k = h.it.run c (moved t.truth t.state) k

  pub loop-fine : (which : syntax.Test) (condition b : Part T X) → FinePart P condition → FinePart P b → FineRun P (loop_judged L which condition b)
  loop-fine which condition b h hb c s k =
      let inner : Context T = in_loop L s.environment c in
      let start : State T = head L (condition.it.assigns ++ b.it.assigns) c s in
      loop-after-fine b hb (seeing condition.it.declares inner) s (turned which (condition.test inner start))
      (turned-fine which (condition.test inner start) (h.test inner start k))

  pub modified-loop-fine : (which : syntax.Test) (b condition : Part T X) → FinePart P b → FinePart P condition → FineRun P (modified_loop L which b condition)
  modified-loop-fine which b condition hb h c s k =
      let inner : Context T = in_loop L s.environment c in
      let start : State T = head L (condition.it.assigns ++ b.it.assigns) c s in
      loop-after-fine b hb inner s (turned which (condition.test (seeing b.it.declares inner) start))
      (turned-fine which (condition.test (seeing b.it.declares inner) start) (h.test (seeing b.it.declares inner) start k))

  -- ---- guards

  caught-fine : (x : Option PlacedName) → IfThere (FineName P) x → (ty : T) (c : Context T) (s : State T) → Fine P s → Fine P (caught L x ty c s)
  caught-fine None h ty c s k = k
  caught-fine (Some x) h ty c s k = assign-fine L P c x.name ty x.span s h k

  clause-fine : (r : Rescue (Part T X)) → FineRescue P r → (visible : List (List ℕ)) (c : Context T) (v : Rescuing T) (s : State T) → Fine P s →
      Fine P (clause_body L r visible c v s).state
  clause-fine r h visible c v s k =
      h.2.it.run (seeing (visible ++ caught_names r.variable) c) (caught L r.variable (caught_type L c r.patterns) c s)
      (caught-fine r.variable h.1 (caught_type L c r.patterns) c s k)

  clauses-fine : (rs : List (Rescue (Part T X))) → Each (FineRescue P) rs → (c : Context T) (v : Rescuing T) → Fine P v.state → Fine P (with_clauses L rs c v).state
  clauses-fine [] h c v k = k
  clauses-fine (r ∷ rs) h c v k =
      let visible : List (List ℕ) = v.visible ++ all_declared (map part_operand r.patterns) in
      let s : State T = (judge_all (map part_operand r.patterns) (seeing v.visible c) (moved v.patterns v.state)).state in
      clauses-fine rs h.1 c (clause_body L r visible c v s)
      (clause-fine r h.0 visible c v s
      (all-fine L P (map part_operand r.patterns) (operands-fine L P r.patterns h.0.0) (seeing v.visible c) (moved v.patterns v.state) k))

  else-fine : (o : Option (Part T X)) → IfThere (FinePart P) o → (c : Context T) (first : Judged T) (v : Rescuing T) → Fine P v.state →
      Fine P (with_else L o c first v).state
  else-fine None h c first v k = k
  else-fine (Some e) h c first v k = h.it.run (seeing v.visible c) (moved first.state.environment v.state) k

  ensured-fine : (e : Environment T) (names : List (List ℕ)) (ty : T) (ends : Environment T) (breaks nexts : List (Left T)) (s : State T) → Fine P s →
      Fine P (ensured_whole L e names ty ends breaks nexts s).state
  ensured-fine (Live rows) names ty ends breaks nexts s k = k
  ensured-fine Dead names ty ends breaks nexts s k = k
  ensured-fine Silent names ty ends breaks nexts s k = k

  ensure-fine : (o : Option (Part T X)) → IfThere (FinePart P) o → (c : Context T) (e : Environment T) (r : Rescuing T) → Fine P r.state →
      Fine P (with_ensure L o c e r).state
  ensure-fine None h c e r k = k
  ensure-fine (Some ensure) h c e r k =
      let start : State T = record (r.state) { environment = handled L e r.state.assigned; breaks = []; nexts = [] } in
      let j : Judged T = ensure.it.judge (seeing r.visible c) start in
      ensured-fine j.state.environment (ensured_names L (seeing r.visible c) ensure.it) r.ty r.ends r.state.breaks r.state.nexts j.state
      (h.it.run (seeing r.visible c) start k)

  pub guard-fine : (g : Guarded (Part T X)) → FineGuarded P g → FineRun P (guard_judged L g)
  guard-fine g h c s k =
      let start : State T = record s { breaks = []; nexts = []; assigned = [] } in
      let first : Judged T = g.body.it.judge c start in
      let begun : Rescuing T = rescuing L s.environment g.body.it.declares first.state in
      let clauses : Rescuing T = with_clauses L g.rescues c begun in
      ensure-fine g.ensure h.3 c s.environment (with_else L g.otherwise c first clauses)
      (else-fine g.otherwise h.2 c first clauses (clauses-fine g.rescues h.1 c begun (h.0.it.run c start k)))

  -- ---- `case`

  module _ (test : Part T X → Test T) (tests : (p : Part T X) → FinePart P p → FineTest P (test p)) where
    patterns-fine : (ps : List (Part T X)) → Each (FinePart P) ps → (c : Context T) (v : Fitting T) → Fine P v.state → Fine P (fit_patterns L test ps c v).state
    patterns-fine [] h c v k = k
    patterns-fine (p ∷ ps) h c v k =
        patterns-fine ps h.1 c (with_fit L v p.it.declares (test p (seeing v.visible c) (moved v.rest v.state)))
        (tests p h.0 (seeing v.visible c) (moved v.rest v.state) k)

    whens-fine : (ws : List (When (Part T X))) → Each (FineWhen P) ws → (c : Context T) (v : Branching T) → Fine P v.state → Fine P (with_whens L test ws c v).state
    whens-fine [] h c v k = k
    whens-fine (w ∷ ws) h c v k =
        let start : Fitting T = fitting L v.rest v.visible v.state in
        let f : Fitting T = fit_patterns L test w.patterns c start in
        whens-fine ws h.1 c (after_patterns L w.body c v f)
        (h.0.1.it.run (seeing f.visible c) (moved f.fits f.state) (patterns-fine w.patterns h.0.0 c start k))

    case-after-fine : (ws : List (When (Part T X))) (o : Option (Part T X)) → Each (FineWhen P) ws → IfThere (FinePart P) o → (c : Context T) (s : State T) → Fine P s →
        Fine P (case_after L test ws o c s).state
    case-after-fine ws o hw ho c s k =
        otherwise-fine o ho c (with_whens L test ws c (branching L s.environment s)) (whens-fine ws hw c (branching L s.environment s) k)

  pub case-fine : (subject : Option (Part T X)) (ws : List (When (Part T X))) (o : Option (Part T X)) → IfThere (FinePart P) subject → Each (FineWhen P) ws →
      IfThere (FinePart P) o → FineRun P (case_judged L subject ws o)
  case-fine None ws o h hw ho c s k = case-after-fine (test_of L None c) (λ p f. f.test) ws o hw ho c s k
  case-fine (Some subject) ws o h hw ho c s k =
      case-after-fine (test_of L (Some subject) c) (λ p f. f.it.run) ws o hw ho (seeing subject.it.declares c) (subject.it.judge c s).state (h.it.run c s k)

  -- ---- jumps

  left-by-fine : (b : Bool) (word : Jump) (ty : T) (s : State T) → Fine P s → Fine P (left_by b word ty s)
  left-by-fine true jump.Break ty s k = k
  left-by-fine true jump.Next ty s k = k
  left-by-fine true jump.Return ty s k = k
  left-by-fine false word ty s k = k

  pub checked-result-fine : (o : Option T) (place : Span) (ty : T) (s : State T) → P place → Fine P s → Fine P (checked_result L o place ty s)
  checked-result-fine None place ty s h k = k
  checked-result-fine (Some result) place ty s h k = unless-fine L P (L.is_sub ty result) (wrong_result L place result ty) s h k

  checked-jump-fine : (word : Jump) (o : Option T) (place : Span) (ty : T) (s : State T) → P place → Fine P s → Fine P (checked_jump L word o place ty s)
  checked-jump-fine jump.Return o place ty s h k = checked-result-fine o place ty s h k
  checked-jump-fine jump.Break o place ty s h k = k
  checked-jump-fine jump.Next o place ty s h k = k

  jumped-fine : (word : Jump) (place : Span) (c : Context T) (j : Judged T) → P place → Fine P j.state → Fine P (jumped L word place c j).state
  jumped-fine word place c j h k =
      left-by-fine c.inside word j.ty (checked_jump L word c.result place j.ty j.state) (checked-jump-fine word c.result place j.ty j.state h k)

  pub jump-fine : (word : Jump) (value : Option (Part T X)) (span : Span) → P (jump_word word span) → IfThere (FinePart P) value → FineRun P (jump_judged L word value span)
  jump-fine word None span h hv c s k = jumped-fine word (jump_word word span) c (judged (nil_type L) s) h k
  jump-fine word (Some e) span h hv c s k = jumped-fine word e.it.span c (e.it.judge c s) hv.it.place (hv.it.run c s k)
