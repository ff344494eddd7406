-- `case`: "s is judged once; each pattern is judged."
use Rattle.std.specs.Prelude.{ℕ, List, [], ◌∷◌, ◌++◌, Option, Some, None}
use Rattle.rb_tree.specs.declared.syntax.When.{When}
use Rattle.srb_judgement.specs.Branches.{Branching, branching, with_branch, with_otherwise, all_branches}
use Rattle.srb_judgement.specs.Environments.{Environment, Dead, joined}
use Rattle.srb_judgement.specs.Languages.{Language}
use Rattle.srb_judgement.specs.Narrowing.{says_pattern, saying}
use Rattle.srb_judgement.specs.Parts.{Part, Spelling}
use Rattle.srb_judgement.specs.States.{Context, State, Judged, Tested, Run, Test, moved, seeing}

-- the patterns so far: the environments in which one of them fits, joined, that in which none does, and the visible variables
pub record Fitting (T : Type 0) : Type 0 where
  pub fits : Environment T
  pub rest : Environment T
  pub visible : List (List ℕ)
  pub state : State T

module _ {T X : Type 0} (L : Language T X) where
  abbrev pub fitting : Environment T → List (List ℕ) → State T → Fitting T
  fitting rest visible s = record { fits = Dead; rest = rest; visible = visible; state = s }

  -- "Several patterns act as `||`."
  abbrev pub with_fit : Fitting T → List (List ℕ) → Tested T → Fitting T
  with_fit so_far declared t =
      record { fits = joined L so_far.fits t.truth; rest = t.falsehood; visible = so_far.visible ++ declared; state = t.state }

  -- "`case` patterns narrow and no call is judged for them; a pattern that narrows nothing leaves both sides as they were."
  abbrev pub pattern_test : Spelling → Context T → Part T X → Test T
  pattern_test subject before p c s = saying L (says_pattern L before c subject p.it) (p.it.judge c s)

  -- "A `case` without s has conditions."
  abbrev pub test_of : Option (Part T X) → Context T → Part T X → Test T
  test_of None before p = p.test
  test_of (Some subject) before p = pattern_test subject.it.spelling before p

  abbrev pub fit_patterns : (Part T X → Test T) → List (Part T X) → Context T → Fitting T → Fitting T
  fit_patterns test [] c so_far = so_far
  fit_patterns test (p ∷ patterns) c so_far =
      fit_patterns test patterns c
      (with_fit so_far p.it.declares (test p (seeing so_far.visible c) (moved so_far.rest so_far.state)))

  abbrev pub after_patterns : Part T X → Context T → Branching T → Fitting T → Branching T
  after_patterns body c so_far f =
      with_branch L so_far f.rest (f.visible ++ body.it.declares) (body.it.judge (seeing f.visible c) (moved f.fits f.state))

  abbrev pub with_whens : (Part T X → Test T) → List (When (Part T X)) → Context T → Branching T → Branching T
  with_whens test [] c so_far = so_far
  with_whens test (w ∷ whens) c so_far =
      with_whens test whens c
      (after_patterns w.body c so_far (fit_patterns test w.patterns c (fitting so_far.rest so_far.visible so_far.state)))

  abbrev pub case_after : (Part T X → Test T) → List (When (Part T X)) → Option (Part T X) → Context T → State T → Judged T
  case_after test whens otherwise c s =
      all_branches L (with_otherwise L otherwise c (with_whens test whens c (branching L s.environment s)))

  abbrev pub case_judged : Option (Part T X) → List (When (Part T X)) → Option (Part T X) → Run T
  case_judged None whens otherwise c s = case_after (test_of None c) whens otherwise c s
  case_judged (Some subject) whens otherwise c s =
      case_after (test_of (Some subject) c) whens otherwise (seeing subject.it.declares c) (subject.it.judge c s).state
