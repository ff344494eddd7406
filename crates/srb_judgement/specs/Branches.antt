-- Branches: `if`, `unless`, `elsif`, `? :`, and `if` and `unless` as modifiers.
use Rattle.std.specs.Prelude.{ℕ, List, [], ◌∷◌, ◌++◌, Option, Some, None}
use Rattle.rb_tree.specs.declared.syntax.Arm.{Arm}
use Rattle.rb_tree.specs.declared.syntax.Test as syntax
use Rattle.rb_tree.specs.declared.syntax.Test.TheVariants as sense
use Rattle.srb_judgement.specs.Environments.{Environment, Dead, joined, is_live}
use Rattle.srb_judgement.specs.Languages.{Language}
use Rattle.srb_judgement.specs.Parts.{Part}
use Rattle.srb_judgement.specs.Sequences.{empty_type}
use Rattle.srb_judgement.specs.States.{Context, State, Judged, Tested, Run, judged, moved, seeing}
use Rattle.srb_judgement.specs.Types.{type_if}

-- the branches so far: the `T.any` of the types of the live ones, their environments joined, the environment in which none of them is
-- taken, the variables that became visible, and the state
pub record Branching (T : Type 0) : Type 0 where
  pub ty : T
  pub ends : Environment T
  pub rest : Environment T
  pub visible : List (List ℕ)
  pub state : State T

-- "`unless`, `until`: exchanged"
abbrev pub turned : {T : Type 0} → syntax.Test → Tested T → Tested T
turned sense.Positive t = t
turned sense.Negative t = record t { truth = t.falsehood; falsehood = t.truth }

module _ {T X : Type 0} (L : Language T X) where
  -- no branch yet
  abbrev pub branching : Environment T → State T → Branching T
  branching rest s = record { ty = L.never; ends = Dead; rest = rest; visible = []; state = s }

  -- "A branch has the `T.any` of its live branches .. Environments are joined."
  abbrev pub with_branch : Branching T → Environment T → List (List ℕ) → Judged T → Branching T
  with_branch so_far rest visible j = record {
    ty = L.any so_far.ty (type_if L (is_live j.state.environment) j.ty);
    ends = joined L so_far.ends j.state.environment;
    rest = rest;
    visible = visible;
    state = j.state;
  }

  -- a condition and what is done where it holds
  abbrev pub after_condition : Part T X → List (List ℕ) → Context T → Branching T → Tested T → Branching T
  after_condition body visible c so_far t =
      with_branch so_far t.falsehood (visible ++ body.it.declares) (body.it.judge (seeing visible c) (moved t.truth t.state))

  -- "An `elsif` is no expression: 7006 stands at its condition."
  abbrev pub with_arms : List (Arm (Part T X)) → Context T → Branching T → Branching T
  with_arms [] c so_far = so_far
  with_arms (a ∷ arms) c so_far =
      with_arms arms c
      (after_condition a.body (so_far.visible ++ a.condition.it.declares) c so_far
      (a.condition.test (seeing so_far.visible c) (moved so_far.rest so_far.state)))

  -- "a missing one is `NilClass`"
  abbrev pub with_otherwise : Option (Part T X) → Context T → Branching T → Branching T
  with_otherwise None c so_far =
      with_branch so_far so_far.rest so_far.visible (judged (empty_type L so_far.rest) (moved so_far.rest so_far.state))
  with_otherwise (Some e) c so_far =
      with_branch so_far so_far.rest so_far.visible (e.it.judge (seeing so_far.visible c) (moved so_far.rest so_far.state))

  abbrev pub all_branches : Branching T → Judged T
  all_branches b = judged b.ty (moved b.ends b.state)

  -- `if` and `unless`, with `elsif` arms and perhaps `else`
  abbrev pub if_after : Part T X → List (Arm (Part T X)) → Option (Part T X) → List (List ℕ) → Context T → Tested T → Judged T
  if_after body arms otherwise visible c t =
      all_branches (with_otherwise otherwise c (with_arms arms c (after_condition body visible c (branching t.falsehood t.state) t)))

  abbrev pub if_judged : syntax.Test → Part T X → Part T X → List (Arm (Part T X)) → Option (Part T X) → Run T
  if_judged which condition body arms otherwise c s =
      if_after body arms otherwise condition.it.declares c (turned which (condition.test c s))

  -- a statement with `if` or `unless` after it. The condition is judged first, but stands later in the text.
  abbrev pub modified_if : syntax.Test → Part T X → Part T X → Run T
  modified_if which statement condition c s =
      if_after statement [] None [] c (turned which (condition.test (seeing statement.it.declares c) s))
