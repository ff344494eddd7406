-- Loops: `while` and `until`, also as modifiers. "A loop's condition is inside the loop, also for a modifier."
use Rattle.std.specs.Prelude.{ℕ, List, [], ◌∷◌, ◌++◌, map}
use Rattle.rb_tree.specs.declared.syntax.Test as syntax
use Rattle.srb_judgement.specs.Blocks.{with_new, new_names, left_type}
use Rattle.srb_judgement.specs.Branches.{turned}
use Rattle.srb_judgement.specs.Environments.{Environment, Live, joined, is_live}
use Rattle.srb_judgement.specs.Languages.{Language}
use Rattle.srb_judgement.specs.Parts.{Part}
use Rattle.srb_judgement.specs.Pins.{in_loop}
use Rattle.srb_judgement.specs.States.{Context, State, Left, Judged, Tested, Run, judged, moved, seeing, without_jumps, with_jumps}
use Rattle.srb_judgement.specs.Types.{nil_type, any_of, type_if}

module _ {T X : Type 0} (L : Language T X) where
  -- "At a loop's head the pinned variables have their pinned types, and a variable that the loop assigns and that wasn't visible at its
  -- entry is `T.untyped`." "The variables that a loop assigns are also those of blocks inside it."
  abbrev pub head : List (List ℕ) → Context T → State T → State T
  head assigns c s = without_jumps (moved (with_new L L.untyped (new_names L c assigns) s.environment) s)

  abbrev pub joined_breaks : Environment T → List (Left T) → Environment T
  joined_breaks e [] = e
  joined_breaks e (l ∷ lefts) = joined_breaks (joined L e (Live l.rows)) lefts

  -- "After the loop the environment is the join of the condition's falsehood and the `break` environments; its type is the `T.any` of
  -- `NilClass`, if the falsehood is live, and the `break` types."
  abbrev pub loop_left : Environment T → List (Left T) → List (Left T) → State T → Judged T
  loop_left falsehood breaks nexts s =
      judged (any_of L (type_if L (is_live falsehood) (nil_type L) ∷ map left_type s.breaks))
      (with_jumps breaks nexts (moved (joined_breaks falsehood s.breaks) s))

  abbrev pub after_loop : Environment T → State T → Judged T → Judged T
  after_loop falsehood before j = loop_left falsehood before.breaks before.nexts j.state

  abbrev pub loop_after : Part T X → Context T → State T → Tested T → Judged T
  loop_after body c before t = after_loop t.falsehood before (body.it.judge c (moved t.truth t.state))

  abbrev pub loop_judged : syntax.Test → Part T X → Part T X → Run T
  loop_judged which condition body c s =
      loop_after body (seeing condition.it.declares (in_loop L s.environment c)) s
      (turned which (condition.test (in_loop L s.environment c) (head (condition.it.assigns ++ body.it.assigns) c s)))

  -- "A modifier `while` or `until` is the same loop." Its condition stands later in the text.
  abbrev pub modified_loop : syntax.Test → Part T X → Part T X → Run T
  modified_loop which statement condition c s =
      loop_after statement (in_loop L s.environment c) s
      (turned which
      (condition.test (seeing statement.it.declares (in_loop L s.environment c)) (head (condition.it.assigns ++ statement.it.assigns) c s)))
