-- Loops by what their parts give.
use Rattle.std.proofs.Common.{◌≡◌, true, false, List, ◌++◌}
use Rattle.srb_terms.specs.declared.ty.Ty.{Ty}
use Rattle.rb_tree.specs.declared.syntax.Test.{Test}
use Rattle.rb_tree.specs.declared.syntax.Tree.{Tree}
use Rattle.srb_judgement.specs.Branches.{turned}
use Rattle.srb_judgement.specs.Judgements.{part_of}
use Rattle.srb_judgement.specs.Languages.{Language}
use Rattle.srb_judgement.specs.Loops.{head, loop_left, loop_after, loop_judged, modified_loop}
use Rattle.srb_judgement.specs.Pins.{in_loop}
use Rattle.srb_judgement.specs.States.{Context, State, Left, Tested, moved, seeing, with_jumps}
use Rattle.srb_judgement.specs.Views.{settled}
use Rattle.srb_walk.specs.Assigned.{names_of}
use Rattle.srb_walk.specs.Judging.{judge_of, test_of}

module _ {X : Type 0} (L : Language Ty X) where
  -- from the head of a loop on, by what its condition gives
  pub inside_is : (body : Tree) (c last : Context Ty) (s : State Ty) (breaks nexts : List (Left Ty)) (t u : Tested Ty) →
      last ≡ c → settled t ≡ settled u →
      loop_left L t.falsehood breaks nexts (judge_of L body last (moved t.truth t.state)).state
      ≡ loop_after L (part_of L body) c (with_jumps breaks nexts s) u
  inside_is body c last s breaks nexts t u e by =
      λ i. loop_left L (by i).falsehood breaks nexts (judge_of L body (e i) (moved (by i).truth (by i).state)).state

  pub while_is : (which : Test) (cond body : Tree) (c inner : Context Ty) (s at : State Ty) (breaks nexts : List (Left Ty)) →
      inner ≡ in_loop L s.environment c → at ≡ head L (names_of L true cond ++ names_of L true body) c s → breaks ≡ s.breaks → nexts ≡ s.nexts →
      loop_after L (part_of L body) (seeing (names_of L false cond) inner) (with_jumps breaks nexts at) (turned which (test_of L cond inner at))
      ≡ loop_judged L which (part_of L cond) (part_of L body) c s
  while_is which cond body c inner s at breaks nexts k h b m =
      λ i. loop_after L (part_of L body) (seeing (names_of L false cond) (k i)) (with_jumps (b i) (m i) at) (turned which (test_of L cond (k i) (h i)))

  pub modified_is : (which : Test) (statement cond : Tree) (c inner : Context Ty) (s at : State Ty) (breaks nexts : List (Left Ty)) →
      inner ≡ in_loop L s.environment c → at ≡ head L (names_of L true cond ++ names_of L true statement) c s → breaks ≡ s.breaks → nexts ≡ s.nexts →
      loop_after L (part_of L statement) inner (with_jumps breaks nexts at) (turned which (test_of L cond (seeing (names_of L false statement) inner) at))
      ≡ modified_loop L which (part_of L statement) (part_of L cond) c s
  modified_is which statement cond c inner s at breaks nexts k h b m =
      λ i. loop_after L (part_of L statement) (k i) (with_jumps (b i) (m i) at) (turned which (test_of L cond (seeing (names_of L false statement) (k i)) (h i)))
