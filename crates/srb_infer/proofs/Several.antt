-- A body of several statements says nothing as a condition.
use Rattle.std.proofs.Common.{◌≡◌, ◌≤◌, List, [], ◌∷◌, length, refl, arith}
use Rattle.rb_tree.specs.declared.syntax.Tree.{Tree}
use Rattle.srb_judgement.specs.Conditions.{body_test}
use Rattle.srb_judgement.specs.Languages.{Language}
use Rattle.srb_judgement.specs.Reaching.{both_sides}
use Rattle.srb_judgement.specs.Sequences.{body}
use Rattle.srb_judgement.specs.States.{Context, State}
use Rattle.srb_walk.specs.Known.{known_trees}

pub several_tested : {T X : Type 0} (L : Language T X) (xs : List Tree) (c : Context T) (s : State T) → 2 ≤ length xs →
    both_sides (body L (known_trees L xs) c s) ≡ body_test L (known_trees L xs) c s
several_tested L [] c s h = refl
several_tested L (x ∷ []) c s h = absurd (omega arith)
several_tested L (x ∷ y ∷ xs) c s h = refl
