-- Branches by what their conditions and bodies give. What is judged after them reads neither the environment of the state after a branch, nor
-- which variables became visible but by what is around.
use Rattle.std.proofs.Common.{◌≡◌, ◌++◌, ℕ, suc, ◌+◌, ◌<◌, List, [], ◌∷◌, length, drop, get_or, Option, Some, None, refl, ap, ap₂, sym, ◌∙◌, arith}
use Rattle.std.proofs.Math.Seq.{drop-cons}
use Rattle.rb_tree.specs.declared.syntax.Arm.{Arm}
use Rattle.srb_terms.specs.declared.ty.Ty.{Ty}
use Rattle.srb_judgement.proofs.KeptContexts.{seeing-both}
use Rattle.srb_judgement.specs.Branches.{Branching, branching, after_condition, with_arms, with_branch, with_otherwise, all_branches, if_after}
use Rattle.srb_judgement.specs.Ends.{Ends, branch_ends, no_ends, with_end}
use Rattle.srb_judgement.specs.Environments.{Environment, Silent}
use Rattle.srb_judgement.specs.Languages.{Language}
use Rattle.srb_judgement.specs.Parts.{Part}
use Rattle.srb_judgement.specs.States.{Context, State, Tested, moved, seeing}
use Rattle.rb_tree.specs.declared.syntax.Tree.{Tree}
use Rattle.srb_walk.specs.Known.{known_arm, known_arms}
use Rattle.srb_walk_control.specs.Passed.{placed}

pub next_is : (k : ℕ) → k + 1 ≡ suc k
next_is k = omega arith

pub drop_next : {A : Type 0} (xs : List A) (k : ℕ) (x : A) → k < length xs → x ≡ get_or xs k x → drop k xs ≡ x ∷ drop (k + 1) xs
drop_next xs k x within is = drop-cons xs k x within ∙ ap₂ (λ y n. y ∷ drop n xs) (sym is) (sym (next_is k))

-- further variables in what is around
pub more : (names a b : List (List ℕ)) (c d : Context Ty) → seeing a c ≡ seeing b d → seeing (a ++ names) c ≡ seeing (b ++ names) d
more names a b c d h = sym (seeing-both a names c) ∙ ap (λ x. seeing names x) h ∙ seeing-both b names d

module _ {X : Type 0} (L : Language Ty X) where
  -- what is done where a condition holds
  pub condition_placed : (body : Part Ty X) (v w : List (List ℕ)) (c d : Context Ty) (a b : Branching Ty) (t u : Tested Ty) →
      a.ty ≡ b.ty → a.ends ≡ b.ends → seeing v c ≡ seeing w d → t.falsehood ≡ u.falsehood → moved t.truth t.state ≡ moved u.truth u.state →
      placed c (after_condition L body v c a t) ≡ placed d (after_condition L body w d b u)
  condition_placed body v w c d a b t u y e k f s = λ i. record {
    branching = record (with_branch L (record b { ty = y i; ends = e i }) (f i) [] (body.it.judge (k i) (s i))) { state = moved Silent (body.it.judge (k i) (s i)).state };
    around = more body.it.declares v w c d k i;
  }

  abbrev tested_arm : Arm (Part Ty X) → Context Ty → Branching Ty → Tested Ty
  tested_arm m c a = m.condition.test (seeing a.visible c) (moved a.rest a.state)

  abbrev after_arm : Arm (Part Ty X) → Context Ty → Branching Ty → Branching Ty
  after_arm m c a = after_condition L m.body (a.visible ++ m.condition.it.declares) c a (tested_arm m c a)

  pub arms_placed : (arms : List (Arm (Part Ty X))) (c d : Context Ty) (a b : Branching Ty) → placed c a ≡ placed d b →
      placed c (with_arms L arms c a) ≡ placed d (with_arms L arms d b)
  arms_placed [] c d a b h = h
  arms_placed (m ∷ arms) c d a b h =
      arms_placed arms c d (after_arm m c a) (after_arm m d b)
      (condition_placed m.body (a.visible ++ m.condition.it.declares) (b.visible ++ m.condition.it.declares) c d a b (tested_arm m c a) (tested_arm m d b)
      (λ i. (h i).branching.ty) (λ i. (h i).branching.ends) (more m.condition.it.declares a.visible b.visible c d (λ i. (h i).around))
      (λ i. (m.condition.test (h i).around (moved (h i).branching.rest (h i).branching.state)).falsehood)
      (λ i. moved (m.condition.test (h i).around (moved (h i).branching.rest (h i).branching.state)).truth
      (m.condition.test (h i).around (moved (h i).branching.rest (h i).branching.state)).state))

  pub otherwise_placed : (otherwise : Option (Part Ty X)) (c d : Context Ty) (a b : Branching Ty) → placed c a ≡ placed d b →
      all_branches L (with_otherwise L otherwise c a) ≡ all_branches L (with_otherwise L otherwise d b)
  otherwise_placed None c d a b h = λ i. all_branches L (with_otherwise L None c (h i).branching)
  otherwise_placed (Some e) c d a b h = λ i. all_branches L
      (with_branch L (h i).branching (h i).branching.rest [] (e.it.judge (h i).around (moved (h i).branching.rest (h i).branching.state)))

  -- one arm after the others
  pub arms_step : (row : List (Arm Tree)) (i : ℕ) (m : Arm Tree) (c d : Context Ty) (a b x : Branching Ty) (e : Context Ty) →
      i < length row → m ≡ get_or row i m →
      placed d b ≡ placed c (with_arms L (known_arm L m ∷ []) c a) →
      placed c (with_arms L (known_arms L (drop i row)) c a) ≡ placed e x →
      placed d (with_arms L (known_arms L (drop (i + 1) row)) d b) ≡ placed e x
  arms_step row i m c d a b x e within is h k =
      arms_placed (known_arms L (drop (i + 1) row)) d c b (with_arms L (known_arm L m ∷ []) c a) h
      ∙ sym (ap (λ r. placed c (with_arms L (known_arms L r) c a)) (drop_next row i m within is))
      ∙ k

  -- `if` by what its parts give: the branch after its condition, which gives u, and its arms
  pub if_is : (body : Part Ty X) (arms : List (Arm (Part Ty X))) (otherwise : Option (Part Ty X)) (visible : List (List ℕ))
      (c d e : Context Ty) (u : Tested Ty) (none : Ends Ty) (n a b : Branching Ty) →
      none ≡ no_ends L → n.ty ≡ none.ty → n.ends ≡ none.environment →
      placed d a ≡ placed c (after_condition L body visible c n u) →
      placed e b ≡ placed d (with_arms L arms d a) →
      all_branches L (with_otherwise L otherwise e b) ≡ if_after L body arms otherwise visible c u
  if_is body arms otherwise visible c d e u none n a b o y s first all =
      otherwise_placed otherwise e c b (with_arms L arms c (after_condition L body visible c (branching L u.falsehood u.state) u))
      (all
      ∙ arms_placed arms d c a (after_condition L body visible c (branching L u.falsehood u.state) u)
      (first
      ∙ condition_placed body visible visible c c n (branching L u.falsehood u.state) u u (y ∙ ap (λ (x : Ends Ty). x.ty) o) (s ∙ ap (λ (x : Ends Ty). x.environment) o) refl refl refl))

  -- a statement with `if` after it, by what its condition and its branch give
  pub modified_is : (body : Part Ty X) (c : Context Ty) (u : Tested Ty) (start before ends : Ends Ty) (rest : Environment Ty) (at s : State Ty) →
      start ≡ no_ends L → before ≡ start → rest ≡ u.falsehood → at ≡ moved u.truth u.state →
      ends ≡ with_end L before (body.it.judge c at) → s ≡ moved Silent (body.it.judge c at).state →
      all_branches L (with_otherwise L None c (record { ty = ends.ty; ends = ends.environment; rest = rest; visible = []; state = s }))
      ≡ if_after L body [] None [] c u
  modified_is body c u start before ends rest at s o b r k e h =
      λ i. all_branches L (with_otherwise L None c (record {
        ty = ((e ∙ (λ j. with_end L ((b ∙ o) j) (body.it.judge c (k j)))) i).ty;
        ends = ((e ∙ (λ j. with_end L ((b ∙ o) j) (body.it.judge c (k j)))) i).environment;
        rest = r i;
        visible = [];
        state = (h ∙ ap (λ x. moved Silent (body.it.judge c x).state) k) i;
      }))

  -- a branch with others after it, by what its body gives
  pub taken_is : (body : Part Ty X) (c inner around : Context Ty) (a : Branching Ty) (ends : Ends Ty) (s : State Ty) →
      inner ≡ c → ends ≡ with_end L (branch_ends L a) (body.it.judge inner a.state) → s ≡ moved Silent (body.it.judge inner a.state).state →
      around ≡ seeing body.it.declares c →
      placed around (record { ty = ends.ty; ends = ends.environment; rest = a.rest; visible = []; state = s })
      ≡ placed c (with_branch L a a.rest body.it.declares (body.it.judge c a.state))
  taken_is body c inner around a ends s n e h k = λ i. record {
    branching = record {
      ty = ((e ∙ ap (λ x. with_end L (branch_ends L a) (body.it.judge x a.state)) n) i).ty;
      ends = ((e ∙ ap (λ x. with_end L (branch_ends L a) (body.it.judge x a.state)) n) i).environment;
      rest = a.rest;
      visible = [];
      state = moved Silent ((h ∙ ap (λ x. moved Silent (body.it.judge x a.state).state) n) i);
    };
    around = k i;
  }

  -- a condition and its branch, by what the condition gives: u
  pub one_is : (body : Part Ty X) (names : List (List ℕ)) (c inner : Context Ty) (a so_far : Branching Ty) (u : Tested Ty) →
      inner ≡ seeing names c → branch_ends L a ≡ branch_ends L so_far → a.rest ≡ u.falsehood → a.state ≡ moved u.truth u.state →
      placed inner (with_branch L a a.rest body.it.declares (body.it.judge inner a.state)) ≡ placed c (after_condition L body names c so_far u)
  one_is body names c inner a so_far u k e r s = λ i. record {
    branching = record (with_branch L (record so_far { ty = (e i).ty; ends = (e i).environment }) (r i) [] (body.it.judge (k i) (s i))) { state = moved Silent (body.it.judge (k i) (s i)).state };
    around = (ap (λ x. seeing body.it.declares x) k ∙ seeing-both names body.it.declares c) i;
  }

  -- an arm, by the environment in which its condition is judged
  pub arm_is : (m : Arm (Part Ty X)) (c : Context Ty) (a so_far : Branching Ty) (rest : Environment Ty) →
      branch_ends L a ≡ branch_ends L so_far → rest ≡ so_far.rest →
      placed c (after_condition L m.body m.condition.it.declares c a (m.condition.test c (moved rest so_far.state)))
      ≡ placed c (after_condition L m.body m.condition.it.declares c so_far (m.condition.test c (moved so_far.rest so_far.state)))
  arm_is m c a so_far rest e r = condition_placed m.body m.condition.it.declares m.condition.it.declares c c a so_far
      (m.condition.test c (moved rest so_far.state)) (m.condition.test c (moved so_far.rest so_far.state))
      (λ i. (e i).ty) (λ i. (e i).environment) refl (λ i. (m.condition.test c (moved (r i) so_far.state)).falsehood)
      (λ i. moved (m.condition.test c (moved (r i) so_far.state)).truth (m.condition.test c (moved (r i) so_far.state)).state)
