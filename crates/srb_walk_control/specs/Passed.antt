-- What is passed on from one step to the next in rows of branches, arms and clauses.
use Rattle.std.specs.Prelude.{ℕ, List, [], ◌++◌, map, Option, Some, None}
use Rattle.srb_terms.specs.declared.ty.Ty.{Ty}
use Rattle.rb_tree.specs.declared.syntax.Rescue.{Rescue}
use Rattle.srb_judgement.specs.Narrowing.{saying, pattern_in}
use Rattle.rb_tree.specs.declared.syntax.Pair.{Pair}
use Rattle.rb_tree.specs.declared.syntax.Pair.TheVariants as pair
use Rattle.rb_tree.specs.declared.syntax.Piece.{Piece}
use Rattle.rb_tree.specs.declared.syntax.Piece.TheVariants as piece
use Rattle.rb_tree.specs.declared.syntax.Tree.{Tree}
use Rattle.srb_judgement.specs.Branches.{Branching}
use Rattle.srb_judgement.specs.Cases.{Fitting}
use Rattle.srb_judgement.specs.Environments.{Silent}
use Rattle.srb_judgement.specs.Guards.{Rescuing, caught, caught_names, caught_type}
use Rattle.srb_judgement.specs.Judgements.{part_of}
use Rattle.srb_judgement.specs.Languages.{Language}
use Rattle.srb_judgement.specs.Parts.{Part}
use Rattle.srb_judgement.specs.Sequences.{judge_all, all_declared}
use Rattle.srb_judgement.specs.States.{Context, State, Test, judged, moved, seeing}
use Rattle.srb_judgement.specs.Variables.{part_operand}
use Rattle.srb_judgement.specs.Views.{seen_environment}
use Rattle.srb_walk_control.specs.declared.branches.Branching as branching
use Rattle.srb_walk_control.specs.declared.cases.Fitting as fitting
use Rattle.srb_walk_control.specs.declared.guards.Rescuing as rescuing
use Rattle.srb_walk_control.specs.declared.cases.Subject as subject
use Rattle.srb_walk_control.specs.declared.cases.Subject.TheVariants as subjects

module _ {T X : Type 0} (L : Language T X) where
  -- ---- what becomes visible in rows

  abbrev pub seeing_piece : Piece Tree → Context T → Context T
  seeing_piece (piece.Words words span) c = c
  seeing_piece (piece.Code inner span) c = seeing (part_of L inner).it.declares c

  abbrev pub pair_names : Pair Tree → List (List ℕ)
  pair_names (pair.Arrow key value) = (part_of L key).it.declares ++ (part_of L value).it.declares
  pair_names (pair.Label name span value) = (part_of L value).it.declares

  -- ---- patterns of `when`: None for conditions, else the variable that the subject is, if it is one

  abbrev pub subject_test : Option (Option (List ℕ)) → Part T X → Test T
  subject_test None p c s = p.test c s
  subject_test (Some variable) p c s = saying L (pattern_in L variable c.scope p.it.spelling) (p.it.judge c s)

  -- ---- guards: the patterns of a clause are judged, and what it catches is assigned

  abbrev pub caught_after : Rescue (Part T X) → Context T → Rescuing T → State T → Rescuing T
  caught_after r c so_far s = record so_far {
    patterns = s.environment;
    visible = (so_far.visible ++ all_declared (map part_operand r.patterns)) ++ caught_names r.variable;
    state = caught L r.variable (caught_type L c r.patterns) c s;
  }

  abbrev pub caught_by : Rescue (Part T X) → Context T → Rescuing T → Rescuing T
  caught_by r c so_far =
      caught_after r c so_far
      (judge_all (map part_operand r.patterns) (seeing so_far.visible c) (moved so_far.patterns so_far.state)).state

-- ---- what is passed on in rows

abbrev pub seen_subject : subject.Subject → Option (Option (List ℕ))
seen_subject subjects.Conditions = None
seen_subject (subjects.Value variable) = Some variable

-- without the environment of the state, which is taken out
abbrev pub settled_rescuing : Rescuing Ty → Rescuing Ty
settled_rescuing r = record r { state = moved Silent r.state }

-- what branches and patterns pass on: all but the environment of the state, and in place of the visible variables what is around
pub record Placed : Type 0 where
  pub branching : Branching Ty
  pub around : Context Ty

pub record PlacedFitting : Type 0 where
  pub fitting : Fitting Ty
  pub around : Context Ty

abbrev pub placed : Context Ty → Branching Ty → Placed
placed c b = record { branching = record b { visible = []; state = moved Silent b.state }; around = seeing b.visible c }

abbrev pub placed_fitting : Context Ty → Fitting Ty → PlacedFitting
placed_fitting c f = record { fitting = record f { visible = []; state = moved Silent f.state }; around = seeing f.visible c }

-- no variable is visible but what is around
abbrev pub seen_branching : branching.Branching → State Ty → Branching Ty
seen_branching b s = record {
  ty = b.ends.ty;
  ends = seen_environment b.ends.environment;
  rest = seen_environment b.rest;
  visible = [];
  state = s;
}

abbrev pub seen_fitting : fitting.Fitting → State Ty → Fitting Ty
seen_fitting f s = record { fits = seen_environment f.fits; rest = seen_environment f.rest; visible = []; state = s }

abbrev pub seen_rescuing : rescuing.Rescuing → State Ty → Rescuing Ty
seen_rescuing r s = record {
  ty = r.ends.ty;
  ends = seen_environment r.ends.environment;
  patterns = seen_environment r.patterns;
  visible = r.visible;
  state = s;
}
