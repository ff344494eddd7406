-- The ends of branches, and of the clauses of a guard.
use Rattle.std.specs.Prelude.{◌≡◌, refl, List, [], None, ℕ}
use Rattle.rb_tree.specs.declared.syntax.Guarded.{Guarded}
use Rattle.srb_judgement.specs.Branches.{Branching, with_branch, all_branches}
use Rattle.srb_judgement.specs.Environments.{Environment, Dead, joined, is_live}
use Rattle.srb_judgement.specs.Guards.{Rescuing, left_guard, with_clause_end, with_first}
use Rattle.srb_judgement.specs.Languages.{Language}
use Rattle.srb_judgement.specs.Parts.{Part}
use Rattle.srb_judgement.specs.States.{State, Judged, judged, moved}
use Rattle.srb_judgement.specs.Types.{type_if}

-- "the `T.any` of the last types of the live ends, and the environments are joined"
pub record Ends (T : Type 0) : Type 0 where
  pub ty : T
  pub environment : Environment T

module _ {T X : Type 0} (L : Language T X) where
  abbrev pub no_ends : Ends T
  no_ends = record { ty = L.never; environment = Dead }

  -- with one more end
  abbrev pub with_end : Ends T → Judged T → Ends T
  with_end ends j = record {
    ty = L.any ends.ty (type_if L (is_live j.state.environment) j.ty);
    environment = joined L ends.environment j.state.environment;
  }

  -- with the end of the first body of a guard, or of its `else`, in front
  abbrev pub with_first_end : Ends T → Environment T → T → Ends T
  with_first_end ends e ty =
      record { ty = L.any ends.ty (type_if L (is_live e) ty); environment = joined L e ends.environment }

  -- the whole
  abbrev pub all_ends : Ends T → State T → Judged T
  all_ends ends s = judged ends.ty (moved ends.environment s)

  -- ---- the ends of branches and clauses are these

  abbrev pub branch_ends : Branching T → Ends T
  branch_ends b = record { ty = b.ty; environment = b.ends }

  abbrev pub clause_ends : Rescuing T → Ends T
  clause_ends r = record { ty = r.ty; environment = r.ends }

  pub branch_ends_with : (b : Branching T) (rest : Environment T) (visible : List (List ℕ)) (j : Judged T) →
      branch_ends (with_branch L b rest visible j) ≡ with_end (branch_ends b) j
  branch_ends_with b rest visible j = refl

  pub all_branch_ends : (b : Branching T) → all_branches L b ≡ all_ends (branch_ends b) b.state
  all_branch_ends b = refl

  pub clause_ends_with : (r : Rescuing T) (patterns : Environment T) (visible : List (List ℕ)) (j : Judged T) →
      clause_ends (with_clause_end L r patterns visible j) ≡ with_end (clause_ends r) j
  clause_ends_with r patterns visible j = refl

  pub first_ends_with : (r : Rescuing T) (e : Environment T) (ty : T) →
      clause_ends (with_first L r e ty) ≡ with_first_end (clause_ends r) e ty
  first_ends_with r e ty = refl

  -- ---- a guard without `rescue` clauses, `else` and `ensure`

  abbrev pub bare : Part T X → Guarded (Part T X)
  bare body = record { body = body; rescues = []; otherwise = None; ensure = None }

  -- the whole, by the state before it and its body: the end of the body is the only one
  abbrev pub left_bare : State T → Judged T → Judged T
  left_bare before first =
      left_guard L before (all_ends (with_first_end no_ends first.state.environment first.ty) first.state)
