-- Guards: a body with `rescue` clauses, `else` and `ensure`, which is entered in a live environment v.
use Rattle.std.specs.Prelude.{ℕ, Bool, true, false, List, [], ◌∷◌, ◌++◌, map, codes, Option, Some, None}
use Rattle.std.specs.List.{filter}
use Rattle.srb_terms.specs.NameSets.{has_name}
use Rattle.rb_tree.specs.declared.syntax.Guarded.{Guarded}
use Rattle.rb_tree.specs.declared.syntax.PlacedName.{PlacedName}
use Rattle.rb_tree.specs.declared.syntax.Rescue.{Rescue}
use Rattle.srb_judgement.specs.Environments.{Row, Environment, Live, Dead, Silent, with_type, variable_type, joined, is_live}
use Rattle.srb_judgement.specs.Languages.{Language, Meaning, ClassNamed, ModuleNamed, ValueOf, Unresolved}
use Rattle.srb_judgement.specs.Parts.{Operand, Part, Spelling, NameAlone, NilWord, ConstantPath, Other}
use Rattle.srb_judgement.specs.Pins.{assign}
use Rattle.srb_judgement.specs.Sequences.{judge_all, all_declared}
use Rattle.srb_judgement.specs.States.{Context, State, Left, Judged, Run, judged, moved, seeing}
use Rattle.srb_judgement.specs.Types.{type_if}

-- the ends so far: the `T.any` of the last types of the live ones, their environments joined, the environment in which the next clause's
-- patterns are judged, the variables that became visible, and the state
pub record Rescuing (T : Type 0) : Type 0 where
  pub ty : T
  pub ends : Environment T
  pub patterns : Environment T
  pub visible : List (List ℕ)
  pub state : State T

abbrev pub caught_names : Option PlacedName → List (List ℕ)
caught_names None = []
caught_names (Some x) = x.name ∷ []

abbrev pub part_spelling : {T X : Type 0} → Part T X → Spelling
part_spelling p = p.it.spelling

abbrev pub part_operand : {T X : Type 0} → Part T X → Operand T X
part_operand p = p.it

-- the outer variables that an `ensure` assigns, by those that it declares and all that are assigned in it
abbrev pub names_ensured : {T : Type 0} → Context T → List (List ℕ) → List (List ℕ) → List (List ℕ)
names_ensured c declares assigns = declares ++ filter (λ name. c.visible name) assigns

module _ {T X : Type 0} (L : Language T X) where
  -- ---- 2. "The environment h has, for each variable of v or assigned in the first body, the `T.any` of its type in v and of all types that
  -- live assignments in the first body give it. A variable that is absent in v has `NilClass` there. h is live."

  abbrev pub with_assigned : List (Row T) → List (Row T) → List (Row T)
  with_assigned rows [] = rows
  with_assigned rows (r ∷ assigned) = with_assigned (with_type rows r.name (L.any (variable_type L rows r.name) r.ty)) assigned

  abbrev pub handled : Environment T → List (Row T) → Environment T
  handled (Live v) assigned = Live (with_assigned v assigned)
  handled Dead assigned = Dead
  handled Silent assigned = Silent

  -- ---- 3. the clauses

  -- "each pattern is a constant that names a class with `Exception` in its `Lin`"
  abbrev pub if_exception : Bool → List ℕ → Option T
  if_exception true name = Some (L.instance name)
  if_exception false name = None

  abbrev pub exception_meant : Meaning T → Option T
  exception_meant (ClassNamed name) = if_exception (L.is_exception name) name
  exception_meant (ModuleNamed name) = None
  exception_meant (ValueOf ty) = None
  exception_meant Unresolved = None

  abbrev pub exception_in : List (List ℕ) → Spelling → Option T
  exception_in scope (ConstantPath path) = exception_meant (L.meaning scope path)
  exception_in scope (NameAlone name) = None
  exception_in scope NilWord = None
  exception_in scope Other = None

  abbrev pub with_exception : Option T → Option T → Option T
  with_exception (Some so_far) (Some ty) = Some (L.any so_far ty)
  with_exception (Some so_far) None = None
  with_exception None found = None

  abbrev pub exceptions_in : List (List ℕ) → Option T → List Spelling → Option T
  exceptions_in scope so_far [] = so_far
  exceptions_in scope so_far (p ∷ patterns) = exceptions_in scope (with_exception so_far (exception_in scope p)) patterns

  abbrev pub or_untyped : Option T → T
  or_untyped (Some ty) = ty
  or_untyped None = L.untyped

  -- "`=> x` assigns to x the `T.any` of the named classes, if each pattern is [such] a constant ..; `StandardError` if there is no pattern;
  -- else `T.untyped`."
  abbrev pub caught_in : List (List ℕ) → List Spelling → T
  caught_in scope [] = L.instance (codes "StandardError")
  caught_in scope (p ∷ patterns) = or_untyped (exceptions_in scope (Some L.never) (p ∷ patterns))

  abbrev pub caught_type : Context T → List (Part T X) → T
  caught_type c patterns = caught_in c.scope (map part_spelling patterns)

  -- "It is an assignment .., its place the variable."
  abbrev pub caught : Option PlacedName → T → Context T → State T → State T
  caught None ty c s = s
  caught (Some x) ty c s = assign L c x.name ty x.span s

  -- "5. The type is the `T.any` of the last types of the live ends, and the environments are joined."
  abbrev pub with_end : T → Environment T → Judged T → T
  with_end ty ends j = L.any ty (type_if L (is_live j.state.environment) j.ty)

  abbrev pub with_clause_end : Rescuing T → Environment T → List (List ℕ) → Judged T → Rescuing T
  with_clause_end so_far patterns visible j = record {
    ty = with_end so_far.ty so_far.ends j;
    ends = joined L so_far.ends j.state.environment;
    patterns = patterns;
    visible = visible;
    state = j.state;
  }

  -- "A clause's body begins in the environment after its own patterns."
  abbrev pub clause_body : Rescue (Part T X) → List (List ℕ) → Context T → Rescuing T → State T → Rescuing T
  clause_body r visible c so_far s =
      with_clause_end so_far s.environment (visible ++ (caught_names r.variable ++ r.body.it.declares))
      (r.body.it.judge (seeing (visible ++ caught_names r.variable) c) (caught r.variable (caught_type c r.patterns) c s))

  -- "The patterns of the clauses are judged in order, from h on."
  abbrev pub with_clauses : List (Rescue (Part T X)) → Context T → Rescuing T → Rescuing T
  with_clauses [] c so_far = so_far
  with_clauses (r ∷ clauses) c so_far =
      with_clauses clauses c
      (clause_body r (so_far.visible ++ all_declared (map part_operand r.patterns)) c so_far
      (judge_all (map part_operand r.patterns) (seeing so_far.visible c) (moved so_far.patterns so_far.state)).state)

  -- ---- 4. "An `else` is judged in the environment after the first body, and its type takes the place of the first body's."

  abbrev pub with_first : Rescuing T → Environment T → T → Rescuing T
  with_first so_far e ty = record so_far {
    ty = L.any so_far.ty (type_if L (is_live e) ty);
    ends = joined L e so_far.ends;
  }

  abbrev pub with_else_end : Rescuing T → List (List ℕ) → Judged T → Rescuing T
  with_else_end so_far visible j = with_first (record so_far { visible = visible; state = j.state }) j.state.environment j.ty

  abbrev pub with_else : Option (Part T X) → Context T → Judged T → Rescuing T → Rescuing T
  with_else None c first so_far = with_first so_far first.state.environment first.ty
  with_else (Some e) c first so_far =
      with_else_end so_far (so_far.visible ++ e.it.declares)
      (e.it.judge (seeing so_far.visible c) (moved first.state.environment so_far.state))

  -- ---- 6. `ensure`

  -- "each variable that it assigns has, in the joined environment and in each jump environment that leaves the whole, the type that it has
  -- after the `ensure`"
  abbrev pub ensured_rows : List (List ℕ) → List (Row T) → List (Row T) → List (Row T)
  ensured_rows [] ensured rows = rows
  ensured_rows (name ∷ names) ensured rows = ensured_rows names ensured (with_type rows name (variable_type L ensured name))

  abbrev pub ensured_environment : List (List ℕ) → List (Row T) → Environment T → Environment T
  ensured_environment names ensured (Live rows) = Live (ensured_rows names ensured rows)
  ensured_environment names ensured Dead = Dead
  ensured_environment names ensured Silent = Silent

  abbrev pub ensured_left : List (List ℕ) → List (Row T) → Left T → Left T
  ensured_left names ensured l = record { ty = l.ty; rows = ensured_rows names ensured l.rows }

  -- "An `ensure` is judged once .. Its type is dropped. If it ends live, ..; else the whole is dead, has `T.noreturn` and no jump
  -- environment." The jumps that it makes itself are among those; "A whole whose `ensure` ends silent is silent."
  abbrev pub ensured_whole : Environment T → List (List ℕ) → T → Environment T → List (Left T) → List (Left T) → State T → Judged T
  ensured_whole (Live ensured) names ty ends breaks nexts s = judged ty (record s {
    environment = ensured_environment names ensured ends;
    breaks = map (ensured_left names ensured) breaks ++ s.breaks;
    nexts = map (ensured_left names ensured) nexts ++ s.nexts;
  })
  ensured_whole Dead names ty ends breaks nexts s = judged L.never (record s { environment = Dead; breaks = []; nexts = [] })
  ensured_whole Silent names ty ends breaks nexts s = judged L.never (record s { environment = Silent; breaks = []; nexts = [] })

  abbrev pub with_ensured : Environment T → List (List ℕ) → Rescuing T → State T → Judged T
  with_ensured e names r s = ensured_whole e names r.ty r.ends r.state.breaks r.state.nexts s

  -- the outer variables that it assigns
  abbrev pub ensured_names : Context T → Operand T X → List (List ℕ)
  ensured_names c ensure = names_ensured c ensure.declares ensure.assigns

  abbrev pub after_ensure : Part T X → Context T → Rescuing T → Judged T → Judged T
  after_ensure ensure c r j = with_ensured j.state.environment (ensured_names c ensure.it) r j.state

  -- "in the environment made as h from the assignments of all parts before it"
  abbrev pub with_ensure : Option (Part T X) → Context T → Environment T → Rescuing T → Judged T
  with_ensure None c v r = judged r.ty (moved r.ends r.state)
  with_ensure (Some ensure) c v r =
      after_ensure ensure (seeing r.visible c) r
      (ensure.it.judge (seeing r.visible c)
      (record r.state { environment = handled v r.state.assigned; breaks = []; nexts = [] }))

  -- ---- the whole

  -- the jumps and assignments of the whole, after those before it
  abbrev pub left_guard : State T → Judged T → Judged T
  left_guard before j = judged j.ty (record j.state {
    breaks = before.breaks ++ j.state.breaks;
    nexts = before.nexts ++ j.state.nexts;
    assigned = before.assigned ++ j.state.assigned;
  })

  abbrev pub rescuing : Environment T → List (List ℕ) → State T → Rescuing T
  rescuing v visible s = record { ty = L.never; ends = Dead; patterns = handled v s.assigned; visible = visible; state = s }

  abbrev pub after_first : Guarded (Part T X) → Context T → State T → Judged T → Judged T
  after_first g c before first =
      left_guard before
      (with_ensure g.ensure c before.environment
      (with_else g.otherwise c first
      (with_clauses g.rescues c (rescuing before.environment g.body.it.declares first.state))))

  -- 1. "Its first body is judged in v."
  abbrev pub guard_judged : Guarded (Part T X) → Run T
  guard_judged g c s = after_first g c s (g.body.it.judge c (record s { breaks = []; nexts = []; assigned = [] }))
