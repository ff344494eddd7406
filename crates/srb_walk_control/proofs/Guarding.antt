-- Guards: what a step gives is what the definitions say. What is done after a clause or an `else` doesn't read the environment of the state
-- after it.
use Rattle.std.proofs.Common.{◌≡◌, ℕ, List, [], ◌∷◌, ◌++◌, map, Option, Some, None, refl, ap, sym, ◌∙◌, append_assoc}
use Rattle.rb_tree.specs.declared.syntax.Guarded.{Guarded}
use Rattle.rb_tree.specs.declared.syntax.Rescue.{Rescue}
use Rattle.rb_tree.specs.declared.syntax.Tree.{Tree}
use Rattle.srb_terms.specs.declared.ty.Ty.{Ty}
use Rattle.srb_judgement.specs.Ends.{Ends, clause_ends, no_ends, with_end, with_first_end}
use Rattle.srb_judgement.specs.Environments.{Environment, Silent}
use Rattle.srb_judgement.specs.Guards.{Rescuing, after_ensure, after_first, caught, caught_in, caught_names, caught_type, ensured_names, ensured_whole, guard_judged, handled, left_guard, part_operand, part_spelling, rescuing, with_clause_end, with_clauses, with_else, with_else_end, with_ensure, with_first}
use Rattle.srb_judgement.specs.Languages.{Language}
use Rattle.srb_judgement.specs.Parts.{Part, Spelling}
use Rattle.srb_judgement.specs.Sequences.{all_declared, judge_all}
use Rattle.srb_judgement.specs.States.{Context, Judged, Left, Several, State, judged, moved, seeing}
use Rattle.srb_walk.specs.Known.{known_trees}
use Rattle.srb_walk.specs.Written.{spelling_of}
use Rattle.srb_walk_control.specs.Passed.{caught_after, caught_by, settled_rescuing}
use Rattle.srb_walk_control.proofs.Casing.{clauses_settled}

module _ {X : Type 0} (L : Language Ty X) where
  -- ---- clauses

  spellings_are : (row : List Tree) → map (spelling_of L) row ≡ map part_spelling (known_trees L row)
  spellings_are [] = refl
  spellings_are (t ∷ row) = ap (λ rest. spelling_of L t ∷ rest) (spellings_are row)

  -- what a clause catches, by how its patterns are spelled
  pub type_caught : (c : Context Ty) (row : List Tree) (spelled : List Spelling) (ty : Ty) → spelled ≡ map (spelling_of L) row →
      ty ≡ caught_in L c.scope spelled → ty ≡ caught_type L c (known_trees L row)
  type_caught c row spelled ty s h = h ∙ ap (λ r. caught_in L c.scope r) (s ∙ spellings_are row)

  -- a clause by what its patterns gave
  pub caught_is : (r : Rescue (Part Ty X)) (c inner : Context Ty) (so_far left : Rescuing Ty) (e : Environment Ty) (done : Rescuing Ty) (several : Several Ty) →
      inner ≡ seeing so_far.visible c →
      e ≡ so_far.patterns → left.ty ≡ so_far.ty → left.ends ≡ so_far.ends → left.visible ≡ so_far.visible →
      several ≡ judge_all (map part_operand r.patterns) inner (moved e so_far.state) →
      done ≡ caught_after L r c (record left { state = several.state }) several.state →
      done ≡ caught_by L r c so_far
  caught_is r c inner so_far left e done several n p t b v m h =
      h
      ∙ (λ i. caught_after L r c (record left { ty = t i; ends = b i; visible = v i; state = several.state }) several.state)
      ∙ ap (λ (x : Several Ty). caught_after L r c so_far x.state)
      (m ∙ (λ i. judge_all (map part_operand r.patterns) (n i) (moved (p i) so_far.state)))

  -- what is caught after the patterns
  pub after_is : (r : Rescue (Part Ty X)) (c : Context Ty) (so_far : Rescuing Ty) (s t : State Ty) (found : List (List ℕ)) (e : Environment Ty) →
      found ≡ (so_far.visible ++ all_declared (map part_operand r.patterns)) ++ caught_names r.variable →
      e ≡ s.environment → t ≡ caught L r.variable (caught_type L c r.patterns) c s →
      record so_far { patterns = e; visible = found; state = t } ≡ caught_after L r c so_far s
  after_is r c so_far s t found e n p h = λ i. record so_far { patterns = p i; visible = n i; state = h i }

  -- the body of a clause, and of an `else`, by its end
  pub body_is : (so_far : Rescuing Ty) (patterns : Environment Ty) (visible found : List (List ℕ)) (ends : Ends Ty) (j k : Judged Ty) (s : State Ty) →
      found ≡ visible → j ≡ k → ends ≡ with_end L (clause_ends L so_far) j → s ≡ moved Silent j.state →
      settled_rescuing (record { ty = ends.ty; ends = ends.environment; patterns = patterns; visible = found; state = s })
      ≡ settled_rescuing (with_clause_end L so_far patterns visible k)
  body_is so_far patterns visible found ends j k s n h e b =
      (λ i. settled_rescuing (record { ty = (e i).ty; ends = (e i).environment; patterns = patterns; visible = n i; state = b i }))
      ∙ ap (λ x. settled_rescuing (with_clause_end L so_far patterns visible x)) h

  pub else_is : (so_far : Rescuing Ty) (visible found : List (List ℕ)) (ends : Ends Ty) (after : Environment Ty) (j k : Judged Ty) (s : State Ty) →
      found ≡ visible → j ≡ k → after ≡ j.state.environment → ends ≡ with_first_end L (clause_ends L so_far) after j.ty → s ≡ moved Silent j.state →
      settled_rescuing (record { ty = ends.ty; ends = ends.environment; patterns = so_far.patterns; visible = found; state = s })
      ≡ settled_rescuing (with_else_end L so_far visible k)
  else_is so_far visible found ends after j k s n h q e b =
      (λ i. settled_rescuing (record { ty = (e i).ty; ends = (e i).environment; patterns = so_far.patterns; visible = n i; state = b i }))
      ∙ ap (λ at. settled_rescuing (with_first L (record so_far { visible = visible; state = j.state }) at j.ty)) q
      ∙ ap (λ x. settled_rescuing (with_else_end L so_far visible x)) h

  -- a clause, by what it caught
  abbrev pub clause_after : Part Ty X → Context Ty → Rescuing Ty → Rescuing Ty
  clause_after body c k = with_clause_end L k k.patterns (k.visible ++ body.it.declares) (body.it.judge (seeing k.visible c) k.state)

  after_caught : (r : Rescue (Part Ty X)) (c : Context Ty) (so_far : Rescuing Ty) (s : State Ty) →
      clause_after r.body c (caught_after L r c so_far s)
      ≡ with_clause_end L so_far s.environment ((so_far.visible ++ all_declared (map part_operand r.patterns)) ++ (caught_names r.variable ++ r.body.it.declares))
      (r.body.it.judge (seeing ((so_far.visible ++ all_declared (map part_operand r.patterns)) ++ caught_names r.variable) c) (caught_after L r c so_far s).state)
  after_caught r c so_far s =
      ap (λ visible. with_clause_end L so_far s.environment visible
      (r.body.it.judge (seeing ((so_far.visible ++ all_declared (map part_operand r.patterns)) ++ caught_names r.variable) c) (caught_after L r c so_far s).state))
      (append_assoc (so_far.visible ++ all_declared (map part_operand r.patterns)) (caught_names r.variable) r.body.it.declares)

  pub clause_is : (r : Rescue (Part Ty X)) (c : Context Ty) (so_far k : Rescuing Ty) → k ≡ caught_by L r c so_far →
      clause_after r.body c k ≡ with_clauses L (r ∷ []) c so_far
  clause_is r c so_far k h =
      ap (λ x. clause_after r.body c x) h
      ∙ after_caught r c so_far (judge_all (map part_operand r.patterns) (seeing so_far.visible c) (moved so_far.patterns so_far.state)).state

  -- ---- `else`

  pub else_settled : (otherwise : Option (Part Ty X)) (c : Context Ty) (first : Judged Ty) (a b : Rescuing Ty) → settled_rescuing a ≡ settled_rescuing b →
      settled_rescuing (with_else L otherwise c first a) ≡ settled_rescuing (with_else L otherwise c first b)
  else_settled None c first a b h = ap (λ x. settled_rescuing (with_else L None c first x)) h
  else_settled (Some e) c first a b h = ap (λ x. settled_rescuing (with_else L (Some e) c first x)) h

  -- of the first body it reads the type and the environment
  pub else_first : (otherwise : Option (Part Ty X)) (c : Context Ty) (ty : Ty) (e : Environment Ty) (s t : State Ty) (a : Rescuing Ty) →
      with_else L otherwise c (judged ty (moved e s)) a ≡ with_else L otherwise c (judged ty (moved e t)) a
  else_first None c ty e s t a = refl
  else_first (Some body) c ty e s t a = refl

  -- ---- `ensure`

  pub ensure_settled : (ensure : Option (Part Ty X)) (c : Context Ty) (v : Environment Ty) (a b : Rescuing Ty) → settled_rescuing a ≡ settled_rescuing b →
      with_ensure L ensure c v a ≡ with_ensure L ensure c v b
  ensure_settled None c v a b h = ap (λ x. with_ensure L None c v x) h
  ensure_settled (Some e) c v a b h = ap (λ x. with_ensure L (Some e) c v x) h

  -- an `ensure` by the ends, the jumps and the names that were kept
  pub ensure_is : (p : Part Ty X) (c : Context Ty) (r : Rescuing Ty) (ty : Ty) (ends : Environment Ty) (s start : State Ty) (names : List (List ℕ))
      (breaks nexts : List (Left Ty)) (j done : Judged Ty) →
      r ≡ record r { ty = ty; ends = ends; state = s } → names ≡ ensured_names L c p.it → breaks ≡ s.breaks → nexts ≡ s.nexts →
      j ≡ p.it.judge c start →
      done ≡ ensured_whole L j.state.environment names ty ends breaks nexts j.state →
      done ≡ after_ensure L p c r (p.it.judge c start)
  ensure_is p c r ty ends s start names breaks nexts j done q n b x k h =
      h
      ∙ (λ i. ensured_whole L j.state.environment (n i) ty ends (b i) (x i) j.state)
      ∙ (λ i. after_ensure L p c (sym q i) j)
      ∙ (λ i. after_ensure L p c r (k i))

  -- an `ensure`, with what is around it
  pub ensured_is : (p : Part Ty X) (c around : Context Ty) (v : Environment Ty) (r : Rescuing Ty) (done : Judged Ty) → around ≡ seeing r.visible c →
      done ≡ after_ensure L p around r (p.it.judge around (record r.state { environment = handled L v r.state.assigned; breaks = []; nexts = [] })) →
      done ≡ with_ensure L (Some p) c v r
  ensured_is p c around v r done k h =
      h ∙ ap (λ x. after_ensure L p x r (p.it.judge x (record r.state { environment = handled L v r.state.assigned; breaks = []; nexts = [] }))) k

  -- ---- the whole

  -- what stands after the first body
  pub rest_is : (clauses : List (Rescue (Part Ty X))) (otherwise ensure : Option (Part Ty X)) (c : Context Ty) (v : Environment Ty) (ty : Ty) (e : Environment Ty)
      (s t : State Ty) (start a b : Rescuing Ty) →
      settled_rescuing a ≡ settled_rescuing (with_clauses L clauses c start) →
      settled_rescuing b ≡ settled_rescuing (with_else L otherwise c (judged ty (moved e t)) a) →
      with_ensure L ensure c v b ≡ with_ensure L ensure c v (with_else L otherwise c (judged ty (moved e s)) (with_clauses L clauses c start))
  rest_is clauses otherwise ensure c v ty e s t start a b more last =
      ensure_settled ensure c v b (with_else L otherwise c (judged ty (moved e s)) (with_clauses L clauses c start))
      (last
      ∙ ap (λ x. settled_rescuing x) (else_first otherwise c ty e t s a)
      ∙ else_settled otherwise c (judged ty (moved e s)) a (with_clauses L clauses c start) more)

  -- the whole after its first body, from the state without its environment
  silent_is : (g : Guarded (Part Ty X)) (c : Context Ty) (v : Environment Ty) (visible : List (List ℕ)) (first : Judged Ty) →
      with_ensure L g.ensure c v
      (with_else L g.otherwise c first
      (with_clauses L g.rescues c (record (rescuing L v visible first.state) { state = moved Silent first.state })))
      ≡ with_ensure L g.ensure c v
      (with_else L g.otherwise c first
      (with_clauses L g.rescues c (rescuing L v visible first.state)))
  silent_is g c v visible first =
      ensure_settled g.ensure c v
      (with_else L g.otherwise c first (with_clauses L g.rescues c (record (rescuing L v visible first.state) { state = moved Silent first.state })))
      (with_else L g.otherwise c first (with_clauses L g.rescues c (rescuing L v visible first.state)))
      (else_settled g.otherwise c first
      (with_clauses L g.rescues c (record (rescuing L v visible first.state) { state = moved Silent first.state }))
      (with_clauses L g.rescues c (rescuing L v visible first.state))
      (clauses_settled L g.rescues c (record (rescuing L v visible first.state) { state = moved Silent first.state }) (rescuing L v visible first.state) refl))

  pub guard_is : (g : Guarded (Part Ty X)) (c : Context Ty) (s after aside : State Ty) (first done left : Judged Ty) (ends : Ends Ty)
      (patterns e : Environment Ty) (visible : List (List ℕ)) →
      aside ≡ record s { errors = [] } →
      first ≡ g.body.it.judge c (record s { breaks = []; nexts = []; assigned = [] }) →
      visible ≡ g.body.it.declares →
      patterns ≡ handled L aside.environment first.state.assigned →
      e ≡ first.state.environment →
      after ≡ moved Silent first.state →
      ends ≡ no_ends L →
      done ≡ with_ensure L g.ensure c aside.environment
      (with_else L g.otherwise c (judged first.ty (moved e after))
      (with_clauses L g.rescues c (record { ty = ends.ty; ends = ends.environment; patterns = patterns; visible = visible; state = after }))) →
      left ≡ left_guard L aside done →
      left ≡ guard_judged L g c s
  guard_is g c s after aside first done left ends patterns e visible a f n p q b t d l =
      l ∙ ap (λ j. left_guard L aside j)
      (d
      ∙ (λ i. with_ensure L g.ensure c aside.environment (with_else L g.otherwise c (judged first.ty (moved (q i) (b i)))
      (with_clauses L g.rescues c (record { ty = (t i).ty; ends = (t i).environment; patterns = p i; visible = n i; state = b i }))))
      ∙ silent_is g c aside.environment g.body.it.declares first)
      ∙ (λ i. after_first L g c (a i) first)
      ∙ (λ i. after_first L g c s (f i))
