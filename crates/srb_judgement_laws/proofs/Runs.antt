-- Steps that add an error at a fine place, or none, keep what was fine: rows of expressions, literals, pins, and expressions that are reached.
use Rattle.std.proofs.Common.{ℕ, Bool, true, false, List, [], ◌∷◌, ◌++◌, map, codes, Option, Some, None}
use Rattle.srb_terms.specs.declared.diag.Diag.{Diag}
use Rattle.srb_terms.specs.declared.span.Span.{Span}
use Rattle.rb_tree.specs.declared.syntax.Pair.{Pair}
use Rattle.rb_tree.specs.declared.syntax.Pair.TheVariants as pair
use Rattle.rb_tree.specs.declared.syntax.Piece.{Piece}
use Rattle.rb_tree.specs.declared.syntax.Piece.TheVariants as piece
use Rattle.rb_grammar.specs.Places.{Each}
use Rattle.srb_judgement.specs.Environments.{Environment, Live, Dead, Silent}
use Rattle.srb_judgement.specs.Errors.{unreachable, stays, not_declared}
use Rattle.srb_judgement.specs.Languages.{Language}
use Rattle.srb_judgement.specs.Parts.{Operand, Part, Standing, SigStatement, DeclaringCall, PlainStatement}
use Rattle.srb_judgement.specs.Pins.{kept, assigned_by, assign}
use Rattle.srb_judgement.specs.Reaching.{stopped_if, closed, reached, expression, tested_reached, condition}
use Rattle.srb_judgement.specs.Sequences.{none_yet, and_one, judge_more, judge_all, judge_statements, empty_body, body, judge_in_class, judge_class_statements, class_body}
use Rattle.srb_judgement.specs.States.{Context, State, Judged, Several, Run, Test, moved, seeing, given, with_error, unless_error}
use Rattle.srb_judgement.specs.Words.{judge_pieces, text, array, with_key, with_arrow, judge_pairs, hash, declared_or, instance_variable}
use Rattle.srb_judgement_laws.proofs.Fine.{IsAt, Fine, FineRun, FineTest, FineOperand, FinePart, FinePiece, FinePair}

pub each-append : {A : Type 0} (Q : A → Type 0) (xs ys : List A) → Each Q xs → Each Q ys → Each Q (xs ++ ys)
each-append Q [] ys h k = k
each-append Q (x ∷ xs) ys h k = (h.0, each-append Q xs ys h.1 k)

module _ {T X : Type 0} (L : Language T X) (P : Span → Type 0) where
  -- ---- errors

  pub with-fine : (e : Diag) (s : State T) → P e.span → Fine P s → Fine P (with_error e s)
  with-fine e s h k = each-append (IsAt P) s.errors (e ∷ []) k (h, tt)

  pub unless-fine : (b : Bool) (e : Diag) (s : State T) → P e.span → Fine P s → Fine P (unless_error b e s)
  unless-fine true e s h k = k
  unless-fine false e s h k = with-fine e s h k

  -- ---- pins

  kept-fine : (b : Bool) (name : List ℕ) (pinned ty : T) (span : Span) (s : State T) → P span → Fine P s → Fine P (kept L b name pinned ty span s)
  kept-fine true name pinned ty span s h k = k
  kept-fine false name pinned ty span s h k = with-fine (stays L span name pinned ty) (given name pinned s) h k

  assigned-by-fine : (o : Option T) (name : List ℕ) (ty : T) (span : Span) (s : State T) → P span → Fine P s → Fine P (assigned_by L o name ty span s)
  assigned-by-fine None name ty span s h k = k
  assigned-by-fine (Some pinned) name ty span s h k = kept-fine (L.is_sub ty pinned) name pinned ty span s h k

  pub assign-fine : (c : Context T) (name : List ℕ) (ty : T) (span : Span) (s : State T) → P span → Fine P s → Fine P (assign L c name ty span s)
  assign-fine c name ty span s h k = assigned-by-fine (c.pins name) name ty span s h k

  -- ---- expressions that are reached

  stopped-fine : (b : Bool) (ty : T) (s : State T) → Fine P s → Fine P (stopped_if L b ty s).state
  stopped-fine true ty s k = k
  stopped-fine false ty s k = k

  pub closed-fine : (j : Judged T) → Fine P j.state → Fine P (closed L j).state
  closed-fine j k = stopped-fine (L.is_never j.ty) j.ty j.state k

  reached-fine : (e : Environment T) (span : Span) (run : Run T) → P span → FineRun P run → (c : Context T) (s : State T) → Fine P s →
      Fine P (reached L e span run c s).state
  reached-fine (Live rows) span run h f c s k = closed-fine (run c s) (f c s k)
  reached-fine Dead span run h f c s k = with-fine (unreachable span) (moved Silent s) h k
  reached-fine Silent span run h f c s k = k

  pub expression-fine : (span : Span) (run : Run T) → P span → FineRun P run → FineRun P (expression L span run)
  expression-fine span run h f c s k = reached-fine s.environment span run h f c s k

  tested-fine : (e : Environment T) (span : Span) (test : Test T) → P span → FineTest P test → (c : Context T) (s : State T) → Fine P s →
      Fine P (tested_reached L e span test c s).state
  tested-fine (Live rows) span test h f c s k = f c s k
  tested-fine Dead span test h f c s k = with-fine (unreachable span) (moved Silent s) h k
  tested-fine Silent span test h f c s k = k

  pub condition-fine : (span : Span) (test : Test T) → P span → FineTest P test → FineTest P (condition L span test)
  condition-fine span test h f c s k = tested-fine s.environment span test h f c s k

  -- ---- one after the other

  more-fine : (os : List (Operand T X)) → Each (FineOperand P) os → (c : Context T) (v : Several T) → Fine P v.state → Fine P (judge_more os c v).state
  more-fine [] h c v k = k
  more-fine (o ∷ os) h c v k = more-fine os h.1 (seeing o.declares c) (and_one v.types (o.judge c v.state)) (h.0.run c v.state k)

  pub all-fine : (os : List (Operand T X)) → Each (FineOperand P) os → (c : Context T) (s : State T) → Fine P s → Fine P (judge_all os c s).state
  all-fine os h c s k = more-fine os h c (none_yet s) k

  -- parts as operands
  pub operands-fine : (ps : List (Part T X)) → Each (FinePart P) ps → Each (FineOperand P) (map (λ (p : Part T X). p.it) ps)
  operands-fine [] h = tt
  operands-fine (p ∷ ps) h = (h.0.it, operands-fine ps h.1)

  statements-fine : (ps : List (Part T X)) → Each (FinePart P) ps → (c : Context T) (j : Judged T) → Fine P j.state → Fine P (judge_statements ps c j).state
  statements-fine [] h c j k = k
  statements-fine (p ∷ ps) h c j k = statements-fine ps h.1 (seeing p.it.declares c) (p.it.judge c j.state) (h.0.it.run c j.state k)

  pub body-fine : (ps : List (Part T X)) → Each (FinePart P) ps → FineRun P (body L ps)
  body-fine ps h c s k = statements-fine ps h c (empty_body L s) k

  in-class-fine : (b : Standing) (p : Part T X) → FinePart P p → FineRun P (judge_in_class L b p)
  in-class-fine PlainStatement p h c s k = h.it.run c s k
  in-class-fine SigStatement p h c s k = k
  in-class-fine DeclaringCall p h c s k = k

  class-statements-fine : (ps : List (Part T X)) → Each (FinePart P) ps → (c : Context T) (j : Judged T) → Fine P j.state →
      Fine P (judge_class_statements L ps c j).state
  class-statements-fine [] h c j k = k
  class-statements-fine (p ∷ ps) h c j k =
      class-statements-fine ps h.1 (seeing p.it.declares c) (judge_in_class L p.standing p c j.state) (in-class-fine p.standing p h.0 c j.state k)

  pub class-body-fine : (ps : List (Part T X)) → Each (FinePart P) ps → FineRun P (class_body L ps)
  class-body-fine ps h c s k = class-statements-fine ps h c (empty_body L s) k

  -- ---- literals and variables

  pieces-fine : (ps : List (Piece (Part T X))) → Each (FinePiece P) ps → (c : Context T) (s : State T) → Fine P s → Fine P (judge_pieces L ps c s)
  pieces-fine [] h c s k = k
  pieces-fine (piece.Words words span ∷ ps) h c s k = pieces-fine ps h.1 c s k
  pieces-fine (piece.Code part span ∷ ps) h c s k =
      pieces-fine ps h.1 (seeing part.it.declares c) (part.it.judge c s).state (h.0.it.run c s k)

  pub text-fine : (ps : List (Piece (Part T X))) → Each (FinePiece P) ps → FineRun P (text L ps)
  text-fine ps h c s k = pieces-fine ps h c s k

  pub array-fine : (os : List (Operand T X)) → Each (FineOperand P) os → FineRun P (array L os)
  array-fine os h c s k = all-fine os h c s k

  pairs-fine : (ps : List (Pair (Part T X))) → Each (FinePair P) ps → (c : Context T) (v : record { keys : List T; values : List T; state : State T }) →
      Fine P v.state → Fine P (judge_pairs L ps c v).state
  pairs-fine [] h c v k = k
  pairs-fine (pair.Arrow key value ∷ ps) h c v k =
      pairs-fine ps h.1 (seeing (key.it.declares ++ value.it.declares) c)
      (with_arrow L v.keys v.values value.it (seeing key.it.declares c) (key.it.judge c v.state))
      (h.0.1.it.run (seeing key.it.declares c) (key.it.judge c v.state).state (h.0.0.it.run c v.state k))
  pairs-fine (pair.Label name span value ∷ ps) h c v k =
      pairs-fine ps h.1 (seeing value.it.declares c) (with_key L v.keys v.values (L.instance (codes "Symbol")) (value.it.judge c v.state))
      (h.0.it.run c v.state k)

  pub hash-fine : (ps : List (Pair (Part T X))) → Each (FinePair P) ps → FineRun P (hash L ps)
  hash-fine ps h c s k = pairs-fine ps h c (record { keys = []; values = []; state = s }) k

  declared-fine : (o : Option T) (name : List ℕ) (span : Span) (s : State T) → P span → Fine P s → Fine P (declared_or L o name span s).state
  declared-fine (Some ty) name span s h k = k
  declared-fine None name span s h k = with-fine (not_declared span name) s h k

  pub instance-variable-fine : (name : List ℕ) (span : Span) → P span → FineRun P (instance_variable L name span)
  instance-variable-fine name span h c s k = declared-fine (L.instance_variable c.owner c.meta name) name span s h k
