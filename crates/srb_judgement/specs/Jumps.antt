-- Jumps: `return`, `break` and `next`.
use Rattle.std.specs.Prelude.{Bool, true, false, List, [], ◌∷◌, ◌++◌, Option, Some, None}
use Rattle.srb_terms.specs.declared.span.Span.{Span}
use Rattle.rb_tree.specs.declared.syntax.Jump.{Jump}
use Rattle.rb_tree.specs.declared.syntax.Jump.TheVariants as jump
use Rattle.rb_views.specs.Places.{jump_word}
use Rattle.srb_judgement.specs.Environments.{Environment, Live, Dead, Silent}
use Rattle.srb_judgement.specs.Errors.{wrong_result}
use Rattle.srb_judgement.specs.Languages.{Language}
use Rattle.srb_judgement.specs.Parts.{Part}
use Rattle.srb_judgement.specs.States.{Context, State, Left, Judged, Run, judged, stopped, unless_error}
use Rattle.srb_judgement.specs.Types.{nil_type}

module _ {T : Type 0} where
  -- a jump environment, where the jump is reached
  abbrev pub left_in : Environment T → T → List (Left T) → List (Left T)
  left_in (Live rows) ty lefts = lefts ++ record { ty = ty; rows = rows } ∷ []
  left_in Dead ty lefts = lefts
  left_in Silent ty lefts = lefts

  abbrev pub with_break : T → State T → State T
  with_break ty s = record s { breaks = left_in s.environment ty s.breaks }

  abbrev pub with_next : T → State T → State T
  with_next ty s = record s { nexts = left_in s.environment ty s.nexts }

  -- "`break` and `next` outside loops and blocks act as `return` without a check."
  abbrev pub left_by : Bool → Jump → T → State T → State T
  left_by true jump.Break ty s = with_break ty s
  left_by true jump.Next ty s = with_next ty s
  left_by true jump.Return ty s = s
  left_by false word ty s = s

module _ {T X : Type 0} (L : Language T X) where
  abbrev pub checked_result : Option T → Span → T → State T → State T
  checked_result None place ty s = s
  checked_result (Some result) place ty s = unless_error (L.is_sub ty result) (wrong_result L place result ty) s

  -- "`return e` is checked against the result (7005)"
  abbrev pub checked_jump : Jump → Option T → Span → T → State T → State T
  checked_jump jump.Return result place ty s = checked_result result place ty s
  checked_jump jump.Break result place ty s = s
  checked_jump jump.Next result place ty s = s

  -- "`return e` .. is dead afterwards; so are `break` and `next`."
  abbrev pub jumped_by : Bool → Option T → Jump → Span → Judged T → Judged T
  jumped_by inside result word place j =
      judged L.never (stopped (left_by inside word j.ty (checked_jump word result place j.ty j.state)))

  abbrev pub jumped : Jump → Span → Context T → Judged T → Judged T
  jumped word place c j = jumped_by c.inside c.result word place j

  -- "Without a value they carry `NilClass`."
  abbrev pub jump_judged : Jump → Option (Part T X) → Span → Run T
  jump_judged word None span c s = jumped word (jump_word word span) c (judged (nil_type L) s)
  jump_judged word (Some e) span c s = jumped word e.it.span c (e.it.judge c s)
