-- Expressions in environments that are live, dead and silent.
use Rattle.std.specs.Prelude.{Bool, true, false}
use Rattle.srb_terms.specs.declared.span.Span.{Span}
use Rattle.srb_judgement.specs.Environments.{Environment, Live, Dead, Silent, ended}
use Rattle.srb_judgement.specs.Errors.{unreachable}
use Rattle.srb_judgement.specs.Languages.{Language}
use Rattle.srb_judgement.specs.States.{State, Judged, Tested, Run, Test, judged, moved, stopped, with_error}
use Rattle.srb_judgement.specs.Types.{truthy, falsy}

abbrev pub both_sides : {T : Type 0} → Judged T → Tested T
both_sides j = record { ty = j.ty; truth = j.state.environment; falsehood = j.state.environment; state = j.state }

-- "other: judged", on both sides
abbrev pub judged_only : {T : Type 0} → Run T → Test T
judged_only run c s = both_sides (run c s)

abbrev pub ended_if : {T : Type 0} → Bool → Environment T → Environment T
ended_if true e = ended e
ended_if false e = e

module _ {T X : Type 0} (L : Language T X) where
  abbrev pub stopped_if : Bool → T → State T → Judged T
  stopped_if true ty s = judged ty (stopped s)
  stopped_if false ty s = judged ty s

  -- "An expression whose type is `T.noreturn` makes a live environment dead."
  abbrev pub closed : Judged T → Judged T
  closed j = stopped_if (L.is_never j.ty) j.ty j.state

  -- "Judging an expression in a dead environment gives 7006 at it, the type `T.noreturn` and the silent one; in a silent one it gives
  -- nothing, `T.noreturn` and the silent one."
  abbrev pub reached : Environment T → Span → Run T → Run T
  reached (Live rows) span run c s = closed (run c s)
  reached Dead span run c s = judged L.never (with_error (unreachable span) (moved Silent s))
  reached Silent span run c s = judged L.never s

  -- an expression at this place
  abbrev pub expression : Span → Run T → Run T
  expression span run c s = reached s.environment span run c s

  -- ---- conditions

  -- "A side .. which the type of e excludes (`truthy` or `falsy` has no part), is dead."
  abbrev pub excluding : Tested T → Tested T
  excluding t = record t {
    truth = ended_if (L.is_never (truthy L t.ty)) t.truth;
    falsehood = ended_if (L.is_never (falsy L t.ty)) t.falsehood;
  }

  abbrev pub unreached : State T → Tested T
  unreached s = record { ty = L.never; truth = Silent; falsehood = Silent; state = s }

  abbrev pub tested_reached : Environment T → Span → Test T → Test T
  tested_reached (Live rows) span test c s = excluding (test c s)
  tested_reached Dead span test c s = unreached (with_error (unreachable span) (moved Silent s))
  tested_reached Silent span test c s = unreached s

  -- an expression at this place, as a condition
  abbrev pub condition : Span → Test T → Test T
  condition span test c s = tested_reached s.environment span test c s
