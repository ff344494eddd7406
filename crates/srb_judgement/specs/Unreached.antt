-- Expressions in environments that aren't live, by the environment alone.
use Rattle.std.specs.Prelude.{◌≡◌, Bool, true, false, refl}
use Rattle.srb_terms.specs.declared.span.Span.{Span}
use Rattle.srb_judgement.specs.Environments.{Environment, Live, Dead, Silent, is_live}
use Rattle.srb_judgement.specs.Errors.{unreachable}
use Rattle.srb_judgement.specs.Languages.{Language}
use Rattle.srb_judgement.specs.Reaching.{closed, excluding, reached, tested_reached, unreached}
use Rattle.srb_judgement.specs.States.{State, Judged, Tested, Run, Test, judged, moved, with_error}

-- "Judging an expression in a dead environment gives 7006 at it, .. and the silent one; in a silent one it gives nothing .. and the silent
-- one."
abbrev pub told : {T : Type 0} → Environment T → Span → State T → State T
told (Live rows) span s = s
told Dead span s = with_error (unreachable span) (moved Silent s)
told Silent span s = s

module _ {T X : Type 0} (L : Language T X) where
  -- "the type `T.noreturn`"
  abbrev pub not_reached : Environment T → Span → State T → Judged T
  not_reached e span s = judged L.never (told e span s)

  abbrev pub not_tested : Environment T → Span → State T → Tested T
  not_tested e span s = unreached L (told e span s)

  -- ---- the rule for each environment is these for those that aren't live, and the expression's own for a live one

  abbrev pub by_life : Bool → Judged T → Judged T → Judged T
  by_life true own other = own
  by_life false own other = other

  abbrev pub tested_by_life : Bool → Tested T → Tested T → Tested T
  tested_by_life true own other = own
  tested_by_life false own other = other

  pub reached_by_life : (e : Environment T) (span : Span) (run : Run T) (c : _) (s : State T) →
      reached L e span run c s ≡ by_life (is_live e) (closed L (run c s)) (not_reached e span s)
  reached_by_life (Live rows) span run c s = refl
  reached_by_life Dead span run c s = refl
  reached_by_life Silent span run c s = refl

  pub tested_by_its_life : (e : Environment T) (span : Span) (test : Test T) (c : _) (s : State T) →
      tested_reached L e span test c s ≡ tested_by_life (is_live e) (excluding L (test c s)) (not_tested e span s)
  tested_by_its_life (Live rows) span test c s = refl
  tested_by_its_life Dead span test c s = refl
  tested_by_its_life Silent span test c s = refl
