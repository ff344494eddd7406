use Rattle.std.proofs.Common.{◌≡◌, [], drop}
use Rattle.srb_judgement.specs.Errors.{is_shown}
use Rattle.srb_judgement.specs.Steps.{passed}
use Rattle.srb_judgement.proofs.errors.all_shown.Given as goal

abbrev pub invariant-errors : goal.invariant-errors
invariant-errors l =
    passed (λ e. is_shown l.level e.number) l.shown (drop l.error-index l.errors) ≡ passed (λ e. is_shown l.level e.number) [] l.errors
