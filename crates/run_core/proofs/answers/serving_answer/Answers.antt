use Rattle.std.proofs.Common.{sym, ap, ◌∙◌}
use Rattle.run_core.specs.Sessions.{answer_of, when_serving}
use Rattle.run_core.proofs.answers.serving_answer.Goals as goal

pub returns-in-BadParams : goal.returns-in-BadParams
returns-in-BadParams c = λ d none. c.bad_params.ensures d ∙ ap (λ m. answer_of (when_serving d m)) (sym c.in-BadParams.is)
