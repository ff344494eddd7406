use Rattle.std.proofs.Common.{Result, Err, sym, ◌∙◌, subst}
use Rattle.run_serve.specs.declared.serve_end.ServeEnd.{ServeEnd}
use Rattle.run_serve.specs.Causes.{IsCauseBy}
use Rattle.run_serve.proofs.serving.cause_by.Goals as goal

pub returns-in-Some : goal.returns-in-Some
returns-in-Some c =
    subst (λ (r : Result (Unit {0}) ServeEnd). IsCauseBy r c.args.core.now.state c.cause_of.result) (sym c.in-Ok.is)
    (c.in-Some.end, sym c.end.ensures.end ∙ c.in-Some.is, c.cause_of.ensures)

pub returns-in-Err : goal.returns-in-Err
returns-in-Err c =
    subst (λ (r : Result (Unit {0}) ServeEnd). IsCauseBy r c.args.core.now.state c.cause_of_stop.result) (sym c.in-Err.is) c.cause_of_stop.ensures
