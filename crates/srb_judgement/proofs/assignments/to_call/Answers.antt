use Rattle.std.proofs.Common.{None, ap, ◌∙◌}
use Rattle.srb_terms.specs.declared.ty.Ty.{Ty}
use Rattle.srb_judgement.specs.Calls.{call_with}
use Rattle.srb_judgement.specs.States.{Judged, judged}
use Rattle.srb_judgement.specs.Views.{seen_state}
use Rattle.srb_judgement.proofs.Steps.{value_last}
use Rattle.srb_judgement.proofs.assignments.to_call.Goals as goal

pub returns : goal.returns
returns g c = λ k s.
    let L = g.L.Language.the c.args.language.now in
    ap (λ (j : Judged Ty). judged c.args.ty.now j.state)
    (c.in_ok-_answer.ensures k
    ∙ ap (λ a. call_with L None c.args.receiver.now c.args.name.now c.args.name_span k a)
    (value_last c.args.arguments c.in_ok-all.all (record { ty = c.args.ty.now; span = c.args.place }) (seen_state c.args.state.now)
    c.in_ok-all.ensures.positional c.in_ok-all.ensures.keys))
