use Rattle.std.proofs.Common.{ap, ◌∙◌}
use Rattle.std.proofs.lemmas.Result.{on_ok_weaker}
use Rattle.srb_judgement.specs.States.{moved, without_jumps}
use Rattle.srb_judgement.specs.Views.{seen_state}
use Rattle.srb_judgement.proofs.Steps.{unseen_new}
use Rattle.srb_judgement.proofs.loops.head.Goals as goal

pub returns-clause-state : goal.returns-clause-state
returns-clause-state g c =
    let L = g.L.Language.the c.args.language.now in
    let s = seen_state c.args.state.now in
    on_ok_weaker c.head_with.result
    (λ h. h ∙ ap (λ e. without_jumps (moved e s)) (unseen_new L c.args.context.now L.untyped c.args.assigns.now s.environment))
    c.head_with.ensures.state
