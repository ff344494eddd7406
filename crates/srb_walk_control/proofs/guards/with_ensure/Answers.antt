use Rattle.std.proofs.Common.{ap, refl, ◌∙◌}
use Rattle.std.proofs.lemmas.Result.{IfOk-weaker}
use Rattle.srb_judgement.specs.Judgements.{part_of}
use Rattle.srb_judgement.specs.Kept.{seen_context}
use Rattle.srb_judgement.specs.States.{judged, seeing}
use Rattle.srb_judgement.specs.Views.{seen_environment, seen_state}
use Rattle.srb_walk_control.specs.Passed.{seen_rescuing}
use Rattle.srb_walk_control.proofs.Guarding.{ensured_is}
use Rattle.srb_walk_control.proofs.guards.with_ensure.Goals as goal

pub returns : goal.returns
returns g c =
    let the = g.L.Language.the c.args.language.now in
    let so_far = seen_rescuing c.args.so_far.now (seen_state c.args.state.now) in
    IfOk-weaker c.ensure_body.result _ _
    (λ ty h. ensured_is the (part_of the c.args.body.now) (seen_context c.args.context.now) (seen_context c.of.result.now) (seen_environment c.args.entry.now)
    so_far (judged ty (seen_state c.ensure_body.new.state))
    (c.of.ensures ∙ c.in_ok-inner.ensures ∙ ap (λ names. seeing names (seen_context c.args.context.now)) c.as_slice.ensures) (h so_far refl))
    c.ensure_body.ensures
