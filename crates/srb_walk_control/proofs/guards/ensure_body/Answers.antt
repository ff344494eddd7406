use Rattle.std.proofs.Common.{[], map, refl, ap, ◌∙◌}
use Rattle.std.proofs.lemmas.Result.{IfOk-weaker}
use Rattle.srb_judgement.specs.Guards.{ensured_names, handled}
use Rattle.srb_judgement.specs.Judgements.{part_of}
use Rattle.srb_judgement.specs.Kept.{seen_context}
use Rattle.srb_judgement.specs.States.{judged}
use Rattle.srb_judgement.specs.Views.{seen_environment, seen_left, seen_state}
use Rattle.srb_judgement.specs.declared.states.Jumps as jumps
use Rattle.srb_walk_control.proofs.Guarding.{ensure_is}
use Rattle.srb_walk_control.proofs.guards.ensure_body.Goals as goal

pub returns : goal.returns
returns g c =
    let the = g.L.Language.the c.args.language.now in
    let part = part_of the c.args.body.now in
    let around = seen_context c.args.context.now in
    let before = seen_state c.args.state.now in
    IfOk-weaker c.leave_ensure.result _ _
    (λ ty h r q. ensure_is the part around r c.args.ends.now.ty (seen_environment c.args.ends.now.environment) before
    (record before { environment = handled the (seen_environment c.args.entry.now) before.assigned; breaks = []; nexts = [] })
    (ensured_names the around part.it) (map seen_left c.in_ok-jumps.jumps.breaks) (map seen_left c.in_ok-jumps.jumps.nexts)
    (judged c.in_ok-judge.field-0 (seen_state c.judge.new.state)) (judged ty (seen_state c.leave_ensure.new.state))
    q refl
    (ap (λ (x : jumps.Jumps). map seen_left x.breaks) c.in_ok-jumps.ensures.jumps)
    (ap (λ (x : jumps.Jumps). map seen_left x.nexts) c.in_ok-jumps.ensures.jumps)
    (c.in_ok-judge.ensures ∙ ap (λ s. part.it.judge around s) c.in_ok-jumps.ensures.state) h)
    c.leave_ensure.ensures
