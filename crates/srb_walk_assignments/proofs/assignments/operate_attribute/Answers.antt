use Rattle.std.proofs.Common.{◌≡◌, ◌∙◌, IfOk, subst}
use Rattle.rb_views.specs.Prefixes.{seen_prefix}
use Rattle.srb_judgement.specs.Judgements.{part_of}
use Rattle.srb_judgement.specs.Kept.{seen_context}
use Rattle.srb_judgement.specs.States.{judged, seeing}
use Rattle.srb_judgement.specs.Views.{seen_arguments, seen_state}
use Rattle.srb_walk_assignments.proofs.Assigning.{operated_attribute_is}
use Rattle.srb_walk.specs.Endings.{prefix_operand}
use Rattle.srb_walk_assignments.proofs.assignments.operate_attribute.Goals as goal

pub returns : goal.returns
returns g c =
    let the = g.L.Language.the c.args.language.now in
    let front = prefix_operand the (seen_prefix c.args.front) in
    subst (λ j. IfOk c.operate_call.result (λ ty. judged ty (seen_state c.operate_call.new.state) ≡ j))
    (operated_attribute_is the (part_of the c.args.value.now).it c.args.operator c.args.place c.args.whole c.in_ok-receiver.receiver c.args.name.now c.in_ok-writes.writes c.args.name_span
    (seeing front.declares (seen_context c.args.context.now)) (seen_context c.of.result.now) (seen_state c.chained.new.state)
    (seen_arguments c.no_arguments-none.result (seen_state c.chained.new.state)) (front.judge (seen_context c.args.context.now) (seen_state c.args.state.now))
    (c.no_arguments-none.ensures (seen_state c.chained.new.state)) c.in_ok-writes.ensures (c.of.ensures ∙ c.in_ok-inner.ensures) c.in_ok-receiver.ensures)
    c.operate_call.ensures
