use Rattle.std.proofs.Common.{◌≡◌, ◌∙◌, IfOk, subst}
use Rattle.rb_views.specs.Prefixes.{seen_prefix}
use Rattle.srb_judgement.specs.Chains.{operands_of}
use Rattle.srb_judgement.specs.Judgements.{part_of}
use Rattle.srb_judgement.specs.Kept.{seen_context}
use Rattle.srb_judgement.specs.States.{judged, seeing}
use Rattle.srb_judgement.specs.Views.{seen_state}
use Rattle.srb_walk.specs.Endings.{prefix_operand}
use Rattle.srb_walk.specs.Known.{known_arguments}
use Rattle.srb_walk_assignments.proofs.Assigning.{index_assigned_in}
use Rattle.srb_walk_assignments.proofs.assignments.assign_index.Goals as goal

pub returns : goal.returns
returns g c =
    let the = g.L.Language.the c.args.language.now in
    let front = prefix_operand the (seen_prefix c.args.front) in
    subst (λ j. IfOk c.index_after.result (λ ty. judged ty (seen_state c.index_after.new.state) ≡ j))
    (index_assigned_in the (part_of the c.args.value.now).it (operands_of (known_arguments the c.args.row.now)) c.args.bracket
    (seeing front.declares (seen_context c.args.context.now)) (seen_context c.of.result.now)
    (judged c.in_ok-receiver.receiver (seen_state c.chained.new.state)) (front.judge (seen_context c.args.context.now) (seen_state c.args.state.now))
    (c.of.ensures ∙ c.in_ok-inner.ensures) c.in_ok-receiver.ensures)
    c.index_after.ensures
