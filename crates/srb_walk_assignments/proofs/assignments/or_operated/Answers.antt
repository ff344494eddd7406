use Rattle.std.proofs.lemmas.Result.{IfOk-weaker}
use Rattle.srb_judgement.specs.Judgements.{part_of}
use Rattle.srb_judgement.specs.Kept.{seen_context}
use Rattle.srb_judgement.specs.Narrowing.{saying}
use Rattle.srb_judgement.specs.Reaching.{excluding}
use Rattle.srb_judgement.specs.States.{judged}
use Rattle.srb_judgement.specs.Views.{seen_says, seen_state, seen_tested}
use Rattle.srb_walk_assignments.proofs.Assigning.{or_read}
use Rattle.srb_walk_assignments.proofs.assignments.or_operated.Goals as goal

pub returns : goal.returns
returns g c =
    let the = g.L.Language.the c.args.language.now in
    IfOk-weaker c.or_right.result _ _
    (λ ty h. or_read the (part_of the c.args.value.now).it.judge (seen_context c.args.context.now)
    (seen_tested c.in_ok-tested.tested (seen_state c.read_tested.new.state))
    (excluding the (saying the (seen_says c.args.says.now) (judged c.args.read (seen_state c.args.state.now))))
    (judged ty (seen_state c.or_right.new.state)) c.in_ok-tested.ensures h)
    c.or_right.ensures
