use Rattle.std.proofs.Common.{refl}
use Rattle.std.proofs.lemmas.Result.{IfOk-weaker}
use Rattle.srb_judgement.specs.Kept.{seen_context}
use Rattle.srb_judgement.specs.States.{judged}
use Rattle.srb_judgement.specs.Views.{seen_state}
use Rattle.srb_walk.proofs.Operating.{called_alone}
use Rattle.srb_infer.proofs.walk.self_named.Goals as goal

pub returns : goal.returns
returns g c =
    IfOk-weaker c.alone.result _ _
    (λ ty h. called_alone (g.L.Language.the c.args.language.now) c.args.context.now.self_type c.args.name.now c.args.name.now c.args.span
    (seen_context c.args.context.now) (seen_state c.args.state.now) (record { positional = c.new.result; keys = c.new-2.result })
    (judged ty (seen_state c.alone.new.state)) c.new.ensures c.new-2.ensures refl h)
    c.alone.ensures
