use Rattle.std.proofs.lemmas.Result.{IfOk-weaker}
use Rattle.srb_judgement.specs.States.{judged}
use Rattle.srb_judgement.specs.Views.{seen_state}
use Rattle.srb_walk.proofs.Operating.{called_alone}
use Rattle.srb_walk.proofs.operators.prefix_call.Goals as goal

pub returns : goal.returns
returns g c =
    IfOk-weaker c.call_alone.result _ _
    (λ ty h around. called_alone (g.L.Language.the c.args.language.now) c.args.receiver.now c.args.name.now c.in_ok-name.name c.args.place around
    (seen_state c.args.state.now) (record { positional = c.new.result; keys = c.new-2.result }) (judged ty (seen_state c.call_alone.new.state))
    c.new.ensures c.new-2.ensures c.in_ok-name.ensures (h around))
    c.call_alone.ensures
