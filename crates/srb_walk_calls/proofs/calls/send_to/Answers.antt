use Rattle.std.proofs.Common.{◌≡◌, IfOk, subst}
use Rattle.rb_views.specs.Prefixes.{seen_prefix}
use Rattle.srb_judgement.specs.Kept.{seen_context}
use Rattle.srb_judgement.specs.States.{judged}
use Rattle.srb_judgement.specs.Views.{seen_state}
use Rattle.srb_walk_calls.proofs.Forming.{sent_told}
use Rattle.srb_walk.specs.Endings.{prefix_operand}
use Rattle.srb_walk_calls.proofs.calls.send_to.Goals as goal

pub returns : goal.returns
returns g c = let the = g.L.Language.the c.args.language.now in
    subst (λ j. IfOk c.send.result (λ ty. judged ty (seen_state c.send.new.state) ≡ j))
    (sent_told the (prefix_operand the (seen_prefix c.args.front)) c.args.dot c.args.name.now c.args.name_span c.args.row.now c.args.own.now c.args.whole (seen_context c.args.context.now) (seen_state c.args.state.now))
    c.send.ensures
