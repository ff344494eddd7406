use Rattle.std.proofs.Common.{◌≡◌, IfOk, map, ap, subst}
use Rattle.srb_judgement.specs.Kept.{seen_context}
use Rattle.srb_judgement.specs.States.{judged}
use Rattle.srb_judgement.specs.Views.{seen_left, seen_state}
use Rattle.srb_walk_control.proofs.Looping.{modified_is}
use Rattle.srb_walk_control.proofs.loops.modified_loop.Goals as goal

pub returns : goal.returns
returns g c = let the = g.L.Language.the c.args.language.now in
    subst (λ j. IfOk c.after_body.result (λ ty. judged ty (seen_state c.after_body.new.state) ≡ j))
    (modified_is the c.args.which c.args.statement.now c.args.condition.now (seen_context c.args.context.now) (seen_context c.in_ok-inner.inner)
    (seen_state c.args.state.now) (seen_state c.to_head.new.state) (map seen_left c.in_ok-outer.outer.breaks) (map seen_left c.in_ok-outer.outer.nexts)
    c.in_ok-inner.ensures c.in_ok-outer.ensures.state
    (ap (λ jumps. map seen_left jumps.breaks) c.in_ok-outer.ensures.jumps) (ap (λ jumps. map seen_left jumps.nexts) c.in_ok-outer.ensures.jumps))
    c.after_body.ensures
