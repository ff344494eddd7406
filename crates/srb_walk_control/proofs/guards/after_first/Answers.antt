use Rattle.std.proofs.Common.{◌≡◌, IfOk, ap, ◌∙◌, subst}
use Rattle.srb_judgement.specs.Guards.{with_clauses}
use Rattle.srb_judgement.specs.Kept.{seen_context}
use Rattle.srb_judgement.specs.States.{judged}
use Rattle.srb_judgement.specs.Views.{seen_environment, seen_state}
use Rattle.srb_walk.specs.Known.{known_option, known_rescues}
use Rattle.srb_walk_control.specs.Passed.{seen_rescuing, settled_rescuing}
use Rattle.srb_walk_control.proofs.Guarding.{rest_is}
use Rattle.srb_walk_control.proofs.guards.after_first.Goals as goal

pub returns : goal.returns
returns g c = let the = g.L.Language.the c.args.language.now in
    let start = seen_rescuing c.args.so_far.now (seen_state c.args.state.now) in
    subst (λ j. IfOk c.ensured.result (λ ty. judged ty (seen_state c.ensured.new.state) ≡ j))
    (rest_is the (known_rescues the c.args.guarded.now.rescues) (known_option the c.args.guarded.now.otherwise) (known_option the c.args.guarded.now.ensure)
    (seen_context c.args.context.now) (seen_environment c.args.entry.now) c.args.first (seen_environment c.args.after)
    (seen_state c.args.state.now) (seen_state c.clauses.new.state) start
    (seen_rescuing c.clauses.new.so_far (seen_state c.clauses.new.state)) (seen_rescuing c.guard_else.new.so_far (seen_state c.guard_else.new.state))
    (c.in_ok-clauses.ensures ∙ ap (λ row. settled_rescuing (with_clauses the (known_rescues the row) (seen_context c.args.context.now) start)) c.as_slice.ensures)
    c.in_ok-guard_else.ensures)
    c.ensured.ensures
