use Rattle.std.proofs.Common.{◌≡◌, false, IfOk, map, refl, ap, ◌∙◌, subst}
use Rattle.srb_judgement.specs.Branches.{turned}
use Rattle.srb_judgement.specs.Kept.{seen_context}
use Rattle.srb_judgement.specs.States.{judged, seeing}
use Rattle.srb_judgement.specs.Views.{seen_left, seen_state, seen_tested, settled}
use Rattle.srb_walk.specs.Assigned.{names_of}
use Rattle.srb_walk.specs.Judging.{test_of}
use Rattle.srb_walk_control.proofs.Looping.{inside_is}
use Rattle.srb_walk_control.proofs.loops.after_body.Goals as goal

pub returns : goal.returns
returns g c = let the = g.L.Language.the c.args.language.now in let around = seen_context c.args.context.now in
    let test = turned c.args.which (test_of the c.args.condition.now (seeing (names_of the false c.args.body.now) around) (seen_state c.args.state.now)) in
    subst (λ j. IfOk c.loop_body.result (λ ty. judged ty (seen_state c.loop_body.new.state) ≡ j))
    (inside_is the c.args.body.now around around
    (seen_state c.args.state.now) (map seen_left c.args.outer.breaks) (map seen_left c.args.outer.nexts) (seen_tested c.in_ok-tested.tested (seen_state c.test_condition.new.state))
    test refl
    (c.in_ok-tested.ensures ∙ ap (λ x. settled (turned c.args.which (test_of the c.args.condition.now x (seen_state c.args.state.now)))) (c.of.ensures ∙ c.in_ok-beside.ensures)))
    c.loop_body.ensures
