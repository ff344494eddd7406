use Rattle.std.proofs.Common.{map, ap, ◌∙◌}
use Rattle.std.proofs.lemmas.Result.{IfOk-weaker}
use Rattle.srb_judgement.specs.Loops.{loop_left}
use Rattle.srb_judgement.specs.Views.{seen_environment, seen_left}
use Rattle.srb_walk_control.proofs.loops.loop_body.Goals as goal

pub returns : goal.returns
returns g c =
    IfOk-weaker c.loop_left.result _ _
    (λ ty h. h ∙ ap (λ j. loop_left (g.L.Language.the c.args.language.now) (seen_environment c.args.tested.falsehood) (map seen_left c.args.outer.breaks) (map seen_left c.args.outer.nexts) j.state)
    c.in_ok-judge.ensures)
    c.loop_left.ensures
