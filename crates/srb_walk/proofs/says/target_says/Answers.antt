use Rattle.std.proofs.Common.{ap, sym, ◌∙◌}
use Rattle.std.proofs.lemmas.Result.{IfOk-weaker}
use Rattle.srb_judgement.specs.Assignments.{target_says}
use Rattle.srb_walk.proofs.EndingProofs.{ends_as_written}
use Rattle.srb_walk.specs.Endings.{known_end}
use Rattle.srb_walk.proofs.says.target_says.Goals as goal

pub returns : goal.returns
returns g c =
    let L = g.L.Language.the c.args.language.now in
    IfOk-weaker c.ending_says.result _ _
    (λ s h. h ∙ ap (λ end. target_says L (known_end L end)) c.of.ensures ∙ ap (λ ending. target_says L ending) (sym (ends_as_written L c.args.target.now)))
    c.ending_says.ensures
