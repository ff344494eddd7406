use Rattle.std.proofs.Common.{map, ap, ◌∙◌}
use Rattle.std.proofs.lemmas.Result.{IfOk-weaker}
use Rattle.srb_judgement.specs.Kept.{seen_context}
use Rattle.srb_judgement.specs.Views.{seen_spelling}
use Rattle.srb_walk.specs.Written.{spelling_of}
use Rattle.srb_walk_control.proofs.Guarding.{type_caught}
use Rattle.srb_walk_control.proofs.guards.type_caught.Goals as goal

pub returns : goal.returns
returns g c =
    let the = g.L.Language.the c.args.language.now in
    IfOk-weaker c.caught_type.result _ _
    (λ ty h. type_caught the (seen_context c.args.context.now) c.args.clause.now.patterns (map seen_spelling c.as_slice-2.result.now) ty
    (ap (λ all. map seen_spelling all) c.as_slice-2.ensures ∙ c.in_ok-spelled.ensures ∙ ap (λ row. map (spelling_of the) row) c.as_slice.ensures) h)
    c.caught_type.ensures
