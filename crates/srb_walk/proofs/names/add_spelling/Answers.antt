use Rattle.std.proofs.Common.{[], ◌∷◌, ◌++◌, map, ap, ◌∙◌}
use Rattle.srb_judgement.specs.Views.{seen_spelling}
use Rattle.srb_walk.proofs.Operating.{map_push}
use Rattle.srb_walk.proofs.names.add_spelling.Goals as goal

pub returns : goal.returns
returns g c =
    ap (λ all. map seen_spelling all) c.in_ok-push.ensures.ok
    ∙ map_push seen_spelling c.args.all.now c.in_ok-spelling.field-0
    ∙ ap (λ s. map seen_spelling c.args.all.now ++ s ∷ []) c.in_ok-spelling.ensures
