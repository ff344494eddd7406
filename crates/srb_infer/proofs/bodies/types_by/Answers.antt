use Rattle.std.proofs.Common.{map, ap, ◌∙◌}
use Rattle.srb_judgement.specs.Bodies as bodies
use Rattle.srb_judgement.specs.Views.{text_in}
use Rattle.srb_walk.specs.Known.{known_parameters}
use Rattle.srb_infer.specs.Bodies.{or_no_types}
use Rattle.srb_infer.proofs.Methods.{shapes_are, or-none}
use Rattle.srb_infer.proofs.bodies.types_by.Goals as goal

pub returns : goal.returns
returns g c = let the = g.L.Language.the c.args.language.now in
    c.or_no_types.ensures
    ∙ ap or_no_types (c.in_ok-found.ensures
    ∙ ap (λ params. the.signature c.args.scope.now (text_in the c.args.sig.now) params) (c.as_slice.ensures ∙ c.in_ok-params.ensures ∙ shapes_are the c.args.row.now))
    ∙ or-none the (the.signature c.args.scope.now (text_in the c.args.sig.now) (map (bodies.shape the) (known_parameters the c.args.row.now)))
