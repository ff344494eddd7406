use Rattle.std.proofs.Common.{◌++◌, ap, ◌∙◌}
use Rattle.srb_terms.specs.declared.ty.Ty.{Ty}
use Rattle.srb_judgement.specs.Bodies.{class_context, fresh}
use Rattle.srb_judgement.specs.Judgements.{part_of}
use Rattle.srb_judgement.specs.States.{Context}
use Rattle.srb_infer.proofs.bodies.add_class.Goals as goal

pub returns : goal.returns
returns g c = let the = g.L.Language.the c.args.language.now in
    c.in_ok-append.ensures.ok
    ∙ ap (λ more. c.args.errors.now ++ more) (c.in_ok-more.ensures
    ∙ ap (λ (x : Context Ty). ((part_of the c.args.body.now).in_class x fresh).state.errors)
    (c.in_ok-context.ensures ∙ ap (λ inner. class_context the c.args.name.now inner) c.in_ok-copied.ensures))
