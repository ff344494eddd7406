use Rattle.std.proofs.Common.{ap, ◌∙◌, ◌++◌, false}
use Rattle.srb_judgement.specs.Kept.{seen_context}
use Rattle.srb_judgement.specs.States.{seeing}
use Rattle.srb_walk.specs.Assigned.{names_of}
use Rattle.srb_infer.proofs.bodies.see.Goals as goal

pub returns : goal.returns
returns g c = let the = g.L.Language.the c.args.language.now in
    c.in_ok-see_all.ensures
    ∙ ap (λ names. seeing names (seen_context c.args.context.now))
    (c.as_slice.ensures ∙ c.in_ok-assigned.ensures ∙ ap (λ names. names ++ names_of the false c.args.tree.now) c.new-names.ensures)
