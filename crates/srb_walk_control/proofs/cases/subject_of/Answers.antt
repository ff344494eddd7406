use Rattle.std.proofs.Common.{Some, ap, sym, ◌∙◌}
use Rattle.std.specs.Option.{option_copied}
use Rattle.srb_judgement.specs.Kept.{seen_context}
use Rattle.srb_judgement.specs.Narrowing.{variable_of}
use Rattle.srb_walk_control.proofs.cases.subject_of.Goals as goal

pub returns : goal.returns
returns g c =
    ap (λ v. Some v)
    (ap (λ v. option_copied v) (sym c.in-None.is) ∙ c.variable_of.ensures
    ∙ ap (λ s. variable_of (seen_context c.args.context.now) s) c.in_ok-spelled.ensures)
