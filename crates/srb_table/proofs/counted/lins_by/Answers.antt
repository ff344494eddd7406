use Rattle.std.proofs.Common.{List, [], ◌∷◌, unwrap_or, ◌∙◌, ap}
use Rattle.srb_rules.specs.Lin.{lin_of}
use Rattle.srb_rules.specs.declared.link.Link.{Link}
use Rattle.srb_ancestors.specs.Lists.{lin_at}
use Rattle.srb_table.specs.Steps.{left_of}
use Rattle.srb_table.proofs.CountedLinks.{left_counted, lins-told}
use Rattle.srb_table.proofs.counted.lins_by.Goals as goal

pub returns-in-Ok : goal.returns-in-Ok
returns-in-Ok c =
    λ right name. ap (λ es. unwrap_or (lin_at es name) (name ∷ [])) c.into_map.ensures
    ∙ lins-told c.in_ok-kept.kept (lin_at c.in-Ok.lins) c.in-Ok.ensures.lins name
    ∙ ap (λ (ls : List Link). lin_of ls name) (c.in_ok-kept.ensures ∙ (λ i. left_of (right i) (c.as_slice.ensures i)) ∙ left_counted c.args.links.now)
