use Rattle.std.proofs.Common.{List, ap, ◌∙◌}
use Rattle.srb_rules.specs.declared.link.Link.{Link}
use Rattle.srb_rules.specs.Lin.{lin_of}
use Rattle.srb_rules.specs.Links.{counted}
use Rattle.srb_table.proofs.world.lins.Goals as goal

pub returns : goal.returns
returns c known told circular =
    c.in_ok-table.ensures known (λ d. c.in_ok-linked.ensures circular d ∙ ap (λ (ls : List Link). lin_of (counted ls) d) told)
