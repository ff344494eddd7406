use Rattle.std.proofs.Common.{ap, ◌∙◌}
use Rattle.srb_rules.specs.Links.{circular_links}
use Rattle.srb_table.specs.Steps.{facts_of}
use Rattle.srb_table.proofs.world.all_linked.Goals as goal

pub returns : goal.returns
returns c known decides right = record {
  lins = c.in_ok-lins.ensures known (c.in_ok-links.ensures known right) (c.as_slice-2.ensures ∙ c.in_ok-circular.ensures);
  circles = c.in_ok-circles.ensures (facts_of c.args.first.now c.args.files.now)
      (c.as_slice.ensures ∙ c.in_ok-circular.ensures ∙ ap circular_links (c.in_ok-links.ensures known right)) decides;
}
