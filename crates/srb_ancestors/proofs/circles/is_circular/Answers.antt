use Rattle.std.proofs.Common.{bytes_eq, sym, ◌∙◌}
use Rattle.indexmap.specs.IndexSet.{contains}
use Rattle.srb_ancestors.proofs.CircleProofs.{settled_link}
use Rattle.srb_ancestors.proofs.circles.is_circular.Goals as goal

pub returns-then-contains : goal.returns-then-contains
returns-then-contains c = λ ls rows settled link.
    settled_link ls c.args.link.now (contains bytes_eq c.args.settled.now) settled (sym c.contains.ensures ∙ c.if-contains.true) link
