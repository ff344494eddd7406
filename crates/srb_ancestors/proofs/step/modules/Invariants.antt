use Rattle.std.proofs.Common.{◌≡◌, drop}
use Rattle.srb_rules.specs.Lin.{included_after, included_in}
use Rattle.srb_ancestors.proofs.step.modules.Given as goal

abbrev pub invariant-links : goal.invariant-links
invariant-links l = included_after l.modules.items (drop l.link-index l.row) ≡ included_in l.row
