use Rattle.std.proofs.Common.{◌≡◌, drop}
use Rattle.srb_rules.specs.Lin.{superclass_in}
use Rattle.srb_ancestors.proofs.step.below.Given as goal

abbrev pub invariant-links : goal.invariant-links
invariant-links l = superclass_in (drop l.link-index l.row) ≡ superclass_in l.row
