use Rattle.std.proofs.Common.{◌≡◌, drop, bytes_eq}
use Rattle.indexmap.specs.IndexMap.{get}
use Rattle.srb_rules.specs.Lin.{with_modules}
use Rattle.srb_ancestors.specs.Lists.{list_in}
use Rattle.srb_ancestors.proofs.step.here.Given as goal

abbrev pub invariant-modules : goal.invariant-modules
invariant-modules l = l.here.items ≡ with_modules (list_in (get bytes_eq l.lists)) l.below l.c (drop l.index l.modules)
