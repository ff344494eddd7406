use Rattle.std.proofs.Common.{◌≡◌, ◌++◌, drop}
use Rattle.srb_ancestors.proofs.step.put_before.Given as goal

abbrev pub invariant-names : goal.invariant-names
invariant-names l = l.list ≡ drop l.index l.here ++ l.fn.below
