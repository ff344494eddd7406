use Rattle.std.proofs.Common.{◌≡◌, length}
use Rattle.srb_summary.proofs.equal.same_names.Given as goal

abbrev pub decreases-left : goal.decreases-left
decreases-left l = length l.left

-- what is left is equal exactly where the whole is
abbrev pub invariant-left : goal.invariant-left
invariant-left l = record {
  gives : l.left ≡ l.right → l.fn.a ≡ l.fn.b;
  takes : l.fn.a ≡ l.fn.b → l.left ≡ l.right;
}
