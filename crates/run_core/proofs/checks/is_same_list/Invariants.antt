use Rattle.std.proofs.Common.{◌≡◌, take}
use Rattle.run_core.proofs.checks.is_same_list.Given as goal

-- the errors so far are the same
abbrev pub invariant-errors : goal.invariant-errors
invariant-errors l = take l.index l.one ≡ take l.index l.other
