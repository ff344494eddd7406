use Rattle.std.proofs.Common.{◌≡◌, take}
use Rattle.run_core.proofs.checks.copied_list.Given as goal

-- the errors so far are copied
abbrev pub invariant-list : goal.invariant-list
invariant-list l = l.copy ≡ take l.error-index l.list
