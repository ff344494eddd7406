use Rattle.std.proofs.Common.{◌≡◌, ◌++◌, take, drop}
use Rattle.run_core.specs.Rows.{after_built}
use Rattle.run_core.proofs.rows.build_all.Given as goal

-- the rows so far are changed, and those after are as they were
abbrev pub invariant-rows : goal.invariant-rows
invariant-rows l = l.map.entries ≡ after_built (take l.index l.initial.map.entries) ++ drop l.index l.initial.map.entries
