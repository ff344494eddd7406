use Rattle.std.proofs.Common.{◌≡◌, take}
use Rattle.run_core.specs.Rows.{opening_rows}
use Rattle.run_core.proofs.rows.opening_map.Given as goal

-- the rows are those of the files so far
abbrev pub invariant-files : goal.invariant-files
invariant-files l = l.map.entries ≡ opening_rows (take l.file-index l.files)
