use Rattle.std.proofs.Common.{◌≡◌, ◌++◌, map, drop}
use Rattle.srb_builtin.specs.Rows.{facts_of_row}
use Rattle.srb_builtin.specs.Table.{all_of}
use Rattle.srb_builtin.proofs.rows.add_rows.Given as goal

abbrev pub invariant-rows : goal.invariant-rows
invariant-rows l =
    l.facts ++ all_of (map facts_of_row (drop l.row-index l.rows)) ≡ l.fn.facts ++ all_of (map facts_of_row l.fn.rows)
