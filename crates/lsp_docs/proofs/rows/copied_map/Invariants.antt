use Rattle.std.proofs.Common.{◌≡◌, take}
use Rattle.lsp_docs.proofs.rows.copied_map.Given as goal

-- the rows before this index are copied
abbrev pub invariant-rows : goal.invariant-rows
invariant-rows l = l.copy.entries ≡ take l.row-index l.row-items
