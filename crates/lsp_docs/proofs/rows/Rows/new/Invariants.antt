use Rattle.std.proofs.Common.{◌≡◌, map, take}
use Rattle.lsp_docs.specs.Projects.{total_bytes}
use Rattle.lsp_docs.specs.Rows.{closed_row}
use Rattle.lsp_docs.proofs.rows.Rows.new.Given as goal

-- the files so far have rows, and are counted
abbrev pub invariant-files : goal.invariant-files
invariant-files l =
    (l.map.entries ≡ map closed_row (take l.file-index l.file-items)) × (l.total ≡ total_bytes (take l.file-index l.file-items))
