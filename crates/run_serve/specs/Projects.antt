-- How large a project may be.
use Rattle.std.specs.Prelude.{◌≤◌, length}
use Rattle.lsp_docs.specs.Projects.{Project, total_bytes}
use Rattle.lsp_docs.specs.Documents.{MOST_FILES}
use Rattle.srb_text.specs.Limits.{MOST_BYTES}

-- it has no more files and no more bytes than a project may have
pub record IsWithin (base : Project) : Type 0 where
  pub files : length base ≤ MOST_FILES
  pub bytes : total_bytes base ≤ MOST_BYTES
