-- Projects and edits. A project has the bytes of each of its files, by path.
use Rattle.std.specs.Prelude.{ℕ, List, [], ◌∷◌, Option, Some, None, length, sum_by, take, bytes_eq, if◌then◌else◌}
use Rattle.srb_terms.specs.Projects.{File, put_file}
use Rattle.lsp_docs.specs.Paths.{Path, Bytes}

abbrev pub Project : Type 0
Project = List File

-- the paths of the project's files
abbrev pub paths_of : Project → List Path
paths_of [] = []
paths_of (file ∷ files) = file.0 ∷ paths_of files

-- the project without the file at the path
abbrev pub without_file : Path → Project → Project
without_file f [] = []
without_file f (file ∷ files) = if bytes_eq f file.0 then without_file f files else file ∷ without_file f files

-- An edit names a path and its new bytes, or says that the path is gone.
pub record Edit : Type 0 where
  pub path : Path
  pub now : Option Bytes

-- the project with this at the path
abbrev pub with_bytes : Path → Option Bytes → Project → Project
with_bytes f None p = without_file f p
with_bytes f (Some b) p = put_file f b p

-- the project after the edit
abbrev pub after_edit : Project → Edit → Project
after_edit p e = with_bytes e.path e.now p

-- the project after the edits, in order
abbrev pub after_all : Project → List Edit → Project
after_all p [] = p
after_all p (e ∷ es) = after_all (after_edit p e) es

-- the project after the first n of the edits
abbrev pub after : Project → List Edit → ℕ → Project
after p es n = after_all p (take n es)

-- the bytes of all files together
abbrev pub total_bytes : Project → ℕ
total_bytes p = sum_by (λ file. length file.1) p
