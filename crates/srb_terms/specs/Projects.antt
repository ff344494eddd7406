-- A project as a list of files, and what stands in it at a path.
use Rattle.std.specs.Prelude.{ℕ, List, Option}
use Rattle.srb_terms.specs.PathMaps.{IsOrdered, put_value, value_at}

-- a file: its path and its bytes
abbrev pub File : Type 0
File = List ℕ × List ℕ

-- the files stand in byte order of their paths, each path once
abbrev pub IsProject : List File → Type 0
IsProject = IsOrdered

-- the bytes of the file at the path, if there is one
abbrev pub bytes_at : List ℕ → List File → Option (List ℕ)
bytes_at = value_at

-- the project with these bytes at the path: in the place of the file there, or as a new file in order
abbrev pub put_file : List ℕ → List ℕ → List File → List File
put_file = put_value
