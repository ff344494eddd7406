-- What files in memory do at their next call.
use Rattle.std.specs.Prelude.{◌≡◌, ℕ, ◌+◌, ◌-◌, ◌^◌, min, List, map, string_bytes, Option, Some}
use Rattle.srb_io.specs.declared.mem_files.MemFiles.{MemFiles}
use Rattle.srb_io.specs.Files.{FolderFile}

-- the number of the next call, counted from 1, with no end of the count but that of 64 bits
abbrev pub next_call : MemFiles → ℕ
next_call s = min (s.calls + 1) (2 ^ 64 - 1)

-- the files as they are told, below each folder
abbrev pub told_files : MemFiles → List FolderFile
told_files s = map (λ file. (string_bytes file.0, file.1.items)) s.files.items

-- they tell them, whatever the folder
abbrev pub tells : MemFiles → List ℕ → Option (List FolderFile)
tells s dir = Some (told_files s)

-- the files and the listed calls stay, and the call was counted
pub record IsNextTo (old new : MemFiles) : Type 0 where
  pub files : new.files ≡ old.files
  pub fail_at : new.fail_at ≡ old.fail_at
  pub calls : new.calls ≡ next_call old
