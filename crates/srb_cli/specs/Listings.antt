-- What the outside tells of files below folders.
use Rattle.std.specs.Prelude.{◌≡◌, ℕ, List, Option}
use Rattle.srb_io.specs.Files.{FolderFile}

-- the files below each folder, by its name, and the counts of failed calls on them before and after the call
pub record Listing : Type 0 where
  pub told : List ℕ → Option (List FolderFile)
  pub failed_before : ℕ
  pub failed_after : ℕ

-- no call on the files failed
abbrev pub NoFileFailed : Listing → Type 0
NoFileFailed f = f.failed_after ≡ f.failed_before
