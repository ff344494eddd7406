-- What a check of a file of a job finds, whoever makes it and whenever.
use Rattle.std.specs.Prelude.{◌≡◌, ℕ, ◌<◌, List, length, slice_get}
use Rattle.std.specs.Option.{option_map}
use Rattle.srb_terms.specs.Projects.{File}
use Rattle.srb_terms.specs.declared.diag.Diag.{Diag}
use Rattle.srb_check.specs.Checks.{fresh_of}
use Rattle.srb_check.specs.Jobs.{IsJobOf, Known, bytes_of_file}
use Rattle.srb_check.specs.Symbols.{project_facts}

-- The number is that of a file of the job, and the list is what a fresh check finds in that file, in the project of which this is the job.
abbrev pub IsFoundIn : Known → (number : ℕ) → List Diag → Type 0
IsFoundIn job number list =
    (number < length job.files.paths)
    × ((project : List File) → IsJobOf project job → list ≡ fresh_of (project_facts project) (option_map bytes_of_file (slice_get project number)))
