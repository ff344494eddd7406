-- What is left of a command's ends where the outside tells its bytes, all is within the limits, and nothing failed.
use Rattle.std.specs.Prelude.{◌≡◌, ◌⊎◌, ℕ, ◌+◌, ◌≤◌, List, length, Some}
use Rattle.srb_io.specs.Files.{FolderFile}
use Rattle.srb_terms.specs.declared.cause.Cause.{Cause}
use Rattle.srb_terms.specs.declared.cause.Cause.TheVariants.{Done, Errors, NoShutdown, NoMemory}
use Rattle.srb_text.specs.Limits.{MOST_BYTES}
use Rattle.lsp_docs.specs.Projects.{Project}
use Rattle.lsp_frame.specs.Bodies.{bodies_of}
use Rattle.lsp_frame.specs.Bodies.Ending.{Closed}
use Rattle.run_watch.specs.declared.step.Step.{Step}
use Rattle.run_core.specs.Cores.{checked_language}
use Rattle.run_core.specs.Counts.{works, builds, files_built, changes_in}
use Rattle.run_core.specs.Histories.{edits_of, no_history}
use Rattle.run_core.specs.Runs.{messages_in}
use Rattle.run_serve.specs.Course.{NoReadFailed, NoWriteFailed}
use Rattle.run_serve.specs.Projects.{IsWithin}
use Rattle.run_serve.specs.Recorded.{Gains, RecordsNothing}
use Rattle.srb_cli.specs.Commands.Command.{Text, Check, Serve, Generate}
use Rattle.srb_cli.specs.Ends.{Ends, Gives}
use Rattle.srb_cli.specs.Folders.{IsFolder}
use Rattle.srb_cli.specs.Listings.{NoFileFailed}
use Rattle.srb_cli.specs.Outside.{Outside}

-- the causes that are left for `text` and `tc DIR`
abbrev pub IsChecked : Cause → Type 0
IsChecked Done = Unit {0}
IsChecked Errors = Unit {0}
IsChecked NoMemory = Unit {0}
IsChecked _ = ⊥

-- the causes that are left for `lsp DIR`
abbrev pub IsServed : Cause → Type 0
IsServed Done = Unit {0}
IsServed NoShutdown = Unit {0}
IsServed NoMemory = Unit {0}
IsServed _ = ⊥

-- The files below a folder are told, they are no more than a project may have, and no call on them failed.
pub record IsListed (dir : List ℕ) (o : Outside) : Type 0 where
  pub files : List FolderFile
  pub told : o.listing.told dir ≡ Some files
  pub base : Project
  pub folder : IsFolder (Some files) base
  pub within : IsWithin base
  pub unfailed : NoFileFailed o.listing

-- `text` checks what it reads
abbrev pub TextsAreChecked : Type 0
TextsAreChecked = (cause : Cause) (o : Outside) → Ends (Some Text) cause o
    → (bytes : List ℕ) → o.course.left_before ≡ Some bytes → length bytes ≤ MOST_BYTES → NoReadFailed o.course → NoWriteFailed o.course → IsChecked cause

-- `tc DIR` checks the files of its folder
abbrev pub FoldersAreChecked : Type 0
FoldersAreChecked = (cause : Cause) (dir : List ℕ) (o : Outside) → Ends (Some (Check dir)) cause o → IsListed dir o → NoWriteFailed o.course → IsChecked cause

-- `lsp DIR` serves the session of whole frames within the limits
abbrev pub SessionsAreServed : Type 0
SessionsAreServed = (cause : Cause) (dir : List ℕ) (workers : ℕ) (o : Outside) → Ends (Some (Serve dir workers)) cause o → IsListed dir o
    → (bytes : List ℕ) → o.course.left_before ≡ Some bytes → (bodies_of bytes).end ≡ Closed → NoReadFailed o.course → NoWriteFailed o.course → IsServed cause

-- the causes that are left for `gen N`
abbrev pub IsGenerating : Cause → Type 0
IsGenerating Done = Unit {0}
IsGenerating NoMemory = Unit {0}
IsGenerating _ = ⊥

-- `gen N` writes the summary of its session
abbrev pub SessionsAreGenerated : Type 0
SessionsAreGenerated = (cause : Cause) (n : ℕ) (o : Outside) → Ends (Some (Generate n)) cause o → NoWriteFailed o.course → IsGenerating cause

-- The steps check at most one file for each edit and, for each build, the files of the project at that build. The builds are at most one plus
-- the edits that don't keep the errors of the other files.
pub record IsBounded (base : Project) (steps : List Step) : Type 0 where
  pub checks : works steps ≤ length (edits_of base (messages_in steps)) + files_built (no_history base) steps
  pub rebuilds : builds steps ≤ 1 + changes_in checked_language (no_history base) (messages_in steps)

-- `lsp DIR` makes no step, or its steps are bounded so
abbrev pub WorkIsBounded : Type 0
WorkIsBounded = (cause : Cause) (dir : List ℕ) (workers : ℕ) (o : Outside) → Ends (Some (Serve dir workers)) cause o
    → RecordsNothing o.tracing ⊎ ((base : Project) × Gives dir base o.listing × (steps : List Step) × Gains o.tracing steps × IsBounded base steps)
