-- How a command ends: for each cause what was read, what was written, and which counts of faults have risen.
use Rattle.std.specs.Prelude.{◌≡◌, ◌≢◌, ℕ, ◌<◌, ◌≤◌, List, [], ◌∷◌, length, codes, Option, Some, None, IfSome, ◌⊎◌}
use Rattle.std.specs.Io.KnownBytes.{Appends, IsAtEnd}
use Rattle.srb_io.specs.Counts.{HasRisen}
use Rattle.srb_io.specs.Files.{FolderFile}
use Rattle.srb_io.specs.Told.{AppendsPart}
use Rattle.srb_terms.specs.declared.cause.Cause.{Cause}
use Rattle.srb_terms.specs.declared.cause.Cause.TheVariants.{Done, Errors, NoShutdown, Usage, ReadFault, WriteFault, Broken, TooLong, TooMany, TooBig, NoMemory}
use Rattle.srb_check.specs.Reports.{report_of}
use Rattle.lsp_docs.specs.Projects.{Project}
use Rattle.srb_text.specs.Limits.{MOST_BYTES}
use Rattle.srb_cli.specs.Commands.{Command, usage_line}
use Rattle.srb_cli.specs.Commands.Command.{Text, Check, Serve, Generate}
use Rattle.srb_cli.specs.Generating.{EndsGenerating}
use Rattle.srb_cli.specs.Outside.{Outside}
use Rattle.run_serve.specs.Course.{Course, NoReadFailed, NoWriteFailed, AReadFailed, AWriteFailed, Writes, WritesPart, ReadsNothing, IsUntouched}
use Rattle.run_serve.specs.Projects.{IsWithin}
use Rattle.run_serve.specs.Recorded.{RecordsNothing, ServesRecorded}
use Rattle.srb_cli.specs.Listings.{Listing, NoFileFailed}
use Rattle.srb_cli.specs.Folders.{IsFolder, IsUnread}

-- ---- the command `text`

-- the path under which the command `text` checks what it reads
abbrev pub TEXT_PATH : List ℕ
TEXT_PATH = codes "stdin.rb"

-- the report of what the command `text` reads
abbrev pub text_report : List ℕ → List ℕ
text_report bytes = report_of ((TEXT_PATH, bytes) ∷ [])

-- the source was read to its end, and held no more than the limit
abbrev pub ReadsAll : Course → Type 0
ReadsAll c = IsAtEnd c.left_after × IfSome c.left_before (λ bytes. length bytes ≤ MOST_BYTES)

-- how the command `text` ends, cause by cause: all others never come
abbrev pub EndsText : Cause → Course → Type 0
EndsText Done c = ReadsAll c × IfSome c.left_before (λ bytes. text_report bytes ≡ []) × Writes c [] × NoReadFailed c × NoWriteFailed c
EndsText Errors c = ReadsAll c × IfSome c.left_before (λ bytes. (text_report bytes ≢ []) × Writes c (text_report bytes)) × NoReadFailed c × NoWriteFailed c
EndsText ReadFault c = AReadFailed c × Writes c [] × NoWriteFailed c
EndsText WriteFault c = ReadsAll c × IfSome c.left_before (λ bytes. WritesPart c (text_report bytes)) × NoReadFailed c × AWriteFailed c
EndsText (TooBig path) c = (path ≡ TEXT_PATH) × IfSome c.left_before (λ bytes. MOST_BYTES < length bytes) × Writes c [] × NoReadFailed c × NoWriteFailed c
EndsText NoMemory c = Writes c [] × NoReadFailed c × NoWriteFailed c
EndsText _ c = ⊥

-- the end where the input is larger than the limit
abbrev pub IsTooBig : Cause → Type 0
IsTooBig (TooBig path) = path ≡ TEXT_PATH
IsTooBig NoMemory = Unit {0}
IsTooBig _ = ⊥

-- the end where a report was written: whether it was empty, and whether the sink failed
abbrev pub Reported : Cause → List ℕ → Option (List ℕ) → Option (List ℕ) → ℕ → ℕ → Type 0
Reported Done report before after writes_before writes_after = (report ≡ []) × Appends before after [] × (writes_after ≡ writes_before)
Reported Errors report before after writes_before writes_after = (report ≢ []) × Appends before after report × (writes_after ≡ writes_before)
Reported WriteFault report before after writes_before writes_after = AppendsPart before after report × HasRisen writes_before writes_after
Reported _ report before after writes_before writes_after = ⊥

-- ---- words that are no command

-- the usage line was written, or a part of it where the sink failed
abbrev pub UsageWritten : Option (List ℕ) → Option (List ℕ) → ℕ → ℕ → Type 0
UsageWritten before after writes_before writes_after =
    (Appends before after usage_line × (writes_after ≡ writes_before)) ⊎ (AppendsPart before after usage_line × HasRisen writes_before writes_after)

-- how words that are no command end: the usage line was written, or a part of it where the sink failed, and nothing was
-- read
pub record EndsUsage (cause : Cause) (c : Course) : Type 0 where
  pub answer : cause ≡ Usage
  pub written : UsageWritten c.held_before c.held_after c.writes_before c.writes_after
  pub unfailed : NoReadFailed c
  pub unread : c.left_after ≡ c.left_before

-- ---- a folder is read

-- The folder gave no project, and nothing was read of the source or written.
abbrev pub EndsBefore : List ℕ → Cause → Course → Listing → Type 0
EndsBefore dir cause c f = IsUntouched c × IsUnread cause (f.told dir) f.failed_before f.failed_after

-- The folder gave this project, no larger than a project may be.
pub record Gives (dir : List ℕ) (base : Project) (f : Listing) : Type 0 where
  pub folder : IsFolder (f.told dir) base
  pub within : IsWithin base
  pub unfailed : NoFileFailed f

-- ---- the command `tc DIR`

-- how the check of a project ends, cause by cause: the others never come
abbrev pub Checks : Project → Cause → Course → Type 0
Checks base Done c = (report_of base ≡ []) × Writes c [] × NoWriteFailed c
Checks base Errors c = (report_of base ≢ []) × Writes c (report_of base) × NoWriteFailed c
Checks base WriteFault c = WritesPart c (report_of base) × AWriteFailed c
Checks base NoMemory c = Writes c [] × NoWriteFailed c
Checks base _ c = ⊥

-- how the command ends: the folder gave no project, or its files were checked, and nothing was read of the source
abbrev pub EndsChecking : List ℕ → Cause → Course → Listing → Type 0
EndsChecking dir cause c f =
    EndsBefore dir cause c f ⊎ ((base : Project) × Gives dir base f × ReadsNothing c × Checks base cause c)

-- ---- the command `lsp DIR`

-- how the command ends: before the session, of which no step is made, or in it
abbrev pub EndsServing : List ℕ → Cause → Outside → Type 0
EndsServing dir cause o =
    (EndsBefore dir cause o.course o.listing × RecordsNothing o.tracing)
    ⊎ ((base : Project) × Gives dir base o.listing × ServesRecorded base cause o.course o.tracing)

-- ---- any words

-- How a call ends with words that are this command, or none. Only `tc` and `lsp` call on the files, and only `lsp` and `gen` make steps.
abbrev pub Ends : Option Command → Cause → Outside → Type 0
Ends None cause o = EndsUsage cause o.course × NoFileFailed o.listing × RecordsNothing o.tracing
Ends (Some Text) cause o = EndsText cause o.course × NoFileFailed o.listing × RecordsNothing o.tracing
Ends (Some (Check dir)) cause o = EndsChecking dir cause o.course o.listing × RecordsNothing o.tracing
Ends (Some (Serve dir workers)) cause o = EndsServing dir cause o
Ends (Some (Generate n)) cause o =
    EndsGenerating n cause o.course o.tracing × ReadsNothing o.course × NoFileFailed o.listing
