-- What a trace is told of a session. A trace may tell its list of steps; what is said of the list is said where it is told.
use Rattle.std.specs.Prelude.{◌≡◌, ℕ, ◌<◌, List, [], ◌∷◌, ◌++◌, length, take, Option, ◌⊎◌}
use Rattle.srb_terms.specs.declared.cause.Cause.{Cause}
use Rattle.srb_terms.specs.declared.cause.Cause.TheVariants.{Done, Errors, NoShutdown, Usage, ReadFault, WriteFault, Broken, TooLong, TooMany, TooBig, NoMemory}
use Rattle.lsp_frame.specs.Written.{frame}
use Rattle.lsp_msg.specs.Written.{body_of}
use Rattle.lsp_msg.specs.declared.out.Out.{Out}
use Rattle.lsp_docs.specs.Projects.{Project}
use Rattle.run_watch.specs.Told.{with_steps}
use Rattle.run_watch.specs.declared.inp.Inp.{Inp}
use Rattle.run_watch.specs.declared.inp.Inp.TheVariants.{End}
use Rattle.run_watch.specs.declared.end_cause.EndCause.TheVariants as end
use Rattle.run_watch.specs.declared.step.Step.{Step}
use Rattle.run_watch.specs.declared.step.Step.TheVariants.{Take}
use Rattle.run_core.specs.Runs.{Run, Over, outs}
use Rattle.run_core.specs.Cores.{checked_language}
use Rattle.run_core.specs.Frames.{written_as}
use Rattle.run_core.specs.Inputs.{inputs_of}
use Rattle.run_serve.specs.Course.{Course, Reads, Writes}
use Rattle.run_serve.specs.Served.{has_failed, Serves}

-- the steps that the trace tells before the call and after it
pub record Tracing : Type 0 where
  pub told_before : Option (List Step)
  pub told_after : Option (List Step)

-- the trace gained just these steps
abbrev pub Gains : Tracing → List Step → Type 0
Gains t steps = t.told_after ≡ with_steps t.told_before steps

-- the trace was told nothing
abbrev pub RecordsNothing : Tracing → Type 0
RecordsNothing t = t.told_after ≡ t.told_before

-- the input that a step takes, if it takes one
abbrev pub input_in : Step → List Inp
input_in (Take inp) = inp ∷ []
input_in step = []

-- the inputs that steps take, in order
abbrev pub inputs_in : List Step → List Inp
inputs_in [] = []
inputs_in (x ∷ xs) = input_in x ++ inputs_in xs

-- The inputs taken are the first of these, perhaps followed by the end that tells that memory ran out.
abbrev pub TakesFront : List Inp → List Inp → Type 0
TakesFront taken all =
    (front : List Inp) × (later : List Inp) × (all ≡ front ++ later) × ((taken ≡ front) ⊎ (taken ≡ front ++ End end.NoMemory ∷ []))

-- The record of a session over this project that ended by its input: a run of the machine from this project that is over.
-- It takes the inputs of the bytes read, all of them, and the frames of its messages were written, just these.
pub record RecordsWhole (base : Project) (c : Course) (t : Tracing) : Type 0 where
  pub read : List ℕ
  pub steps : List Step
  pub reads : Reads c read
  pub gains : Gains t steps
  pub run : Run checked_language base steps
  pub took : inputs_in steps ≡ inputs_of read (has_failed c)
  pub over : Over checked_language base steps
  pub writes : Writes c (written_as (outs checked_language base steps))

-- The record of a session that a write fault ended: a run from this project that takes the first of the inputs of the bytes
-- read. The frames of its messages were written but for the last one, of which a part was.
pub record RecordsPart (base : Project) (c : Course) (t : Tracing) : Type 0 where
  pub read : List ℕ
  pub steps : List Step
  pub later : List Inp
  pub whole : List Out
  pub last : Out
  pub part : ℕ
  pub reads : Reads c read
  pub gains : Gains t steps
  pub run : Run checked_language base steps
  pub took : inputs_of read (has_failed c) ≡ inputs_in steps ++ later
  pub wrote : outs checked_language base steps ≡ whole ++ last ∷ []
  pub short : part < length (frame (body_of last))
  pub writes : Writes c (written_as whole ++ take part (frame (body_of last)))

-- The record of a session that ended because memory ran out: a run from this project that takes the first of the inputs of the
-- bytes read, perhaps followed by the end that tells it. The frames of the first of its messages were written, all of them whole.
pub record RecordsFront (base : Project) (c : Course) (t : Tracing) : Type 0 where
  pub read : List ℕ
  pub steps : List Step
  pub whole : List Out
  pub unwritten : List Out
  pub reads : Reads c read
  pub gains : Gains t steps
  pub run : Run checked_language base steps
  pub took : TakesFront (inputs_in steps) (inputs_of read (has_failed c))
  pub wrote : outs checked_language base steps ≡ whole ++ unwritten
  pub writes : Writes c (written_as whole)

-- the record of a session over this project, by the cause of its end: the others never come
abbrev pub Records : Project → Cause → Course → Tracing → Type 0
Records base Done c t = RecordsWhole base c t
Records base NoShutdown c t = RecordsWhole base c t
Records base ReadFault c t = RecordsWhole base c t
Records base (Broken at) c t = RecordsWhole base c t
Records base (TooLong size) c t = RecordsWhole base c t
Records base WriteFault c t = RecordsPart base c t
Records base NoMemory c t = RecordsFront base c t
Records base Errors c t = ⊥
Records base Usage c t = ⊥
Records base (TooMany files) c t = ⊥
Records base (TooBig path) c t = ⊥

-- how a session over this project ends, and its record
abbrev pub ServesRecorded : Project → Cause → Course → Tracing → Type 0
ServesRecorded base cause c t = Serves base cause c × Records base cause c t
