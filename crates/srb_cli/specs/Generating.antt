-- The command `gen N`.
use Rattle.std.specs.Prelude.{◌≡◌, ℕ, Bool, false, List, [], ◌∷◌, ◌++◌, length, map, sum_by}
use Rattle.srb_terms.specs.declared.cause.Cause.{Cause}
use Rattle.srb_terms.specs.declared.cause.Cause.TheVariants.{Done, WriteFault, NoMemory}
use Rattle.srb_terms.specs.Projects.{File, IsProject}
use Rattle.lsp_docs.specs.Projects.{Project, after_all}
use Rattle.run_watch.specs.declared.end_cause.EndCause.TheVariants as end
use Rattle.run_watch.specs.declared.step.Step.{Step}
use Rattle.run_core.specs.Cores.{checked_language}
use Rattle.run_core.specs.Histories.{edits_of}
use Rattle.run_core.specs.Inputs.{inputs_of, messages_of, end_of}
use Rattle.run_core.specs.Runs.{Run, Over}
use Rattle.run_serve.specs.Course.{Course, NoWriteFailed, AWriteFailed, Writes, WritesPart}
use Rattle.run_serve.specs.Projects.{IsWithin}
use Rattle.run_serve.specs.Recorded.{Tracing, Gains, inputs_in}
use Rattle.srb_gen.specs.Generated.{generated_project, generated_session, generated_messages, summary_of}
use Rattle.srb_check.specs.Checks.{fresh}

-- the files of the generated project after its session
abbrev pub final_project : ℕ → Project
final_project n = after_all (generated_project n) (edits_of (generated_project n) (messages_of (generated_session n)))

-- the errors that a fresh check finds in all files of a project
abbrev pub errors_of_all : Project → ℕ
errors_of_all p = sum_by (λ (file : File). length (fresh p file.0)) p

-- the summary: the files, the edits of the session, and the errors of the files after it
abbrev pub generated_summary : ℕ → List ℕ
generated_summary n =
    summary_of n (length (edits_of (generated_project n) (messages_of (generated_session n)))) (errors_of_all (final_project n))

-- The steps are a run of the machine from the generated project that is over, and they take just the inputs of the generated session, of which
-- the messages are those that it says.
pub record IsGenerated (n : ℕ) (steps : List Step) : Type 0 where
  pub run : Run checked_language (generated_project n) steps
  pub over : Over checked_language (generated_project n) steps
  pub took : inputs_in steps ≡ inputs_of (generated_session n) false
  pub messages : messages_of (generated_session n) ≡ generated_messages n

-- It is the project and the session's bytes that are generated for so many files, no more than a project may have. The messages of the
-- session are read back, and it ends by `exit`.
pub record IsGivenBy (n : ℕ) (base : Project) (bytes : List ℕ) : Type 0 where
  pub project : base ≡ generated_project n
  pub written : bytes ≡ generated_session n
  pub messages : messages_of bytes ≡ generated_messages n
  pub ended : (failed : Bool) → end_of bytes failed ≡ end.Exit
  pub ordered : IsProject base
  pub within : IsWithin base

-- the trace gained such steps
abbrev pub RecordsGenerated : ℕ → Tracing → Type 0
RecordsGenerated n t = (steps : List Step) × IsGenerated n steps × Gains t steps

-- how the command ends, cause by cause: the others never come
abbrev pub EndsGenerating : ℕ → Cause → Course → Tracing → Type 0
EndsGenerating n Done c t = Writes c (generated_summary n) × RecordsGenerated n t × NoWriteFailed c
EndsGenerating n WriteFault c t = WritesPart c (generated_summary n) × RecordsGenerated n t × AWriteFailed c
EndsGenerating n NoMemory c t = Writes c [] × NoWriteFailed c
EndsGenerating n _ c t = ⊥
