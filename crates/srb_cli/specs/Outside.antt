-- What the outside tells of a call with some words.
use Rattle.std.specs.Prelude.{ℕ, List, Option}
use Rattle.srb_io.specs.Files.{FolderFile}
use Rattle.run_watch.specs.declared.step.Step.{Step}
use Rattle.run_serve.specs.Course.{Course}
use Rattle.run_serve.specs.Recorded.{Tracing}
use Rattle.srb_cli.specs.Listings.{Listing}

-- the files below folders, what was read and written, and what the trace was told
pub record Outside : Type 0 where
  pub listing : Listing
  pub course : Course
  pub tracing : Tracing

-- the outside of a call: the files below each folder and the counts of failed calls on them before and after it; the bytes that the source
-- had left and has, and the counts of failed reads; the bytes that the sink held and holds, and the counts of failed writes; the steps that
-- the trace had been told and was told
abbrev pub outside : (files : List ℕ → Option (List FolderFile)) (failed_before failed_after : ℕ) (left_before left_after : Option (List ℕ)) (reads_before reads_after : ℕ)
    (held_before held_after : Option (List ℕ)) (writes_before writes_after : ℕ) (told_before told_after : Option (List Step)) → Outside
outside files failed_before failed_after left_before left_after reads_before reads_after held_before held_after writes_before writes_after told_before told_after = record {
  listing = record { told = files; failed_before = failed_before; failed_after = failed_after };
  course = record {
    left_before = left_before;
    left_after = left_after;
    held_before = held_before;
    held_after = held_after;
    reads_before = reads_before;
    reads_after = reads_after;
    writes_before = writes_before;
    writes_after = writes_after;
  };
  tracing = record { told_before = told_before; told_after = told_after };
}
