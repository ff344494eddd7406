use Rattle.std.proofs.Common.{◌+◌, ◌∷◌, ◌++◌, drop, refl, sym, ap, ◌∙◌, append_assoc}
use Rattle.std.proofs.lemmas.List.{drop_more}
use Rattle.std.proofs.lemmas.Option.{slice_get_read}
use Rattle.srb_terms.specs.Projects.{File}
use Rattle.srb_check.specs.Symbols.{project_facts}
use Rattle.srb_check.specs.Checks.{errors_of}
use Rattle.srb_check.specs.Reports.{file_report, report_under}
use Rattle.srb_cli.proofs.report.report_by.Goals as goal

pub files-preserved : goal.files-preserved
files-preserved g c =
    let files = c.args.files.now in
    let file = c.index-files-index.result in
    let facts = project_facts files in
    let read = slice_get_read files _ c.files.index file refl c.files-test.true c.index-files-index.is in
    let pushed = c.in_ok-push_file.ensures files c.in_ok-job.ensures read in
    ap (λ r. r ++ report_under facts (drop (c.files.index + 1) files)) pushed
    ∙ append_assoc c.files.report.items (file_report file.0 file.1 (errors_of facts file.1)) (report_under facts (drop (c.files.index + 1) files))
    ∙ ap (λ (f : File). c.files.report.items ++ report_under facts (f ∷ drop (c.files.index + 1) files)) c.index-files-index.is
    ∙ sym (ap (λ rest. c.files.report.items ++ report_under facts rest) (drop_more files c.files.index file c.files-test.true))
    ∙ c.files.invariant
