use Rattle.std.proofs.Common.{◌≡◌, ◌++◌, drop}
use Rattle.srb_check.specs.Symbols.{project_facts}
use Rattle.srb_check.specs.Reports.{report_of, report_under}
use Rattle.srb_cli.proofs.report.report_by.Given as goal

abbrev pub invariant-files : goal.invariant-files
invariant-files g l = l.report.items ++ report_under (project_facts l.files) (drop l.index l.files) ≡ report_of l.files
