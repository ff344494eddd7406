use Rattle.std.proofs.Common.{◌≡◌, ◌++◌, drop}
use Rattle.srb_check.specs.Reports.{place_of, file_report}
use Rattle.srb_check.proofs.report.push_report.Given as goal

abbrev pub invariant-loop-error : goal.invariant-loop-error
invariant-loop-error l =
    (l.report.items ++ file_report l.path l.bytes (drop l.error-index l.errors) ≡ l.initial.report.items ++ file_report l.path l.bytes l.errors)
    × (l.reached.place ≡ place_of l.bytes l.reached.at)
