use Rattle.srb_cli.proofs.report.report.Given as goal

abbrev pub ghosts-report_by : goal.ghosts-report_by
ghosts-report_by a = record { name = a.blank.name; parts = a.blank.parts }
