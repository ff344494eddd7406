use Rattle.run_landing_tests.proofs.landing.errors_of_an_older_build_are_thrown_away.Given as goal

-- the ledger is the blank's
abbrev pub ghosts-of_an_older_build : goal.ghosts-of_an_older_build
ghosts-of_an_older_build g a = record { name = a.blank.name; parts = a.blank.parts }
