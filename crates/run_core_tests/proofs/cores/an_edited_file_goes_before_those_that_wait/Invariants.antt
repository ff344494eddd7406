use Rattle.run_core_tests.proofs.cores.an_edited_file_goes_before_those_that_wait.Given as goal

-- the ledger is the blank's
abbrev pub ghosts-session : goal.ghosts-session
ghosts-session g a = record { name = a.blank.name; parts = a.blank.parts }
