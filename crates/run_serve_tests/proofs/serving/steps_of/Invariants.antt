use Rattle.run_serve_tests.proofs.serving.steps_of.Given as goal

-- the ledger is the blank's
abbrev pub ghosts-session : goal.ghosts-session
ghosts-session g a = record { name = a.blank.name; parts = a.blank.parts }
