use Rattle.run_landing_tests.proofs.landing.errors_of_files_land_in_turn.Given as goal

-- the ledger is the blank's
abbrev pub ghosts-in_turn : goal.ghosts-in_turn
ghosts-in_turn g a = record { name = a.blank.name; parts = a.blank.parts }
