use Rattle.srb_check.proofs.fresh_check.fresh.Given as goal

abbrev pub ghosts-errors_at : goal.ghosts-errors_at
ghosts-errors_at a = record { name = a.blank.name; parts = a.blank.parts }
