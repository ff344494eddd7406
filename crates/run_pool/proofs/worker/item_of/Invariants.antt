use Rattle.run_pool.proofs.worker.item_of.Given as goal

abbrev pub ghosts-errors_of : goal.ghosts-errors_of
ghosts-errors_of a = record { name = a.blank.name; parts = a.blank.parts }
