use Rattle.run_serve.proofs.serving.serve.Given as goal

abbrev pub ghosts-serve_counting : goal.ghosts-serve_counting
ghosts-serve_counting g a = record { name = a.blank.name; parts = a.blank.parts }
