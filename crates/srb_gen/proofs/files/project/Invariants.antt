use Rattle.std.proofs.Common.{◌≡◌}
use Rattle.srb_gen.specs.Generated.{generated_project}
use Rattle.srb_gen.proofs.files.project.Given as goal

-- the files so far
abbrev pub invariant-files : goal.invariant-files
invariant-files l = l.project ≡ generated_project l.number
