use Rattle.std.proofs.Common.{◌≡◌, take}
use Rattle.srb_check.proofs.job.copied_paths.Given as goal

abbrev pub invariant-paths : goal.invariant-paths
invariant-paths l = l.list.items ≡ take l.path-index l.paths
