use Rattle.std.proofs.Common.{◌≡◌, ◌++◌}
use Rattle.srb_walk.proofs.written.longer_path.Given as goal

abbrev pub invariant-rest : goal.invariant-rest
invariant-rest l = l.names ++ l.rest ≡ l.fn.path
