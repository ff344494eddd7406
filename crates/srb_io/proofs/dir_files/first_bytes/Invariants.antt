use Rattle.std.proofs.Common.{◌≤◌, vec_len}
use Rattle.srb_io.proofs.dir_files.first_bytes.Given as goal

abbrev pub invariant-loop : goal.invariant-loop
invariant-loop g l = vec_len l.bytes ≤ l.most
