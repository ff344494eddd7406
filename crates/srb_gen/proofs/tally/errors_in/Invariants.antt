use Rattle.std.proofs.Common.{◌≡◌, ◌≤◌, drop, length, bytes_eq}
use Rattle.indexmap.specs.IndexSet.{contains}
use Rattle.lsp_docs.specs.Paths.{Path}
use Rattle.srb_gen.specs.Tallies.{errors_in, is_listed}
use Rattle.srb_gen.proofs.tally.errors_in.Given as goal

-- the steps from here on are counted, and the files of their lists are noted
abbrev pub invariant-steps : goal.invariant-steps
invariant-steps l = record {
  within : l.at ≤ length l.steps;
  errors : l.errors ≡ errors_in (drop l.at l.steps);
  listed : (f : Path) → contains bytes_eq l.listed f ≡ is_listed f (drop l.at l.steps);
}

abbrev pub decreases-steps : goal.decreases-steps
decreases-steps l = l.at
