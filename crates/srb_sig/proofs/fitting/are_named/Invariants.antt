use Rattle.std.proofs.Common.{◌≡◌, drop}
use Rattle.srb_sig.specs.Chains.{are_named}
use Rattle.srb_sig.proofs.fitting.are_named.Given as goal

abbrev pub invariant-shapes : goal.invariant-shapes
invariant-shapes l = are_named l.names.keys (drop l.shape-index l.shapes) ≡ are_named l.names.keys l.shapes
