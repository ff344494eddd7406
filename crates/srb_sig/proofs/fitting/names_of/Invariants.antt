use Rattle.std.proofs.Common.{◌≡◌, [], drop}
use Rattle.srb_sig.specs.Chains.{names_from}
use Rattle.srb_sig.proofs.fitting.names_of.Given as goal

abbrev pub invariant-arguments : goal.invariant-arguments
invariant-arguments l = names_from l.names.keys (drop l.argument-index l.arguments) ≡ names_from [] l.arguments
