use Rattle.std.proofs.Common.{◌≡◌, drop}
use Rattle.std.specs.List.{list_all}
use Rattle.srb_sig.specs.Chains.{is_keyword}
use Rattle.srb_sig.proofs.chain.all_keywords.Given as goal

abbrev pub invariant-loop-argument : goal.invariant-loop-argument
invariant-loop-argument l = list_all is_keyword (drop l.argument-index l.arguments) ≡ list_all is_keyword l.arguments
