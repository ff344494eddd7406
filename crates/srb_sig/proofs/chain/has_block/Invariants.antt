use Rattle.std.proofs.Common.{◌≡◌, drop}
use Rattle.std.specs.List.{list_any}
use Rattle.srb_sig.specs.Chains.{is_block}
use Rattle.srb_sig.proofs.chain.has_block.Given as goal

abbrev pub invariant-loop-part : goal.invariant-loop-part
invariant-loop-part l = list_any is_block (drop l.part-index l.parts) ≡ list_any is_block l.parts
