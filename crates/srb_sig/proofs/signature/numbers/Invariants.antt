use Rattle.std.proofs.Common.{◌≡◌, map, take}
use Rattle.srb_sig.specs.Signatures.{part_of}
use Rattle.srb_sig.proofs.signature.numbers.Given as goal

abbrev pub invariant-wrong : goal.invariant-wrong
invariant-wrong l = l.numbers.items ≡ map part_of (take l.part-index l.wrong)
