use Rattle.std.proofs.Common.{◌≡◌, map, take}
use Rattle.srb_sig.specs.Named.{entries_of}
use Rattle.srb_sig.specs.Signatures.{param_of}
use Rattle.srb_sig.proofs.typing.all_typed.Given as goal

abbrev pub invariant-shapes : goal.invariant-shapes
invariant-shapes l = l.params.items ≡ map (param_of (entries_of l.named)) (take l.shape-index l.shapes)
