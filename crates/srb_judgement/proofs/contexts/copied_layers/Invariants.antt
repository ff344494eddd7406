use Rattle.std.proofs.Common.{◌≡◌, ◌++◌, drop}
use Rattle.srb_judgement.proofs.contexts.copied_layers.Given as goal

abbrev pub invariant-layers : goal.invariant-layers
invariant-layers l = l.copies ++ drop l.layer-index l.layers ≡ l.layers
