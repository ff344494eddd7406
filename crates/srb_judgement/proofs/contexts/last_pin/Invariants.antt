use Rattle.std.proofs.Common.{◌≡◌, drop, None}
use Rattle.std.specs.Option.{option_copied}
use Rattle.srb_judgement.specs.Kept.{last_pin}
use Rattle.srb_judgement.proofs.contexts.last_pin.Given as goal

abbrev pub invariant-layers : goal.invariant-layers
invariant-layers l = last_pin (option_copied l.last) (drop l.layer-index l.layers) l.name ≡ last_pin None l.layers l.name
