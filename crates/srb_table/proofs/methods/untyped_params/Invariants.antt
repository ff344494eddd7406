use Rattle.std.proofs.Common.{◌≡◌, map, take}
use Rattle.srb_table.specs.Members.{untyped_param}
use Rattle.srb_table.proofs.methods.untyped_params.Given as goal

abbrev pub invariant-shapes : goal.invariant-shapes
invariant-shapes l = l.params ≡ map untyped_param (take l.shape-index l.shapes)
