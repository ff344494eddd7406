use Rattle.std.proofs.Common.{◌≡◌, ◌++◌, drop}
use Rattle.std.specs.List.{flat_map}
use Rattle.srb_signatures.specs.Missing.{missing_argument}
use Rattle.srb_signatures.proofs.missing.add_attributes.Given as goal

abbrev pub invariant-arguments : goal.invariant-arguments
invariant-arguments l =
    l.found ++ flat_map (missing_argument l.kind) (drop l.argument-index l.arguments) ≡ l.fn.found ++ flat_map (missing_argument l.kind) l.arguments
