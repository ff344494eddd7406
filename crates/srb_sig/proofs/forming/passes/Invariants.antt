use Rattle.std.proofs.Common.{◌≡◌, ◌*◌, drop}
use Rattle.std.specs.Prelude.{nat_lt}
use Rattle.srb_sig.specs.Types.{product_of}
use Rattle.srb_sig.proofs.forming.passes.Given as goal

abbrev pub invariant-types : goal.invariant-types
invariant-types l = nat_lt 256 (l.product * product_of (drop l.ty-index l.types)) ≡ nat_lt 256 (product_of l.types)
