use Rattle.std.proofs.Common.{◌≡◌, replicate}
use Rattle.srb_terms.specs.declared.ty.Ty.TheVariants as ty
use Rattle.srb_calls.proofs.blocks.never.Given as goal

abbrev pub invariant-names : goal.invariant-names
invariant-names l = l.types ≡ replicate l.index ty.Never
