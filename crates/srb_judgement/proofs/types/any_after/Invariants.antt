use Rattle.std.proofs.Common.{◌≡◌, drop}
use Rattle.srb_judgement.specs.Types.{any_after}
use Rattle.srb_judgement.proofs.types.any_after.Given as goal

abbrev pub invariant-types : goal.invariant-types
invariant-types g l =
    any_after (g.L.Language.the l.language) l.all (drop l.ty-index l.types) ≡ any_after (g.L.Language.the l.language) l.fn.so_far l.types
