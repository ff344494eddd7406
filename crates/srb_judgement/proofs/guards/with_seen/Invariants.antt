use Rattle.std.proofs.Common.{◌≡◌, drop}
use Rattle.srb_judgement.specs.Kept.{sees}
use Rattle.srb_judgement.specs.Steps.{passed}
use Rattle.srb_judgement.proofs.guards.with_seen.Given as goal

abbrev pub invariant-names : goal.invariant-names
invariant-names l = passed (sees l.context) l.all (drop l.name-index l.names) ≡ passed (sees l.context) l.fn.so_far l.names
