use Rattle.std.proofs.Common.{◌≡◌, ◌≤◌, length, take}
use Rattle.srb_namer.specs.Declarations.{seen_place, with_mixins}
use Rattle.srb_namer.proofs.declarations.with_mixins.Given as goal

abbrev pub decreases-count : goal.decreases-count
decreases-count l = l.count

abbrev pub invariant-count : goal.invariant-count
invariant-count l = record {
  within : l.count ≤ length l.arguments;
  same : with_mixins (seen_place l.place) l.way (take l.count l.arguments) l.facts ≡ with_mixins (seen_place l.place) l.way l.arguments l.fn.facts;
}
