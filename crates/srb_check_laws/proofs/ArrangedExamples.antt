-- The examples are computed.
use Rattle.std.proofs.Common.{refl}
use Rattle.srb_check.specs.Arranged.{arranged}
use Rattle.srb_check_laws.specs.ArrangedExamples.{EachHasItsPlace, EachIsKeptOnce}

pub each-is-kept-once : EachIsKeptOnce
unfolding arranged
each-is-kept-once = refl

pub each-has-its-place : EachHasItsPlace
unfolding arranged
each-has-its-place = refl
