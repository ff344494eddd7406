use Rattle.std.proofs.Common.{◌≡◌, drop}
use Rattle.srb_check.specs.Readings.{token_place}
use Rattle.srb_check.proofs.reading.token_place.Given as goal

abbrev pub invariant-loop-token : goal.invariant-loop-token
invariant-loop-token l = token_place (drop l.token-index l.tokens) l.size l.at ≡ token_place l.tokens l.size l.at
