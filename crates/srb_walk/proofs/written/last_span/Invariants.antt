use Rattle.std.proofs.Common.{◌≡◌, drop}
use Rattle.srb_walk.specs.Written.{last_span}
use Rattle.srb_walk.proofs.written.last_span.Given as goal

abbrev pub invariant-statements : goal.invariant-statements
invariant-statements l = last_span l.last (drop l.statement-index l.statements) ≡ last_span l.fn.span l.statements
