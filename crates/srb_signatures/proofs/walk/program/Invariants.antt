use Rattle.std.proofs.Common.{◌≡◌, [], drop}
use Rattle.srb_signatures.specs.Errors.{program_statements}
use Rattle.srb_signatures.proofs.walk.program.Given as goal

abbrev pub invariant-statements : goal.invariant-statements
invariant-statements l = program_statements l.needed (drop l.statement-index l.statements) l.found ≡ program_statements l.needed l.statements []
