use Rattle.std.proofs.Common.{◌≡◌, [], drop}
use Rattle.srb_declarations.specs.Declarations.{program_statements}
use Rattle.srb_declarations.proofs.walk.program.Given as goal

abbrev pub invariant-statements : goal.invariant-statements
invariant-statements l = program_statements (drop l.statement-index l.statements) l.found ≡ program_statements l.statements []
