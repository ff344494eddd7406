use Rattle.std.proofs.Common.{◌≡◌, drop}
use Rattle.srb_declarations.specs.Declarations.{inner_statements, statement_of, body_of}
use Rattle.srb_declarations.proofs.walk.+walks.Given as goal

abbrev pub invariant-inner_statements-statements : goal.invariant-inner_statements-statements
invariant-inner_statements-statements l =
    inner_statements (λ s. s) statement_of body_of l.name (drop l.statement-index l.statements) l.scope l.found
    ≡ inner_statements (λ s. s) statement_of body_of l.name l.statements l.scope l.fn.found
