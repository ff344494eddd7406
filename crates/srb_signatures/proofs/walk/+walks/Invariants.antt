use Rattle.std.proofs.Common.{◌≡◌, None, drop}
use Rattle.std.specs.Option.{option_copied}
use Rattle.srb_signatures.specs.Errors.{inner_statements, statement_of, body_of}
use Rattle.srb_signatures.proofs.walk.+walks.Given as goal

abbrev pub invariant-inner_statements-statements : goal.invariant-inner_statements-statements
invariant-inner_statements-statements l =
    inner_statements l.needed (λ s. s) (statement_of l.needed) (body_of l.needed) (option_copied l.sig) (drop l.statement-index l.statements) l.found
    ≡ inner_statements l.needed (λ s. s) (statement_of l.needed) (body_of l.needed) None l.statements l.fn.found
