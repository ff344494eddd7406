use Rattle.std.proofs.Common.{◌≡◌, drop}
use Rattle.std.specs.Option.{option_copied}
use Rattle.rb_rewrite.specs.Rewriting.{row, empty_row, with_statements, inner_of}
use Rattle.rb_rewrite.proofs.rewriting.+rewrites.Given as goal

abbrev pub invariant-rewritten-statements : goal.invariant-rewritten-statements
invariant-rewritten-statements l =
    with_statements (λ s. s) inner_of (row (option_copied l.sig) l.so_far) (drop l.statement-index l.statements)
    ≡ with_statements (λ s. s) inner_of empty_row l.statements
