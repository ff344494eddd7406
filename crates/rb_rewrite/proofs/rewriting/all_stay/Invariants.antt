use Rattle.std.proofs.Common.{◌≡◌, drop}
use Rattle.std.specs.List.{list_all}
use Rattle.rb_rewrite.specs.Rewriting.{statement_stays}
use Rattle.rb_rewrite.proofs.rewriting.all_stay.Given as goal

abbrev pub invariant-statements : goal.invariant-statements
invariant-statements l = list_all statement_stays (drop l.statement-index l.statements) ≡ list_all statement_stays l.statements
