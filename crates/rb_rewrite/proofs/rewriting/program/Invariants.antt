use Rattle.std.proofs.Common.{◌≡◌, map, take}
use Rattle.rb_rewrite.specs.Rewriting.{inner_of}
use Rattle.rb_rewrite.proofs.rewriting.program.Given as goal

abbrev pub invariant-statements : goal.invariant-statements
invariant-statements l = l.made ≡ map inner_of (take l.statement-index l.statements)
