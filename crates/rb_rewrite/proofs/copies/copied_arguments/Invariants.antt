use Rattle.std.proofs.Common.{◌≡◌, take}
use Rattle.rb_rewrite.proofs.copies.copied_arguments.Given as goal

abbrev pub invariant-arguments : goal.invariant-arguments
invariant-arguments l = l.copies ≡ take l.argument-index l.arguments
