use Rattle.std.proofs.Common.{◌≡◌, [], drop}
use Rattle.rb_rewrite.specs.Signatures.{names_from}
use Rattle.rb_rewrite.proofs.signature.names_of.Given as goal

abbrev pub invariant-arguments : goal.invariant-arguments
invariant-arguments l = names_from l.names.keys (drop l.argument-index l.arguments) ≡ names_from [] l.arguments
