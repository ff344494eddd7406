use Rattle.std.proofs.Common.{◌≡◌, drop}
use Rattle.rb_rewrite.specs.Signatures.{are_named}
use Rattle.rb_rewrite.proofs.signature.are_named.Given as goal

abbrev pub invariant-parameters : goal.invariant-parameters
invariant-parameters l = are_named l.names.keys (drop l.parameter-index l.parameters) ≡ are_named l.names.keys l.parameters
