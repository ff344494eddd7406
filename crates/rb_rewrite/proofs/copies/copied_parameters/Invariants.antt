use Rattle.std.proofs.Common.{◌≡◌, take}
use Rattle.rb_rewrite.proofs.copies.copied_parameters.Given as goal

abbrev pub invariant-parameters : goal.invariant-parameters
invariant-parameters l = l.copies ≡ take l.parameter-index l.parameters
