use Rattle.std.proofs.Common.{◌≡◌, take}
use Rattle.rb_rewrite.proofs.copies.copied_rescues.Given as goal

abbrev pub invariant-rescues : goal.invariant-rescues
invariant-rescues l = l.copies ≡ take l.rescue-index l.rescues
