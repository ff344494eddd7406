use Rattle.std.proofs.Common.{◌≡◌, ◌∷◌, take}
use Rattle.rb_rewrite.proofs.attributes.with_following.Given as goal

abbrev pub invariant-following : goal.invariant-following
invariant-following l = l.row ≡ l.fn.first ∷ take l.suffix-index l.following
