use Rattle.std.proofs.Common.{◌≡◌, take, length}
use Rattle.rb_outline.proofs.same.+same.Given as goal

abbrev pub invariant-same_rows-loop-i : goal.invariant-same_rows-loop-i
invariant-same_rows-loop-i l = record { as_long : length l.a ≡ length l.b; so_far : take l.i l.a ≡ take l.i l.b }
