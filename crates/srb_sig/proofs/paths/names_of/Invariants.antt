use Rattle.std.proofs.Common.{◌≡◌, ◌++◌, map, length}
use Rattle.srb_sig.specs.Forms.{words_of}
use Rattle.srb_sig.proofs.paths.names_of.Given as goal

-- the names of the nodes that are left, and then those taken from the end
abbrev pub invariant-left : goal.invariant-left
invariant-left l = map words_of l.left ++ l.names ≡ map words_of l.suffixes

abbrev pub decreases-left : goal.decreases-left
decreases-left l = length l.left
