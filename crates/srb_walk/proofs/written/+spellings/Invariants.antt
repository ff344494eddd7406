use Rattle.std.proofs.Common.{◌+◌, ◌*◌}
use Rattle.srb_walk.proofs.written.+spellings.Given as goal

abbrev pub decreases-spelling : goal.decreases-spelling
decreases-spelling g l = 8 * goal.size-spelling g l + 1

abbrev pub decreases-spelling_by_node : goal.decreases-spelling_by_node
decreases-spelling_by_node g l = 8 * goal.size-spelling_by_node g l + 0
