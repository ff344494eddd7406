use Rattle.std.proofs.Common.{◌+◌, ◌*◌, length}
use Rattle.run_pool.proofs.path.+running.Given as goal

abbrev pub decreases-run_beside-others : goal.decreases-run_beside-others
decreases-run_beside-others g l = 3 * length l.places.now.items + 1

abbrev pub decreases-run_all : goal.decreases-run_all
decreases-run_all g l = 3 * length l.places.now.items

abbrev pub decreases-run_beside : goal.decreases-run_beside
decreases-run_beside g l = 3 * length l.places.now.items + 2
