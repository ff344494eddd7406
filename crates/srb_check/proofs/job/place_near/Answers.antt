use Rattle.std.proofs.Common.{sym, ◌∙◌}
use Rattle.srb_check.proofs.Jobs.{index_tells}
use Rattle.srb_check.proofs.job.place_near.Goals as goal

pub returns-then-is_same : goal.returns-then-is_same
returns-then-is_same c =
    λ project ordered are.
    index_tells c.args.path.now project c.args.paths.now c.args.near ordered are c.in-Some.ensures.lookup.3.0
    (sym (c.is_same.ensures.0 c.if-is_same.true) ∙ c.in-Some.ensures.lookup.3.1 c.args.path.now)
