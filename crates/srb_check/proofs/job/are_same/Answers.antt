use Rattle.std.proofs.lemmas.Bool.Decides.{same_from_decides}
use Rattle.srb_check.proofs.FactLists.{same_facts-decides}
use Rattle.srb_check.proofs.job.are_same.Goals as goal

pub returns : goal.returns
returns c = same_from_decides c.same.result _ c.same.ensures (same_facts-decides c.args.a.now c.args.b.now)
