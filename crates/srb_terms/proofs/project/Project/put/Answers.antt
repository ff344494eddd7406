use Rattle.srb_terms.proofs.PathOrder.{put_tells_each_path}
use Rattle.srb_terms.proofs.project.Project.put.Goals as goal

pub returns-clause-at : goal.returns-clause-at
returns-clause-at c =
    put_tells_each_path c.put.result _ _ _ _ _ _ c.from_vec.ensures c.put.ensures.ok c.self.view_is
