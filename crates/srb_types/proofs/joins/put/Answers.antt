use Rattle.srb_shapes.specs.Lineages.{lineage_at}
use Rattle.srb_types.proofs.Gathering.{lins_put}
use Rattle.srb_types.proofs.joins.put.Goals as goal

pub returns-clause-lins : goal.returns-clause-lins
returns-clause-lins c =
    lins_put (lineage_at c.args.w.now) c.args.parts.now.items c.insert.new.self.items c.args.lins.now.items c.insert-2.new.self.items
    c.in_ok-at.at c.args.p.now c.in_ok-copied.field-0 c.in_ok-lin.field-0 c.requires c.in_ok-lin.ensures c.in_ok-copied.ensures
    c.in_ok-insert-2.ensures.items c.in_ok-insert.ensures.items
