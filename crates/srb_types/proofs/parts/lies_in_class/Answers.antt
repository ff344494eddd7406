use Rattle.std.proofs.Common.{sym, ◌∙◌}
use Rattle.srb_shapes.specs.Lineages.{lineage_at}
use Rattle.srb_types.proofs.Joining.{class_lies}
use Rattle.srb_types.proofs.parts.lies_in_class.Goals as goal

pub returns-in-Class : goal.returns-in-Class
returns-in-Class c =
    c.is_under.ensures
    ∙ sym (class_lies (lineage_at c.args.w.now) c.args.p.now c.args.q.now c.in-Class.c c.args.d.now c.in-Class.is c.requires)
