use Rattle.std.proofs.Common.{◌∙◌}
use Rattle.srb_shapes.specs.Lineages.{lineage_at}
use Rattle.srb_types.proofs.Gathering.{kept_lies}
use Rattle.srb_types.proofs.joins.is_in_class.Goals as goal

pub returns-in-Class : goal.returns-in-Class
returns-in-Class c =
    c.contains.ensures
    ∙ kept_lies (lineage_at c.args.w.now) c.args.p.now c.args.q.now c.in-Class.field-0 c.args.d.now c.args.names.now
    c.in-Class.is c.requires.class c.requires.names
