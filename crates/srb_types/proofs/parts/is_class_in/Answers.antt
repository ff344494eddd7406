use Rattle.std.proofs.Common.{ap, sym, ◌∙◌}
use Rattle.srb_terms.specs.NameSets.{has_name}
use Rattle.srb_shapes.specs.Lineages.{lineage_at}
use Rattle.srb_types.proofs.Joining.{class_lies}
use Rattle.srb_types.proofs.parts.is_class_in.Goals as goal

pub returns-in-Class : goal.returns-in-Class
returns-in-Class c =
    c.contains.ensures ∙ ap (has_name c.in-Class.d) c.requires.names
    ∙ sym (class_lies (lineage_at c.args.w.now) c.args.p.now c.args.q.now c.args.c.now c.in-Class.d c.requires.class c.in-Class.is)
