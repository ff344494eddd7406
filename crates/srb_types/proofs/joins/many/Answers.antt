use Rattle.std.proofs.Common.{length, nat_lt, ap, sym, ◌∙◌}
use Rattle.srb_shapes.specs.Lineages.{lineage_at}
use Rattle.srb_types.specs.Normal.{with_parts}
use Rattle.srb_types.proofs.Gathering.{many_step, shorter}
use Rattle.srb_types.proofs.joins.many.Goals as goal

pub rest-preserved : goal.rest-preserved
rest-preserved c = (
  many_step (lineage_at c.args.w.now) c.t-item.result c.rest.rest.now c.in-len1-up.len_at_least c.t-item.is
      c.rest.parts.items c.add_parts.new.parts.items
      (ap (λ ps. nat_lt (length ps) 2) (sym c.as_slice-in-len1-up.ensures.value) ∙ sym c.is_few.ensures ∙ c.if-is_few.false)
      (sym c.is_untyped.ensures ∙ c.if-is_untyped.false)
      (c.in_ok-add_parts.ensures.parts ∙ ap (with_parts (lineage_at c.args.w.now) c.rest.parts.items) c.parts.ensures)
      ∙ c.rest.invariant.0,
  shorter (lineage_at c.args.w.now) c.t-item.result c.rest.rest.now c.in-len1-up.len_at_least c.t-item.is
      (length c.args.types.now) c.rest.invariant.1,
  c.in_ok-add_parts.ensures.lins,
)
