use Rattle.std.proofs.Common.{◌≡◌, length, nat_lt, ap, sym, subst, ◌∙◌}
use Rattle.std.specs.Prelude.{IfOk}
use Rattle.srb_shapes.specs.Lineages.{lineage_at}
use Rattle.srb_shapes.specs.Parts.{of_parts}
use Rattle.srb_types.specs.Normal.{any_after}
use Rattle.srb_types.proofs.Gathering.{joined_again}
use Rattle.srb_types.proofs.joins.far.Goals as goal

pub returns-clause-union : goal.returns-clause-union
returns-clause-union c =
    subst (λ u. IfOk c.many.result (λ r. any_after (lineage_at c.args.w.now) r.0 r.1.now ≡ any_after (lineage_at c.args.w.now) u c.args.types.now))
    (ap of_parts (c.in_ok-parts.ensures ∙ c.parts-2.ensures)
    ∙ joined_again c.args.union
    (ap (λ ps. nat_lt (length ps) 2) (sym c.parts.ensures) ∙ sym c.is_few.ensures ∙ c.if-is_few.false))
    c.many.ensures.union
