use Rattle.std.proofs.Common.{◌*◌, ◌+◌, drop, ap, sym, ◌∙◌}
use Rattle.std.specs.Prelude.{nat_lt}
use Rattle.srb_sig.specs.Types.{product_of}
use Rattle.srb_sig.proofs.Products.{capped_step, drop_next}
use Rattle.srb_sig.proofs.forming.passes.Goals as goal

pub types-preserved : goal.types-preserved
types-preserved c =
    ap (λ n. nat_lt 256 (n * product_of (drop (c.types.ty-index + 1) c.args.types.now))) c.times-product.ensures
    ∙ capped_step c.types.product c.count.result (product_of (drop (c.types.ty-index + 1) c.args.types.now))
    ∙ ap (λ n. nat_lt 256 (c.types.product * (n * product_of (drop (c.types.ty-index + 1) c.args.types.now)))) c.count.ensures
    ∙ ap (λ ts. nat_lt 256 (c.types.product * product_of ts))
    (sym (drop_next c.args.types.now c.types.ty-index c.ty-item.result c.types-test.true c.ty-item.is))
    ∙ c.types.invariant
