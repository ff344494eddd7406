use Rattle.std.proofs.Common.{◌≡◌, sym, ap, ◌∙◌, drop, arith}
use Rattle.srb_types.specs.Order.{is_before, before_all}
use Rattle.srb_types.proofs.Placing.{placed_first, placed_after}
use Rattle.srb_types.proofs.names.place.Goals as goal

pub returns-then-not-is_before-clause-place : goal.returns-then-not-is_before-clause-place
returns-then-not-is_before-clause-place c = placed_after (λ u. u) c.args.c.now c.args.names.now c.names.at c.index-names-at.result
    (omega arith) c.names.invariant.0
    (ap (is_before c.args.c.now) (sym (c.as_str.ensures.text ∙ c.index-names-at.is)) ∙ sym c.is_before.ensures ∙ c.if-not-is_before.true)
    c.names.invariant.1

pub returns-clause-place : goal.returns-clause-place
returns-clause-place c =
    let e : c.names.at ≡ 0 = omega arith in
    placed_first (λ u. u) c.args.c.now c.args.names.now
    (ap (λ n. before_all (λ u. u) c.args.c.now (drop n c.args.names.now)) (sym e) ∙ c.names.invariant.1)
