use Rattle.std.proofs.Common.{◌≡◌, sym, ap, ◌∙◌, drop, arith}
use Rattle.srb_types.specs.Order.{is_before, before_all}
use Rattle.srb_types.proofs.Placing.{placed_first, placed_after}
use Rattle.srb_types.proofs.order.place.Goals as goal

pub returns-then-not-is_before-clause-place : goal.returns-then-not-is_before-clause-place
returns-then-not-is_before-clause-place c = placed_after (λ u. u) c.args.t.now c.args.texts.now c.texts.at c.index-texts-at.result
    (omega arith) c.texts.invariant.0
    (ap (is_before c.args.t.now) (sym (c.as_str.ensures.text ∙ c.index-texts-at.is)) ∙ sym c.is_before.ensures ∙ c.if-not-is_before.true)
    c.texts.invariant.1

pub returns-clause-place : goal.returns-clause-place
returns-clause-place c =
    let e : c.texts.at ≡ 0 = omega arith in
    placed_first (λ u. u) c.args.t.now c.args.texts.now
    (ap (λ n. before_all (λ u. u) c.args.t.now (drop n c.args.texts.now)) (sym e) ∙ c.texts.invariant.1)
