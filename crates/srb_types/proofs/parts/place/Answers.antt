use Rattle.std.proofs.Common.{◌≡◌, ◌-◌, get_or, drop, sym, ap, ◌∙◌, arith}
use Rattle.srb_types.specs.Order.{is_before, before_all}
use Rattle.srb_types.specs.Shown.{shown}
use Rattle.srb_types.proofs.Placing.{placed_first, placed_after}
use Rattle.srb_types.proofs.parts.place.Goals as goal

pub returns-then-not-branch : goal.returns-then-not-branch
returns-then-not-branch c = (
  c.parts.invariant.0,
  placed_after shown c.args.p.now c.args.parts.now c.parts.at c.index-parts-at.result (omega arith) c.parts.invariant.0
      (ap (λ u. is_before u (shown (get_or c.args.parts.now (c.parts.at - 1) c.index-parts-at.result))) (sym c.requires)
      ∙ ap (λ u. is_before c.args.t.now (shown u)) (sym c.index-parts-at.is)
      ∙ sym c.in_ok-is_before_part.ensures ∙ c.if-not-branch.true)
      (ap (λ u. before_all shown u (drop c.parts.at c.args.parts.now)) (sym c.requires) ∙ c.parts.invariant.1),
)

pub returns : goal.returns
returns c =
    let e : c.parts.at ≡ 0 = omega arith in (
      omega arith,
      placed_first shown c.args.p.now c.args.parts.now
          (ap (λ u. before_all shown u c.args.parts.now) (sym c.requires)
          ∙ ap (λ n. before_all shown c.args.t.now (drop n c.args.parts.now)) (sym e) ∙ c.parts.invariant.1),
    )
