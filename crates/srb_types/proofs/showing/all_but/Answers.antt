use Rattle.std.proofs.Common.{bytes_eq, not, ap, ◌∙◌}
use Rattle.srb_types.proofs.Filtering.{kept_step}
use Rattle.srb_types.proofs.showing.all_but.Goals as goal

pub texts-preserved : goal.texts-preserved
texts-preserved c =
    kept_step (λ u. not (bytes_eq u c.args.name.now)) c.args.texts.now c.texts.t-index c.t-item.result c.ne.result
    c.texts.rest.items c.push_if.new.texts.items _ c.texts-test.true c.t-item.is
    (c.ne.ensures ∙ ap (λ u. not (bytes_eq u c.args.name.now)) c.as_str.ensures.text) c.in_ok-push_if.ensures c.texts.invariant
