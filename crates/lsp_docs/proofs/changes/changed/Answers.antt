use Rattle.std.proofs.Common.{◌+◌, ◌≤◌, drop, sym, ap, ◌∙◌, subst}
use Rattle.std.specs.Str.{chars}
use Rattle.srb_text.specs.Limits.{MOST_BYTES}
use Rattle.lsp_docs.specs.Changes.{after_changes, sum_with}
use Rattle.lsp_docs.proofs.RowsHold.{drop_next}
use Rattle.lsp_docs.proofs.TextLemmas.{spelled_back, next_change}
use Rattle.lsp_docs.proofs.changes.changed.Goals as goal

pub changes-init : goal.changes-init
changes-init c =
    let same = c.in_ok-now.ensures ∙ ap chars c.as_str.ensures.bytes ∙ spelled_back c.args.text.now c.as_str.ensures.scalars in (
      ap (λ t. after_changes c.args.encoding c.args.others t c.args.changes.now) same,
      subst (λ t. sum_with c.args.others t ≤ MOST_BYTES) (sym same) c.requires,
    )

pub changes-preserved : goal.changes-preserved
changes-preserved c =
    let list = c.args.changes.now in (
      sym (ap (after_changes c.args.encoding c.args.others c.changes.now) (drop_next list c.changes.change-index c.change-item.result c.changes-test.true c.change-item.is)
          ∙ next_change c.args.encoding c.args.others c.changes.now c.apply_change.new.text c.change-item.result (drop (c.changes.change-index + 1) list) (c.in_ok-apply_change.ensures.changed))
          ∙ c.changes.invariant.0,
      c.in_ok-apply_change.ensures.fits,
    )

pub returns-in_err-now-clause-spelled : goal.returns-in_err-now-clause-spelled
returns-in_err-now-clause-spelled c = spelled_back c.args.text.now c.as_str.ensures.scalars

pub returns-in_err-apply_change-clause-spelled : goal.returns-in_err-apply_change-clause-spelled
returns-in_err-apply_change-clause-spelled c = spelled_back c.args.text.now c.as_str.ensures.scalars

pub returns-clause-spelled : goal.returns-clause-spelled
returns-clause-spelled c = spelled_back c.args.text.now c.as_str.ensures.scalars

pub returns-in_err-new-clause-spelled : goal.returns-in_err-new-clause-spelled
returns-in_err-new-clause-spelled c = spelled_back c.args.text.now c.as_str.ensures.scalars
