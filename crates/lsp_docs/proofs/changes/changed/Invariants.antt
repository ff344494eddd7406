use Rattle.std.proofs.Common.{◌≡◌, ◌≤◌, drop}
use Rattle.srb_text.specs.Limits.{MOST_BYTES}
use Rattle.lsp_docs.specs.Changes.{after_changes, sum_with}
use Rattle.lsp_docs.proofs.changes.changed.Given as goal

-- the changes left lead from the text so far to what all lead to
abbrev pub invariant-changes : goal.invariant-changes
invariant-changes l =
    (after_changes l.encoding l.others l.now (drop l.change-index l.changes) ≡ after_changes l.encoding l.others l.text l.changes)
    × (sum_with l.others l.now ≤ MOST_BYTES)
