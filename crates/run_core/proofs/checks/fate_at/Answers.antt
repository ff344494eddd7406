use Rattle.std.proofs.Common.{sym, ◌∙◌}
use Rattle.run_core.proofs.SinceBuild.{drop_test, wait_test}
use Rattle.run_core.proofs.checks.fate_at.Goals as goal

pub returns-then-is_dropped : goal.returns-then-is_dropped
returns-then-is_dropped c = λ f at.
    drop_test c.args.rows.now.entries c.args.index f c.row.result.now c.value-row.result.now c.args.stale c.requires.ordered at c.row.ensures c.value-row.ensures
    ∙ sym c.is_dropped.ensures ∙ c.if-is_dropped.true

pub returns-then-has_to_wait : goal.returns-then-has_to_wait
returns-then-has_to_wait c = λ f at. (
  drop_test c.args.rows.now.entries c.args.index f c.row.result.now c.value-row.result.now c.args.stale c.requires.ordered at c.row.ensures c.value-row.ensures
      ∙ sym c.is_dropped.ensures ∙ c.if-is_dropped.false,
  wait_test c.args.rows.now.entries c.args.index f c.row.result.now c.value-row.result.now c.args.is_looked c.owes.result c.requires.ordered at c.row.ensures c.value-row.ensures
      c.owes.ensures ∙ sym c.has_to_wait.ensures ∙ c.if-has_to_wait.true,
)

pub returns-else-has_to_wait : goal.returns-else-has_to_wait
returns-else-has_to_wait c = λ f at. (
  drop_test c.args.rows.now.entries c.args.index f c.row.result.now c.value-row.result.now c.args.stale c.requires.ordered at c.row.ensures c.value-row.ensures
      ∙ sym c.is_dropped.ensures ∙ c.if-is_dropped.false,
  wait_test c.args.rows.now.entries c.args.index f c.row.result.now c.value-row.result.now c.args.is_looked c.owes.result c.requires.ordered at c.row.ensures c.value-row.ensures
      c.owes.ensures ∙ sym c.has_to_wait.ensures ∙ c.if-has_to_wait.false,
  at,
)
