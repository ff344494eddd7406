use Rattle.std.proofs.Common.{not, ◌&&◌, length, nat_eq, sym, ap, ◌∙◌}
use Rattle.lsp_docs.specs.Uris.{is_empty}
use Rattle.run_core.specs.Cores.{Account}
use Rattle.run_core.specs.Machine.{is_at_rest}
use Rattle.run_core.specs.Rows.{marked}
use Rattle.run_core.specs.declared.mark.Mark.TheVariants.{Todo}
use Rattle.run_core.proofs.RowIndexes.{first_marked-all}
use Rattle.run_core.proofs.core_calls.Core.rest.Goals as goal

pub returns-then-not-self : goal.returns-then-not-self
returns-then-not-self c =
    (λ i. nat_eq (c.first_todo.ensures i) (length (c.as_slice.ensures.entries i)))
    ∙ first_marked-all Todo c.self.inside.rows.entries
    ∙ sym (ap (λ stale. not stale && is_empty (marked Todo c.self.inside.rows.entries)) c.if-not-self.true)
    ∙ ap (λ (a : Account). is_at_rest a.state) c.self.view_is
