use Rattle.std.proofs.Common.{ap, ◌∙◌}
use Rattle.lsp_docs.specs.Rows.{planned}
use Rattle.lsp_docs.proofs.TextLemmas.{on_ok_map}
use Rattle.lsp_docs.proofs.docs.Docs.enact.Goals as goal

pub returns-clause-done : goal.returns-clause-done
returns-clause-done c =
    on_ok_map c.put.result _ _ (λ kept. kept (record { root = c.self.inside.root; encoding = c.self.inside.encoding }) ∙ ap (planned c.args.plan) c.self.view_is)
    c.put.ensures.kept
