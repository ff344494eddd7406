use Rattle.std.proofs.Common.{not, ap, ◌∙◌}
use Rattle.lsp_docs.specs.Uris.{is_empty}
use Rattle.run_core.specs.Cores.{Account}
use Rattle.run_core.proofs.core_calls.Core.owes.Goals as goal

pub returns : goal.returns
returns c = c.owes.ensures ∙ ap (λ (a : Account). not (is_empty a.state.owed)) c.self.view_is
