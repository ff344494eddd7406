use Rattle.lsp_docs.proofs.UriLemmas.{uri_below_differs}
use Rattle.lsp_docs.proofs.law.no_two_paths_have_one_uri.Goals as goal

pub returns : goal.returns
returns c = uri_below_differs
