use Rattle.lsp_docs.proofs.UriLemmas.{path_of_uri}
use Rattle.lsp_docs.proofs.law.each_path_is_read_back.Goals as goal

pub returns : goal.returns
returns c = path_of_uri
