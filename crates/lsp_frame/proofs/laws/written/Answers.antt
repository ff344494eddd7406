use Rattle.lsp_frame.proofs.WrittenLemmas.{written_bodies}
use Rattle.lsp_frame.proofs.laws.written.Goals as goal

pub returns : goal.returns
returns c = written_bodies 0
