use Rattle.lsp_frame.proofs.WrittenLemmas.{read_none, read_on, read_more}
use Rattle.lsp_frame.proofs.laws.reads.Goals as goal

pub returns : goal.returns
returns c = record { start = read_none; body = read_on; other = read_more }
