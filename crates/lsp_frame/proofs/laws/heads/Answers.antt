use Rattle.lsp_frame.proofs.SaysLemmas.{head_says}
use Rattle.lsp_frame.proofs.laws.heads.Goals as goal

pub returns : goal.returns
returns c = head_says
