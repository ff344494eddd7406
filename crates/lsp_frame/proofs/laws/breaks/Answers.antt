use Rattle.lsp_frame.proofs.LeastLemmas.{least_break}
use Rattle.lsp_frame.proofs.laws.breaks.Goals as goal

pub returns : goal.returns
returns c = least_break
