use Rattle.lsp_frame.proofs.WholeLemmas.{bodies_say}
use Rattle.lsp_frame.proofs.laws.bodies.Goals as goal

pub returns : goal.returns
returns c = bodies_say 0
