use Rattle.lsp_frame.proofs.GivesLemmas.{gives_bodies}
use Rattle.lsp_frame.proofs.reading.Frames.next.Goals as goal

pub returns-clause-bodies : goal.returns-clause-bodies
returns-clause-bodies g c = λ going. gives_bodies c.args.self.now c.read_on.new.self _ _ _ _ c.read_on.result c.read_on.ensures
