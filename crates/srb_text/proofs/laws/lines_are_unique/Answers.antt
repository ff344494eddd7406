use Rattle.srb_text.proofs.LawLemmas as laws
use Rattle.srb_text.proofs.laws.lines_are_unique.Goals as goal

pub returns : goal.returns
returns c = laws.lines_are_unique
