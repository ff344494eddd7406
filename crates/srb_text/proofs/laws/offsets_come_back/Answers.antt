use Rattle.srb_text.proofs.LawLemmas as laws
use Rattle.srb_text.proofs.laws.offsets_come_back.Goals as goal

pub returns : goal.returns
returns c = laws.offsets_come_back
