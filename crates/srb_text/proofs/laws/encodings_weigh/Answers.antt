use Rattle.srb_text.proofs.LawLemmas as laws
use Rattle.srb_text.proofs.laws.encodings_weigh.Goals as goal

pub returns : goal.returns
returns c = laws.encodings_weigh
