use Rattle.srb_text.proofs.LawLemmas as laws
use Rattle.srb_text.proofs.laws.starts_end_fronts.Goals as goal

pub returns : goal.returns
returns c = laws.starts_end_fronts
