use Rattle.srb_text.proofs.LawLemmas as laws
use Rattle.srb_text.proofs.laws.positions_rise.Goals as goal

pub returns : goal.returns
returns c = laws.positions_rise
