use Rattle.srb_text.proofs.LawLemmas as laws
use Rattle.srb_text.proofs.laws.offsets_are_starts.Goals as goal

pub returns : goal.returns
returns c = laws.offsets_are_starts
