use Rattle.srb_text.proofs.LawLemmas as laws
use Rattle.srb_text.proofs.laws.empty_edits_keep.Goals as goal

pub returns : goal.returns
returns c = laws.empty_edits_keep
