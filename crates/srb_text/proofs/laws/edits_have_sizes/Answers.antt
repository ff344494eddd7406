use Rattle.srb_text.proofs.LawLemmas as laws
use Rattle.srb_text.proofs.laws.edits_have_sizes.Goals as goal

pub returns : goal.returns
returns c = laws.edits_have_sizes
