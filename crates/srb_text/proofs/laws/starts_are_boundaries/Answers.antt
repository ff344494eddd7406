use Rattle.srb_text.proofs.BoundaryLemmas as laws
use Rattle.srb_text.proofs.laws.starts_are_boundaries.Goals as goal

pub returns : goal.returns
returns c = laws.starts_are_boundaries
