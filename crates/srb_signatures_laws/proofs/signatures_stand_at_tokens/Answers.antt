use Rattle.srb_signatures_laws.proofs.Places.{signatures-stand}
use Rattle.srb_signatures_laws.proofs.signatures_stand_at_tokens.Goals as goal

pub returns : goal.returns
returns c = signatures-stand
