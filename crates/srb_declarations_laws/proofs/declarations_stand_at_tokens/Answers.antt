use Rattle.srb_declarations_laws.proofs.Places.{declarations-stand}
use Rattle.srb_declarations_laws.proofs.declarations_stand_at_tokens.Goals as goal

pub returns : goal.returns
returns c = declarations-stand
