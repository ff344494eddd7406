use Rattle.srb_references_laws.proofs.Types.{malformed-stand}
use Rattle.srb_references_laws.proofs.malformed_types_stand_at_tokens.Goals as goal

pub returns : goal.returns
returns c = malformed-stand
