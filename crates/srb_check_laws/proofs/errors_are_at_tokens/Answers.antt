use Rattle.srb_check_laws.proofs.ErrorPlaces.{errors-at-tokens}
use Rattle.srb_check_laws.proofs.errors_are_at_tokens.Goals as goal

pub returns : goal.returns
returns c = errors-at-tokens
