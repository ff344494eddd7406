use Rattle.srb_check_laws.proofs.ErrorPlaces.{errors_of-places}
use Rattle.srb_check_laws.proofs.errors_are_at_places.Goals as goal

pub returns : goal.returns
returns c = errors_of-places
