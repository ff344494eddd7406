use Rattle.srb_check.proofs.PlacePositions.{place_of-position}
use Rattle.srb_check.proofs.laws.places_are_positions.Goals as goal

pub returns : goal.returns
returns c = place_of-position
