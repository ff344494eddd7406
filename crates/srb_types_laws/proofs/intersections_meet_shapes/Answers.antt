use Rattle.srb_types_laws.proofs.Parts.{is-well}
use Rattle.srb_types_laws.proofs.Meetings.{all-exact, all-keeps, meet-exact, meet-keeps}
use Rattle.srb_types_laws.proofs.Results.{all-normal, meet-normal}
use Rattle.srb_types_laws.proofs.intersections_meet_shapes.Goals as goal

pub returns-clause-all : goal.returns-clause-all
returns-clause-all c L t u s laws n m valid = (all-keeps L laws t u (is-well L t n) (is-well L u m) s valid, all-exact L laws t u (is-well L t n) (is-well L u m) s valid)

pub returns-clause-meet : goal.returns-clause-meet
returns-clause-meet c L t u s laws n m valid = (meet-keeps L laws t u (is-well L t n) (is-well L u m) s valid, meet-exact L laws t u (is-well L t n) (is-well L u m) s valid)

pub returns-clause-normal : goal.returns-clause-normal
returns-clause-normal c L t u laws n m = (all-normal L laws t u n m, meet-normal L laws t u n m)
