use Rattle.srb_cli.proofs.Bounded.{work_is_bounded}
use Rattle.srb_cli.proofs.laws.work_is_bounded.Goals as goal

pub returns : goal.returns
returns c = work_is_bounded
