use Rattle.srb_cli.proofs.Complete.{sessions_are_served}
use Rattle.srb_cli.proofs.laws.sessions_are_served.Goals as goal

pub returns : goal.returns
returns c = sessions_are_served
