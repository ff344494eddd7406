use Rattle.srb_gen.proofs.Shut.{session_is_shut}
use Rattle.srb_gen.proofs.law.the_generated_session_is_shut.Goals as goal

pub returns : goal.returns
returns c = session_is_shut
