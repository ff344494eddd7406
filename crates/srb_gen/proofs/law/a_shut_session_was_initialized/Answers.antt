use Rattle.srb_gen.proofs.Taken.{shut_is_begun}
use Rattle.srb_gen.proofs.law.a_shut_session_was_initialized.Goals as goal

pub returns : goal.returns
returns c = shut_is_begun
