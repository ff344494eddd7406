use Rattle.srb_check_laws.proofs.Loaded.{loaded-is-kept}
use Rattle.srb_check_laws.proofs.loading_keeps_what_the_bytes_tell.Goals as goal

pub returns : goal.returns
returns c = loaded-is-kept
