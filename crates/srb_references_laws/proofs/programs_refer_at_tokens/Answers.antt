use Rattle.srb_references_laws.proofs.Programs.{programs-refer}
use Rattle.srb_references_laws.proofs.programs_refer_at_tokens.Goals as goal

pub returns : goal.returns
returns c = programs-refer
