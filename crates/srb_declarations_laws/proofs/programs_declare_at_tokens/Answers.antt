use Rattle.srb_declarations_laws.proofs.Programs.{programs-declare}
use Rattle.srb_declarations_laws.proofs.programs_declare_at_tokens.Goals as goal

pub returns : goal.returns
returns c = programs-declare
