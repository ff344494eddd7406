use Rattle.rb_refusal_laws.proofs.Begun.{no-program-begins-so}
use Rattle.rb_refusal_laws.proofs.no_program_begins_so.Goals as goal

pub returns : goal.returns
returns c = no-program-begins-so
