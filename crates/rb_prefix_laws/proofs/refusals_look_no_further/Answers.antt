use Rattle.rb_prefix_laws.proofs.Laws.{refusals-look-no-further, programs-need-no-more-depth}
use Rattle.rb_prefix_laws.proofs.refusals_look_no_further.Goals as goal

pub returns-clause-refused : goal.returns-clause-refused
returns-clause-refused c = refusals-look-no-further

pub returns-clause-depth : goal.returns-clause-depth
returns-clause-depth c = programs-need-no-more-depth
