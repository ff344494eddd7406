use Rattle.rb_prefix_laws.proofs.Examples.{shallow-looks-further}
use Rattle.rb_prefix_laws.proofs.shallow_readers_look_further.Goals as goal

pub returns : goal.returns
returns c = shallow-looks-further
