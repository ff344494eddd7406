use Rattle.rb_nesting_laws.proofs.Rows.{nested-parts-lie-in-the-whole}
use Rattle.rb_nesting_laws.proofs.nested_parts_lie_in_the_whole.Goals as goal

pub returns : goal.returns
returns c = nested-parts-lie-in-the-whole
