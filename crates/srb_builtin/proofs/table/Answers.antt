use Rattle.srb_builtin.specs.Table.{built_in}
use Rattle.srb_builtin.proofs.Steps.{from_none}
use Rattle.srb_builtin.proofs.table.Goals as goal

pub returns : goal.returns
unfolding built_in
returns c = from_none c.in_ok-add_rows.ensures c.new-facts.ensures
