use Rattle.std.proofs.Common.{bytes_eq, ap}
use Rattle.indexmap.specs.IndexMap.{get}
use Rattle.srb_terms.specs.Worlds.{value_of}
use Rattle.srb_table.proofs.Known.{staged-kinds}
use Rattle.srb_table.proofs.stages.all_kinds.Goals as goal

pub returns : goal.returns
returns c =
    staged-kinds c.args.first.now c.args.files.now (get bytes_eq c.new-table.result) (get bytes_eq c.add_kinds_of_file.new.kinds) (get bytes_eq c.add_kinds.new.kinds) (λ d. ap (value_of d) c.new-table.ensures.empty) c.in_ok-add_kinds_of_file.ensures c.in_ok-add_kinds.ensures
