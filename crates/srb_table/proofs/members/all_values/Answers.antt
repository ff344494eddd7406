use Rattle.std.proofs.Common.{bytes_eq, ap}
use Rattle.indexmap.specs.IndexMap.{get}
use Rattle.srb_terms.specs.Worlds.{value_of}
use Rattle.srb_table.proofs.KnownMembers.{staged-values}
use Rattle.srb_table.proofs.members.all_values.Goals as goal

pub returns : goal.returns
returns c =
    λ stands. staged-values c.args.w.now c.args.first.now c.args.files.now stands (get bytes_eq c.new-table.result) (get bytes_eq c.add_values_of_file.new.table) (get bytes_eq c.add_values.new.table) (λ d. ap (value_of d) c.new-table.ensures.empty) c.in_ok-add_values_of_file.ensures c.in_ok-add_values.ensures
