use Rattle.std.proofs.Common.{bytes_eq}
use Rattle.indexmap.specs.IndexMap.{get}
use Rattle.srb_table.proofs.Known.{staged-links}
use Rattle.srb_table.proofs.stages.all_links.Goals as goal

pub returns : goal.returns
returns c =
    λ known right. staged-links c.args.w.now c.args.first.now c.args.files.now known (get bytes_eq c.args.superclasses.now) right c.new-table.result c.add_links_of_file.new.table c.add_links.new.table c.new-table.ensures c.in_ok-add_links_of_file.ensures c.in_ok-add_links.ensures
