use Rattle.std.proofs.Common.{◌≡◌, bytes_eq, drop}
use Rattle.std.specs.List.{fold}
use Rattle.indexmap.specs.IndexMap.{get}
use Rattle.srb_table.specs.Steps.{links_after, mixed_at}
use Rattle.srb_table.proofs.links.add_links.Given as goal

abbrev pub invariant-files : goal.invariant-files
invariant-files l =
    fold (fold (links_after (get bytes_eq l.superclasses) (mixed_at l.w))) (l.table) (drop l.file-index l.files) ≡ fold (fold (links_after (get bytes_eq l.superclasses) (mixed_at l.w))) (l.fn.table) l.files
