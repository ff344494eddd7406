use Rattle.std.proofs.Common.{ap}
use Rattle.srb_terms.specs.Worlds.{inner_at}
use Rattle.srb_table.proofs.Known.{staged-inner}
use Rattle.srb_table.proofs.stages.all_inner.Goals as goal

pub returns : goal.returns
returns c =
    staged-inner c.args.first.now c.args.files.now (λ s l. inner_at s l c.new-table.result.entries) (λ s l. inner_at s l c.add_inner_of_file.new.table.entries) (λ s l. inner_at s l c.add_inner.new.table.entries) (λ s l. ap (inner_at s l) c.new-table.ensures.empty) c.in_ok-add_inner_of_file.ensures c.in_ok-add_inner.ensures
