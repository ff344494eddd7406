use Rattle.std.proofs.Common.{ap}
use Rattle.srb_terms.specs.Worlds.{inner_at}
use Rattle.srb_table.proofs.KnownMembers.{staged-methods}
use Rattle.srb_table.proofs.members.all_methods.Goals as goal

pub returns : goal.returns
returns c =
    λ stands owner name. staged-methods c.args.w.now c.args.first.now c.args.files.now stands c.args.meta owner name (inner_at owner name c.new-table.result.entries)
    (inner_at owner name c.add_methods_of_file.new.table.entries) (inner_at owner name c.add_methods.new.table.entries)
    (ap (inner_at owner name) c.new-table.ensures.empty) (c.in_ok-add_methods_of_file.ensures owner name) (c.in_ok-add_methods.ensures owner name)
