use Rattle.std.proofs.Common.{refl}
use Rattle.srb_types_laws.proofs.Table.{table-lineage, table-apart, table-plain, union-normal, turned-apart, union-is, union-turned, union-shown}
use Rattle.srb_types_laws.proofs.examples_are_in_normal_form.Goals as goal

pub returns-clause-table : goal.returns-clause-table
returns-clause-table c = (table-lineage, table-apart, table-plain)

pub returns-clause-union : goal.returns-clause-union
returns-clause-union c = (union-normal, turned-apart, union-is, union-turned)

pub returns-clause-texts : goal.returns-clause-texts
returns-clause-texts c = (refl, refl, refl, refl, refl, union-shown)
