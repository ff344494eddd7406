use Rattle.std.proofs.Common.{nat_le, rules, of_calls}
use Rattle.std.proofs.lemmas.Fn.{always_returns_same}
use Rattle.srb_text.proofs.SortedLemmas.{partitioned_up_to, prefix_from_point}
use Rattle.srb_text.proofs.table.starts_up_to.Goals as goal

pub returns-clause-count : goal.returns-clause-count
returns-clause-count c =
    let point = c.partition_point.ensures.partitioned (λ s. nat_le s c.args.at) (always_returns_same _ _ _ (λ a r f k. search (rules, of_calls)))
    (partitioned_up_to c.args.starts.now c.args.at c.requires) in
    prefix_from_point (λ s. nat_le s c.args.at) c.args.starts.now c.partition_point.result c.partition_point.ensures.bound point
