use Rattle.std.proofs.Common.{bytes_eq, Some, ◌∙◌, cond}
use Rattle.std.specs.Option.{option_and_then}
use Rattle.indexmap.specs.IndexMap.{get}
use Rattle.srb_terms.specs.Worlds.{value_of}
use Rattle.srb_table.proofs.Colons.{put_at}
use Rattle.srb_table.proofs.nested.put.Goals as goal

pub returns : goal.returns
returns g c =
    put_at (get bytes_eq c.args.table.now) (get bytes_eq c.replace.new.table) (get bytes_eq c.replace-2.new.table) (λ t n. value_of n t.entries)
    c.args.outer.now c.args.name c.args.value c.new.result c.in_ok-values.values c.in_ok-old.ensures.new c.in_ok-replace.ensures.new
    (λ n. c.in_ok-values.ensures n ∙ (λ i. cond (bytes_eq c.args.name n) (Some c.args.value) (option_and_then (λ t. value_of n t.entries) (c.in_ok-old.ensures.old i))))
