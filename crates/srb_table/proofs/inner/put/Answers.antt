use Rattle.std.proofs.Common.{bytes_eq, Some, ◌∙◌, cond}
use Rattle.std.specs.Option.{option_and_then}
use Rattle.indexmap.specs.IndexMap.{get}
use Rattle.srb_terms.specs.Worlds.{value_of}
use Rattle.srb_table.proofs.Colons.{put_at}
use Rattle.srb_table.proofs.inner.put.Goals as goal

pub returns : goal.returns
returns c =
    put_at (get bytes_eq c.args.table.now) (get bytes_eq c.replace.new.table) (get bytes_eq c.replace-2.new.table) (λ t l. value_of l t.entries)
    c.args.scope.now c.args.last c.args.name.now c.new.result c.in_ok-names.names c.in_ok-old.ensures.new c.in_ok-replace.ensures.new
    (λ l. c.in_ok-names.ensures l ∙ (λ i. cond (bytes_eq c.args.last l) (Some c.args.name.now) (option_and_then (λ t. value_of l t.entries) (c.in_ok-old.ensures.old i))))
