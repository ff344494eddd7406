use Rattle.std.proofs.Common.{◌&&◌, ◌||◌, bytes_eq, ◌∙◌, ap, sym}
use Rattle.std.specs.Option.{option_copied}
use Rattle.indexmap.specs.IndexMap.{get}
use Rattle.srb_rules.specs.Circles.{goes, is_named}
use Rattle.srb_rules.specs.FullNames.{BASIC_OBJECT}
use Rattle.srb_terms.specs.Worlds.{value_of}
use Rattle.srb_table.proofs.Circular.{circles-none, circles-some}
use Rattle.srb_table.proofs.circles.circles.Goals as goal

pub returns-in-None : goal.returns-in-None
returns-in-None c =
    λ of to. circles-none c.args.circular.now (get bytes_eq c.new-table.result) (get bytes_eq c.add_all.new.table) (λ n. ap (value_of n) c.new-table.ensures.empty) c.in_ok-add_all.ensures of to
    ∙ ap (λ o. goes c.args.circular.now of to || (bytes_eq of BASIC_OBJECT && is_named to (option_copied o))) (sym c.in-None.is)

pub returns-in_ok-add-in-Some : goal.returns-in_ok-add-in-Some
returns-in_ok-add-in-Some c =
    λ of to. circles-some c.args.circular.now c.in_ok-basic_object-in-Some.basic_object c.in-Some.superclass.now (get bytes_eq c.new-table.result) (get bytes_eq c.add_all.new.table) (get bytes_eq c.add.new.table) c.in_ok-basic_object-in-Some.ensures (λ n. ap (value_of n) c.new-table.ensures.empty) c.in_ok-add_all.ensures c.in_ok-add-in-Some.ensures of to
    ∙ ap (λ o. goes c.args.circular.now of to || (bytes_eq of BASIC_OBJECT && is_named to (option_copied o))) (sym c.in-Some.is)
