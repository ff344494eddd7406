use Rattle.std.proofs.Common.{ℕ, List, bytes_eq, ap, ◌∙◌}
use Rattle.std.specs.Option.{option_copied}
use Rattle.indexmap.specs.IndexMap.{get}
use Rattle.srb_rules.specs.FullNames.{BASIC_OBJECT}
use Rattle.srb_table.proofs.Circular.{circles_are}
use Rattle.srb_table.proofs.stages.all_circles.Goals as goal

pub returns : goal.returns
returns c fs circular decides of to =
    c.in_ok-table.ensures of to
    ∙ circles_are fs c.args.circular.now (option_copied c.get.result) circular
    (c.get.ensures.value ∙ ap (λ (n : List ℕ). get bytes_eq c.args.deciding.now n) c.in_ok-basic_object.ensures ∙ decides BASIC_OBJECT) of to
