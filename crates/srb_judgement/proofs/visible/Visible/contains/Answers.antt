use Rattle.std.proofs.Common.{ap, ◌∙◌}
use Rattle.srb_terms.specs.NameSets.{has_name}
use Rattle.srb_judgement.specs.Seen.{names_in}
use Rattle.srb_judgement.proofs.SeenNames.{in-first, in-second}
use Rattle.srb_judgement.proofs.visible.Visible.contains.Goals as goal

pub returns-then-contains : goal.returns-then-contains
returns-then-contains c =
    in-first c.args.name.now c.contains.result c.self.inside.recent (names_in (λ set. set.value.keys) c.self.inside.settled)
    c.if-contains.true c.contains.ensures
    ∙ ap (λ all. has_name c.args.name.now all) c.self.view_is

pub returns-else-contains : goal.returns-else-contains
returns-else-contains c =
    in-second c.args.name.now c.contains.result c.has_settled.result c.self.inside.recent (names_in (λ set. set.value.keys) c.self.inside.settled)
    c.if-contains.false c.contains.ensures c.has_settled.ensures
    ∙ ap (λ all. has_name c.args.name.now all) c.self.view_is
