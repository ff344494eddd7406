use Rattle.std.proofs.Common.{sym, ◌∙◌}
use Rattle.srb_ancestors.proofs.PlaceProofs.{end_at}
use Rattle.srb_ancestors.proofs.linearization.have_lists.Goals as goal

pub returns-then-not-contains_key-clause-no : goal.returns-then-not-contains_key-clause-no
returns-then-not-contains_key-clause-no c = λ all.
    sym c.if-not-contains_key.true ∙ c.contains_key.ensures ∙ all c.link-item.result.to (end_at c.args.row.now c.links.link-index c.link-item.result c.links-test.true c.link-item.is)
