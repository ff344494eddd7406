use Rattle.std.proofs.lemmas.Bool.{both_ways}
use Rattle.srb_ancestors.proofs.FirstProofs.{none_more, first_found, none_found}
use Rattle.srb_ancestors.proofs.linearization.first_circular.Goals as goal

pub returns-then-found : goal.returns-then-found
returns-then-found c =
    first_found c.args.links.now c.links.link-index c.link-item.result c.links-test.true c.link-item.is c.links.invariant
    ((c.in_ok-found.ensures c.args.links.now c.requires.rows c.requires.settled).0 c.if-found.true)

pub links-preserved : goal.links-preserved
links-preserved c =
    none_more c.args.links.now c.links.link-index c.link-item.result c.links-test.true c.link-item.is c.links.invariant
    (λ r. both_ways c.in_ok-found.found c.if-found.false ((c.in_ok-found.ensures c.args.links.now c.requires.rows c.requires.settled).1 r))

pub returns : goal.returns
returns c = none_found c.args.links.now c.links.link-index c.links-test.false c.links.invariant
