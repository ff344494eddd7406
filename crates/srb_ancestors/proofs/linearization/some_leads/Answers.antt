use Rattle.std.proofs.Common.{sym, ◌∙◌}
use Rattle.std.specs.List.{list_any}
use Rattle.srb_rules.specs.declared.link.Link.{Link}
use Rattle.srb_rules.specs.Links.{leads}
use Rattle.srb_ancestors.proofs.FirstProofs.{any_more, any_none}
use Rattle.srb_ancestors.proofs.linearization.some_leads.Goals as goal

pub links-preserved : goal.links-preserved
links-preserved c = λ ls rows.
    any_more (λ (k : Link). leads ls k.to c.args.name.now) c.args.row.now c.links.link-index c.link-item.result (list_any (λ (k : Link). leads ls k.to c.args.name.now) c.args.row.now)
    c.links-test.true c.link-item.is (c.links.invariant ls rows) (sym (c.in_ok-found.ensures ls rows) ∙ c.if-found.false)

pub returns : goal.returns
returns c = λ ls rows.
    any_none (λ (k : Link). leads ls k.to c.args.name.now) c.args.row.now c.links.link-index (list_any (λ (k : Link). leads ls k.to c.args.name.now) c.args.row.now)
    c.links-test.false (c.links.invariant ls rows)
