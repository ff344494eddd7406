use Rattle.std.proofs.Common.{bytes_eq, sym, ◌∙◌, ap, Some, ◌↔◌, true, ◌≡◌}
use Rattle.indexmap.specs.IndexMap.{get}
use Rattle.indexmap.specs.IndexSet.{contains}
use Rattle.std.proofs.lemmas.Result.{IfOk-weaker}
use Rattle.std.specs.List.{list_any}
use Rattle.srb_rules.specs.declared.link.Link.{Link}
use Rattle.srb_rules.specs.Links.{Reaches, leads}
use Rattle.srb_ancestors.proofs.FirstProofs.{itself_by_row, none_by_row, none_settled, never}
use Rattle.srb_ancestors.proofs.linearization.reaches_itself.Goals as goal

pub returns-then-contains : goal.returns-then-contains
returns-then-contains c = λ ls rows settled.
    never (Reaches ls c.args.name.now c.args.name.now) (none_settled ls (contains bytes_eq c.args.settled.now) c.args.name.now settled (sym c.contains.ensures ∙ c.if-contains.true))

pub returns-in-None : goal.returns-in-None
returns-in-None c = λ ls rows settled.
    never (Reaches ls c.args.name.now c.args.name.now) (none_by_row ls (get bytes_eq c.args.rows.now) c.args.name.now rows (sym c.in-None.ensures.value))

pub returns-in-Some : goal.returns-in-Some
returns-in-Some c =
    IfOk-weaker c.some_leads.result _ _
    (λ b told ls rows settled.
    let by : (list_any (λ (l : Link). leads ls l.to c.args.name.now) c.as_slice.result.now ≡ true) ↔ Reaches ls c.args.name.now c.args.name.now =
    itself_by_row ls (get bytes_eq c.args.rows.now) c.args.name.now c.as_slice.result.now rows (sym c.in-Some.ensures.value ∙ ap Some (sym c.as_slice.ensures)) in
    (λ e. by.0 (sym (told ls rows) ∙ e), λ r. told ls rows ∙ by.1 r))
    c.some_leads.ensures
