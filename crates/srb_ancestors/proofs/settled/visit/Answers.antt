use Rattle.std.proofs.Common.{bytes_eq, ap, sym, ◌∙◌, Some}
use Rattle.std.proofs.lemmas.Result.{on_ok_weaker}
use Rattle.indexmap.specs.IndexMap.{get}
use Rattle.indexmap.specs.IndexSet.{contains}
use Rattle.srb_ancestors.proofs.SettleProofs.{settled_more}
use Rattle.srb_ancestors.proofs.settled.visit.Goals as goal

pub returns-in-Some : goal.returns-in-Some
returns-in-Some c =
    on_ok_weaker c.settle.result (λ more ls rows was.
    settled_more ls (get bytes_eq c.args.rows.now) c.in-Some.name.now c.as_slice.result.now (contains bytes_eq c.args.settled.now) (contains bytes_eq c.settle.new.settled)
    (c.in-Some.ensures.value ∙ ap Some (sym c.as_slice.ensures)) more rows was)
    c.settle.ensures
