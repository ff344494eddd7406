use Rattle.std.proofs.Common.{◌≡◌, ◌++◌, List, OnOk, append-nil, sym, ap, subst, ◌∙◌}
use Rattle.srb_terms.specs.declared.diag.Diag.{Diag}
use Rattle.srb_check.proofs.TypeErrors.{errors-stand, no-errors}
use Rattle.srb_check.proofs.checking.add_type_errors.Goals as goal

pub returns-then-shows_types : goal.returns-then-shows_types
returns-then-shows_types c =
    λ fs stands tells.
    subst (λ (errors : List Diag). OnOk c.add_judged.result (c.add_judged.new.found ≡ c.args.found.now ++ errors))
    (errors-stand c.args.world.now fs c.args.level c.args.tree.now stands tells) c.add_judged.ensures

pub returns-else-shows_types : goal.returns-else-shows_types
returns-else-shows_types c =
    λ fs stands tells.
    let none = no-errors fs c.args.level c.args.tree.now (sym c.shows_types.ensures ∙ c.if-shows_types.false) in
    sym (ap (λ errors. c.args.found.now ++ errors) none ∙ append-nil c.args.found.now)
