use Rattle.std.proofs.Common.{false, ◌++◌, map, ap, ◌∙◌}
use Rattle.srb_judgement.specs.Guards.{handled}
use Rattle.srb_judgement.specs.Views.{seen_environment, seen_row}
use Rattle.srb_walk.specs.Assigned.{names_of}
use Rattle.srb_walk_control.proofs.guards.no_clauses.Goals as goal

pub returns-clause-ends : goal.returns-clause-ends
returns-clause-ends g c = c.no_ends.ensures

pub returns-clause-patterns : goal.returns-clause-patterns
returns-clause-patterns g c = let the = g.L.Language.the c.args.language.now in
    c.in_ok-patterns.ensures ∙ ap (λ rows. handled the (seen_environment c.args.entry.now) (map seen_row rows)) c.as_slice.ensures

pub returns-clause-visible : goal.returns-clause-visible
returns-clause-visible g c = let the = g.L.Language.the c.args.language.now in
    c.in_ok-assigned.ensures ∙ ap (λ names. names ++ names_of the false c.args.body.now) c.new-visible.ensures
