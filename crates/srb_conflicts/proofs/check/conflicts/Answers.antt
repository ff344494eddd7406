use Rattle.std.proofs.Common.{◌≡◌, ◌++◌, OnOk, subst}
use Rattle.srb_conflicts.specs.Conflicts.{conflict_errors, errors_by}
use Rattle.srb_conflicts.proofs.Standing.{known-stands}
use Rattle.srb_conflicts.proofs.check.conflicts.Goals as goal

pub returns : goal.returns
unfolding conflict_errors
returns c = λ fs s.
    subst (λ k. OnOk c.add_errors.result (c.add_errors.new.found ≡ c.args.found.now ++ errors_by k c.args.declarations.now))
    (known-stands c.args.world.now fs s) c.add_errors.ensures
