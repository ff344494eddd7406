use Rattle.std.proofs.Common.{◌≡◌, ◌++◌, OnOk, subst}
use Rattle.srb_references.proofs.Standing.{errors-stand}
use Rattle.srb_references.proofs.errors.unresolved.Goals as goal

pub returns : goal.returns
returns c = λ fs s. subst (λ es. OnOk c.check_each.result (c.check_each.new.found ≡ c.args.found.now ++ es)) (errors-stand c.args.world.now fs s c.args.references.now) c.check_each.ensures
