use Rattle.std.proofs.Common.{◌≡◌, ◌++◌, OnOk, subst}
use Rattle.srb_references.proofs.Standing.{mentions-stand}
use Rattle.srb_references.proofs.wrong.mention_errors.Goals as goal

pub returns : goal.returns
returns c = λ fs s.
    subst (λ es. OnOk c.add_wrong.result (c.add_wrong.new.found ≡ c.args.found.now ++ es))
    (mentions-stand c.args.world.now fs s c.args.tree.now) c.add_wrong.ensures
