use Rattle.std.proofs.Common.{◌≡◌, IfOk, subst}
use Rattle.srb_sig.specs.Types.{wrong_parts}
use Rattle.srb_sig.specs.Views.{View}
use Rattle.srb_sig.proofs.Views.{view-stands}
use Rattle.srb_sig.proofs.types.wrong_parts.Goals as goal

pub returns-clause-facts : goal.returns-clause-facts
returns-clause-facts c = λ fs s.
    subst (λ (v : View). IfOk c.wrong_in.result (λ ps. ps ≡ wrong_parts v c.args.scope.now c.args.t.now.tree))
    (view-stands c.args.w.now fs s) c.wrong_in.ensures
