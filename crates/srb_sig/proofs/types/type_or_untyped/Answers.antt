use Rattle.std.proofs.Common.{◌≡◌, IfOk, subst}
use Rattle.srb_sig.specs.Types.{type_of}
use Rattle.srb_sig.specs.Views.{View}
use Rattle.srb_sig.proofs.Views.{view-stands}
use Rattle.srb_sig.proofs.types.type_or_untyped.Goals as goal

pub returns-clause-facts : goal.returns-clause-facts
returns-clause-facts c = λ fs s.
    subst (λ (v : View). IfOk c.known_in.result (λ u. u ≡ type_of v c.args.scope.now c.args.t.now.tree))
    (view-stands c.args.w.now fs s) c.known_in.ensures
