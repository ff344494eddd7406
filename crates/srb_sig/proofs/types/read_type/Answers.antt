use Rattle.std.proofs.Common.{MatchResult, subst}
use Rattle.srb_sig.specs.Types.{HasType, IsTyEnd}
use Rattle.srb_sig.specs.Views.{View}
use Rattle.srb_sig.proofs.Views.{view-stands}
use Rattle.srb_sig.proofs.types.read_type.Goals as goal

pub returns-clause-facts : goal.returns-clause-facts
returns-clause-facts c = λ fs s.
    subst (λ (v : View). MatchResult c.type_in.result (HasType v c.args.scope.now c.args.t.now.tree) (IsTyEnd v c.args.scope.now c.args.t.now.tree))
    (view-stands c.args.w.now fs s) c.type_in.ensures
