use Rattle.std.proofs.Common.{MatchResult, subst}
use Rattle.srb_sig.specs.Signatures.{IsSigEnd, IsSigRead}
use Rattle.srb_sig.specs.Views.{View}
use Rattle.srb_sig.proofs.Views.{view-stands}
use Rattle.srb_sig.proofs.signature.read_sig_of.Goals as goal

pub returns-clause-facts : goal.returns-clause-facts
returns-clause-facts c = λ fs s.
    subst (λ (v : View). MatchResult c.sig_in.result
    (IsSigRead v c.args.scope.now c.args.params.now c.args.s.now.tree) (IsSigEnd c.args.params.now c.args.s.now.tree))
    (view-stands c.args.w.now fs s) c.sig_in.ensures
