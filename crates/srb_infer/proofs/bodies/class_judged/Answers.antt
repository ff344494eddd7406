use Rattle.std.proofs.Common.{◌≡◌, IfOk, sym, subst}
use Rattle.srb_judgement.specs.Kept.{seen_context}
use Rattle.srb_judgement.specs.States.{Run, judged}
use Rattle.srb_judgement.specs.Views.{seen_state}
use Rattle.srb_terms.specs.declared.ty.Ty.{Ty}
use Rattle.srb_infer.proofs.Bodying.{in_class_is}
use Rattle.srb_infer.proofs.bodies.class_judged.Goals as goal

pub returns : goal.returns
returns g c = let the = g.L.Language.the c.args.language.now in
    subst (λ (run : Run Ty). IfOk c.class_by_node.result (λ ty. judged ty (seen_state c.class_by_node.new.state) ≡ run (seen_context c.args.context.now) (seen_state c.args.state.now)))
    (sym (in_class_is the c.args.body.now))
    c.class_by_node.ensures
