use Rattle.std.proofs.Common.{◌≡◌, List, IfOk, subst}
use Rattle.std.specs.Option.{option_copied}
use Rattle.srb_terms.specs.declared.diag.Diag.{Diag}
use Rattle.srb_judgement.specs.Kept.{seen_context}
use Rattle.srb_judgement.specs.States.{judged}
use Rattle.srb_judgement.specs.Views.{seen_state}
use Rattle.srb_infer.proofs.Methods.{within_is}
use Rattle.srb_infer.proofs.bodies.method_within.Goals as goal

pub returns : goal.returns
returns g c = let the = g.L.Language.the c.args.language.now in
    subst (λ (all : List Diag). IfOk c.method_end.result (λ errors. errors ≡ all))
    (within_is the c.args.name.now c.args.name_span c.result_place-place.result c.args.row.now c.args.guarded.now c.args.params.now
    (option_copied c.as_ref.result) (seen_context c.args.context.now) (seen_context c.in_ok-inner.inner)
    (seen_state c.fresh-state.result) (seen_state c.parameters.new.state) (judged c.in_ok-ty.ty (seen_state c.guard.new.state))
    c.fresh-state.ensures c.in_ok-inner.ensures.judged c.in_ok-inner.ensures.seen c.in_ok-ty.ensures c.result_place-place.ensures c.as_ref.ensures.value)
    c.method_end.ensures
