use Rattle.std.proofs.Common.{◌≡◌, List, IfOk, subst}
use Rattle.srb_terms.specs.declared.diag.Diag.{Diag}
use Rattle.srb_judgement.specs.Kept.{seen_context}
use Rattle.srb_infer.proofs.Methods.{method_is}
use Rattle.srb_infer.proofs.bodies.method_body.Goals as goal

pub returns : goal.returns
returns g c = let the = g.L.Language.the c.args.language.now in
    subst (λ (all : List Diag). IfOk c.method_within.result (λ errors. errors ≡ all))
    (method_is the c.args.own c.args.name.now c.args.name_span c.args.row.now c.args.guarded.now c.args.scope.now c.in_ok-copied.field-0
    c.args.signature.params c.as_slice.result.now c.args.signature.result (seen_context c.in_ok-context.context)
    c.in_ok-context.ensures c.in_ok-copied.ensures c.as_slice.ensures)
    c.method_within.ensures
