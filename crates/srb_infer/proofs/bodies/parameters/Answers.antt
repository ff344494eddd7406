use Rattle.std.proofs.Common.{ap, sym, ◌∙◌, arith}
use Rattle.std.proofs.lemmas.List.{drop_all}
use Rattle.srb_judgement.specs.Kept.{seen_context}
use Rattle.srb_judgement.specs.Views.{seen_state}
use Rattle.srb_walk.specs.Known.{known_parameters}
use Rattle.srb_infer.specs.Bodies.{with_parameters, seeing_parameters}
use Rattle.srb_infer.proofs.Methods.{judged_step, seen_step}
use Rattle.srb_infer.proofs.bodies.parameters.Goals as goal

pub row-preserved : goal.row-preserved
row-preserved g c = let the = g.L.Language.the c.args.language.now in record {
  judged = judged_step the c.args.method.now c.args.params.now c.args.row.now c.row.each-index c.each-item.result
      (seen_context c.row.inner) (seen_context c.parameter.new.context) (seen_state c.row.state) (seen_state c.parameter.new.state)
      (with_parameters the c.args.method.now c.args.params.now (known_parameters the c.args.row.now) (seen_context c.args.context.now) (seen_state c.args.state.now))
      (omega arith) c.each-item.is c.in_ok-parameter.ensures.judged c.in_ok-parameter.ensures.seen c.row.invariant.judged;
  seen = seen_step the c.args.row.now c.row.each-index c.each-item.result
      (seen_context c.row.inner) (seen_context c.parameter.new.context)
      (seeing_parameters the (known_parameters the c.args.row.now) (seen_context c.args.context.now))
      (omega arith) c.each-item.is c.in_ok-parameter.ensures.seen c.row.invariant.seen;
}

pub row-init : goal.row-init
row-init g c = let the = g.L.Language.the c.args.language.now in record {
  judged = ap (λ x. with_parameters the c.args.method.now c.args.params.now (known_parameters the c.args.row.now) (seen_context x) (seen_state c.args.state.now)) c.in_ok-inner.ensures;
  seen = ap (λ x. seeing_parameters the (known_parameters the c.args.row.now) (seen_context x)) c.in_ok-inner.ensures;
}

pub returns : goal.returns
returns g c = let the = g.L.Language.the c.args.language.now in
    let nothing_left = drop_all c.row.each-index c.args.row.now c.row-test.false in record {
      judged = sym (ap (λ row. with_parameters the c.args.method.now c.args.params.now (known_parameters the row) (seen_context c.row.inner) (seen_state c.row.state)) nothing_left)
          ∙ c.row.invariant.judged;
      seen = sym (ap (λ row. seeing_parameters the (known_parameters the row) (seen_context c.row.inner)) nothing_left) ∙ c.row.invariant.seen;
    }
