use Rattle.std.proofs.Common.{ap, sym, ◌∙◌, arith}
use Rattle.std.proofs.lemmas.List.{drop_all}
use Rattle.srb_judgement.specs.Kept.{seen_context}
use Rattle.srb_judgement.specs.Sequences.{judge_class_statements, class_body}
use Rattle.srb_judgement.specs.States.{judged}
use Rattle.srb_judgement.specs.Views.{seen_state}
use Rattle.srb_walk.specs.Beside.{seen_beside}
use Rattle.srb_walk.specs.Known.{known_trees}
use Rattle.srb_infer.proofs.Bodying.{class_step}
use Rattle.srb_infer.proofs.bodies.in_class.Goals as goal

pub statements-init : goal.statements-init
statements-init g c = let the = g.L.Language.the c.args.language.now in
    λ i. judge_class_statements the (known_trees the c.args.statements.now) (c.new-beside.ensures (seen_context c.args.context.now) i)
    (judged (c.in_ok-ty.ensures i) (seen_state c.args.state.now))

pub statements-preserved : goal.statements-preserved
statements-preserved g c = let the = g.L.Language.the c.args.language.now in
    class_step the c.args.statements.now c.statements.statement-index c.statement-item.result
    (seen_beside c.statements.beside (seen_context c.args.context.now)) (seen_context c.of.result.now) (seen_beside c.see.new.self (seen_context c.args.context.now))
    (judged c.statements.ty (seen_state c.statements.state)) (judged c.in_ok-ty-2.ty (seen_state c.in_class_statement.new.state))
    (class_body the (known_trees the c.args.statements.now) (seen_context c.args.context.now) (seen_state c.args.state.now))
    (omega arith) c.statement-item.is c.of.ensures c.in_ok-ty-2.ensures c.in_ok-see.ensures c.statements.invariant

pub returns : goal.returns
returns g c = let the = g.L.Language.the c.args.language.now in
    sym (ap (λ row. judge_class_statements the (known_trees the row) (seen_beside c.statements.beside (seen_context c.args.context.now)) (judged c.statements.ty (seen_state c.statements.state)))
    (drop_all c.statements.statement-index c.args.statements.now c.statements-test.false))
    ∙ c.statements.invariant
