use Rattle.std.proofs.Common.{◌∷◌, ◌++◌, None, ap, ◌∙◌, arith}
use Rattle.std.proofs.lemmas.Result.{on_ok_weaker}
use Rattle.std.specs.Option.{option_copied, option_map}
use Rattle.srb_judgement.specs.Bodies as bodies
use Rattle.srb_judgement.specs.Judgements.{part_of}
use Rattle.srb_judgement.specs.Views.{text_in}
use Rattle.srb_walk.specs.Known.{known_trees}
use Rattle.srb_infer.proofs.Bodying.{class_is, inner_told, bodies_told, sig_is, statement_step}
use Rattle.srb_infer.proofs.bodies.+bodies.Goals as goal

pub class-returns : goal.class-returns
class-returns g t c = let the = g.L.Language.the c.args.language.now in
    class_is the c.args.path.now (part_of the c.args.body.now) c.in_ok-name.name c.args.scope.now c.in_ok-inner.inner
    c.args.errors.now c.add_class.new.errors c.inner_bodies.new.errors c.in_ok-name.ensures
    (c.in_ok-inner.ensures ∙ (λ i. c.in_ok-copied-2.ensures i ∷ c.in_ok-copied.ensures i))
    c.in_ok-add_class.ensures c.in_ok-inner_bodies.ensures

pub class_statements-row-preserved : goal.class_statements-row-preserved
class_statements-row-preserved g t c = let the = g.L.Language.the c.args.language.now in
    statement_step the c.args.row.now c.row.statement-index c.statement-item.result
    (option_map (text_in the) (option_copied c.row.sig)) (option_map (text_in the) (option_copied c.sig_of-sig.result)) c.args.scope.now
    c.row.errors c.bodies.new.errors (c.args.errors.now ++ bodies.inner_bodies the None (known_trees the c.args.row.now) c.args.scope.now)
    (omega arith) c.statement-item.is c.in_ok-bodies.ensures
    (ap (option_map (text_in the)) c.sig_of-sig.ensures ∙ sig_is the c.statement-item.result)
    c.row.invariant

pub inner_bodies-returns : goal.inner_bodies-returns
inner_bodies-returns g t c =
    on_ok_weaker c.inner_by_node.result (λ h. inner_told (g.L.Language.the c.args.language.now) c.args.body.now c.args.scope.now c.args.errors.now c.inner_by_node.new.errors h)
    c.inner_by_node.ensures

pub bodies-returns : goal.bodies-returns
bodies-returns g t c =
    on_ok_weaker c.bodies_by_node.result (λ h. bodies_told (g.L.Language.the c.args.language.now) c.args.tree.now
    (option_map (text_in (g.L.Language.the c.args.language.now)) (option_copied c.args.sig)) c.args.scope.now c.args.errors.now c.bodies_by_node.new.errors h)
    c.bodies_by_node.ensures
