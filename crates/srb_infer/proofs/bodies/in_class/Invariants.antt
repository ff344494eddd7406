use Rattle.std.proofs.Common.{◌≡◌, drop}
use Rattle.srb_judgement.specs.Kept.{seen_context}
use Rattle.srb_judgement.specs.Sequences.{judge_class_statements, class_body}
use Rattle.srb_judgement.specs.States.{judged}
use Rattle.srb_judgement.specs.Views.{seen_state}
use Rattle.srb_walk.specs.Beside.{seen_beside}
use Rattle.srb_walk.specs.Known.{known_trees}
use Rattle.srb_infer.proofs.bodies.in_class.Given as goal

abbrev pub invariant-statements : goal.invariant-statements
invariant-statements g l = let the = g.L.Language.the l.language in
    judge_class_statements the (known_trees the (drop l.statement-index l.statements)) (seen_beside l.beside (seen_context l.context)) (judged l.ty (seen_state l.state))
    ≡ class_body the (known_trees the l.statements) (seen_context l.context) (seen_state l.fn.state)
