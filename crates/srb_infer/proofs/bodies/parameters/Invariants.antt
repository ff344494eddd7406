use Rattle.std.proofs.Common.{◌≡◌, drop}
use Rattle.srb_judgement.specs.Kept.{seen_context}
use Rattle.srb_judgement.specs.Views.{seen_state}
use Rattle.srb_walk.specs.Known.{known_parameters}
use Rattle.srb_infer.specs.Bodies.{with_parameters, seeing_parameters}
use Rattle.srb_infer.proofs.bodies.parameters.Given as goal

abbrev pub invariant-row : goal.invariant-row
invariant-row g l = let the = g.L.Language.the l.language in record {
  judged : with_parameters the l.method l.params (known_parameters the (drop l.each-index l.row)) (seen_context l.inner) (seen_state l.state)
      ≡ with_parameters the l.method l.params (known_parameters the l.row) (seen_context l.context) (seen_state l.fn.state);
  seen : seeing_parameters the (known_parameters the (drop l.each-index l.row)) (seen_context l.inner)
      ≡ seeing_parameters the (known_parameters the l.row) (seen_context l.context);
}
