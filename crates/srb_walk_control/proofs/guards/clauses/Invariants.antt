use Rattle.std.proofs.Common.{◌≡◌, drop}
use Rattle.srb_judgement.specs.Guards.{with_clauses}
use Rattle.srb_judgement.specs.Kept.{seen_context}
use Rattle.srb_judgement.specs.Views.{seen_state}
use Rattle.srb_walk_control.specs.Passed.{seen_rescuing, settled_rescuing}
use Rattle.srb_walk.specs.Known.{known_rescues}
use Rattle.srb_walk_control.proofs.guards.clauses.Given as goal

abbrev pub invariant-row : goal.invariant-row
invariant-row g l = let the = g.L.Language.the l.language in
    settled_rescuing (with_clauses the (known_rescues the (drop l.each-index l.row)) (seen_context l.context) (seen_rescuing l.so_far (seen_state l.state)))
    ≡ settled_rescuing (with_clauses the (known_rescues the l.row) (seen_context l.context) (seen_rescuing l.fn.so_far (seen_state l.fn.state)))
