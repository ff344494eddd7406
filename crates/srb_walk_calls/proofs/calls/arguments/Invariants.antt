use Rattle.std.proofs.Common.{◌≡◌, drop}
use Rattle.srb_judgement.specs.Calls.{judge_arguments, no_arguments}
use Rattle.srb_judgement.specs.Chains.{operands_of}
use Rattle.srb_judgement.specs.Kept.{seen_context}
use Rattle.srb_judgement.specs.Views.{seen_arguments, seen_state}
use Rattle.srb_walk.specs.Known.{known_arguments}
use Rattle.srb_walk.specs.Beside.{seen_beside}
use Rattle.srb_walk_calls.proofs.calls.arguments.Given as goal

abbrev pub invariant-row : goal.invariant-row
invariant-row g l = let the = g.L.Language.the l.language in
    judge_arguments (operands_of (known_arguments the (drop l.each-index l.row))) (seen_beside l.beside (seen_context l.context)) (seen_arguments l.given (seen_state l.state))
    ≡ judge_arguments (operands_of (known_arguments the l.row)) (seen_context l.context) (no_arguments (seen_state l.fn.state))
