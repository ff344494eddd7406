use Rattle.std.proofs.Common.{◌≡◌, IfOk, ap, subst}
use Rattle.srb_judgement.specs.Chains.{operands_of}
use Rattle.srb_walk.specs.Known.{known_arguments, known_blocks}
use Rattle.srb_judgement.specs.Expressions.{command}
use Rattle.srb_judgement.specs.Kept.{seen_context}
use Rattle.srb_judgement.specs.States.{judged}
use Rattle.srb_judgement.specs.Views.{seen_state}
use Rattle.srb_walk.proofs.EndingProofs.{ending_told}
use Rattle.srb_walk.specs.Endings.{seen_end}
use Rattle.srb_walk_calls.proofs.calls.command.Goals as goal

pub returns : goal.returns
returns g c = let the = g.L.Language.the c.args.language.now in
    subst (λ j. IfOk c.command_on.result (λ ty. judged ty (seen_state c.command_on.new.state) ≡ j))
    (ap (λ e. command the e (operands_of (known_arguments the c.args.row.now)) (known_blocks the c.args.own.now) c.args.span (seen_context c.args.context.now) (seen_state c.args.state.now)) (ending_told the c.args.callee.now (seen_end c.of.result) c.of.ensures))
    c.command_on.ensures
