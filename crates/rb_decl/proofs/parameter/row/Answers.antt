use Rattle.std.proofs.Common.{rules, arith}
use Rattle.std.proofs.lemmas.Grind.{common_steps}
use Rattle.rb_decl.specs.Parameters.{row, row_from}
use Rattle.rb_decl.proofs.Turns.{turn, last_turn}
use Rattle.rb_decl.proofs.parameter.row.Goals as goal

pub loop-turn-init : goal.loop-turn-init
unfolding row
loop-turn-init c = first_of (search rules, grind (arith, common_steps))

pub returns-in_err-next : goal.returns-in_err-next
unfolding row_from
returns-in_err-next c =
    let e = turn (λ n. row_from c.args.depth c.args.in_brackets n c.loop-turn.stage c.loop-turn.names.keys c.loop-turn.found c.loop-turn.rest.now) _ c.loop-turn._turn c.loop-turn-test.true c.loop-turn.invariant in
    first_of (search rules, grind (arith, common_steps))

pub returns-then-is_over : goal.returns-then-is_over
unfolding row_from
returns-then-is_over c =
    let e = turn (λ n. row_from c.args.depth c.args.in_brackets n c.loop-turn.stage c.loop-turn.names.keys c.loop-turn.found c.loop-turn.rest.now) _ c.loop-turn._turn c.loop-turn-test.true c.loop-turn.invariant in
    first_of (search rules, grind (arith, common_steps))

pub loop-turn-preserved : goal.loop-turn-preserved
unfolding row_from
loop-turn-preserved c =
    let e = turn (λ n. row_from c.args.depth c.args.in_brackets n c.loop-turn.stage c.loop-turn.names.keys c.loop-turn.found c.loop-turn.rest.now) _ c.loop-turn._turn c.loop-turn-test.true c.loop-turn.invariant in
    first_of (search rules, grind (arith, common_steps))

pub returns : goal.returns
unfolding row_from
returns c =
    let e = last_turn (λ n. row_from c.args.depth c.args.in_brackets n c.loop-turn.stage c.loop-turn.names.keys c.loop-turn.found c.loop-turn.rest.now) _ c.loop-turn._turn c.loop-turn-test.false c.loop-turn.invariant in
    first_of (search rules, grind (arith, common_steps))
