use Rattle.std.proofs.Common.{rules, arith}
use Rattle.std.proofs.lemmas.Grind.{common_steps}
use Rattle.rb_decl.specs.Items.{item, statements, statements_from}
use Rattle.rb_decl.proofs.Turns.{turn, last_turn}
use Rattle.rb_decl.proofs.item.+items.Goals as goal

pub statements-loop-turn-init : goal.statements-loop-turn-init
unfolding statements
statements-loop-turn-init t c = first_of (search rules, grind (arith, common_steps))

pub statements-returns-then-ends : goal.statements-returns-then-ends
unfolding statements_from
statements-returns-then-ends t c =
    let e = turn (λ n. statements_from (item c.args.depth c.args.long) n c.loop-turn.found c.loop-turn.rest.now) _ c.loop-turn._turn c.loop-turn-test.true c.loop-turn.invariant in
    first_of (search rules, grind (arith, common_steps))

pub statements-returns-in_err-next : goal.statements-returns-in_err-next
unfolding statements_from
statements-returns-in_err-next t c =
    let e = turn (λ n. statements_from (item c.args.depth c.args.long) n c.loop-turn.found c.loop-turn.rest.now) _ c.loop-turn._turn c.loop-turn-test.true c.loop-turn.invariant in
    first_of (search rules, grind (arith, common_steps))

pub statements-returns-then-not-sees : goal.statements-returns-then-not-sees
unfolding statements_from
statements-returns-then-not-sees t c =
    let e = turn (λ n. statements_from (item c.args.depth c.args.long) n c.loop-turn.found c.loop-turn.rest.now) _ c.loop-turn._turn c.loop-turn-test.true c.loop-turn.invariant in
    first_of (search rules, grind (arith, common_steps))

pub statements-loop-turn-preserved : goal.statements-loop-turn-preserved
unfolding statements_from
statements-loop-turn-preserved t c =
    let e = turn (λ n. statements_from (item c.args.depth c.args.long) n c.loop-turn.found c.loop-turn.rest.now) _ c.loop-turn._turn c.loop-turn-test.true c.loop-turn.invariant in
    first_of (search rules, grind (arith, common_steps))

pub statements-returns : goal.statements-returns
unfolding statements_from
statements-returns t c =
    let e = last_turn (λ n. statements_from (item c.args.depth c.args.long) n c.loop-turn.found c.loop-turn.rest.now) _ c.loop-turn._turn c.loop-turn-test.false c.loop-turn.invariant in
    first_of (search rules, grind (arith, common_steps))
