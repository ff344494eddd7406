use Rattle.std.proofs.Common.{rules, arith}
use Rattle.std.proofs.lemmas.Grind.{common_steps}
use Rattle.rb_expr.specs.Operands.{elements, elements_from}
use Rattle.rb_expr.specs.Grammar.{parsed}
use Rattle.rb_expr.proofs.Turns.{none_left, turn_left}
use Rattle.rb_expr.proofs.grammar.Grammar.elements.Goals as goal

pub loop-turn-init : goal.loop-turn-init
unfolding elements
loop-turn-init g c = first_of (search rules, grind (arith, common_steps))

pub returns-in_err-element : goal.returns-in_err-element
unfolding elements_from
returns-in_err-element g c =
    let e = turn_left (λ n. elements_from (parsed c.args.self.now.depth) c.args.self.now.depth c.args.self.now.takes_do c.args.start n c.loop-turn.found c.loop-turn.rest.now) _ c.loop-turn._turn c.loop-turn-test.true c.loop-turn.invariant in
    first_of (search rules, grind (arith, common_steps))

pub returns-in_err-closing : goal.returns-in_err-closing
unfolding elements_from
returns-in_err-closing g c =
    let e = turn_left (λ n. elements_from (parsed c.args.self.now.depth) c.args.self.now.depth c.args.self.now.takes_do c.args.start n c.loop-turn.found c.loop-turn.rest.now) _ c.loop-turn._turn c.loop-turn-test.true c.loop-turn.invariant in
    first_of (search rules, grind (arith, common_steps))

pub returns-in-Some : goal.returns-in-Some
unfolding elements_from
returns-in-Some g c =
    let e = turn_left (λ n. elements_from (parsed c.args.self.now.depth) c.args.self.now.depth c.args.self.now.takes_do c.args.start n c.loop-turn.found c.loop-turn.rest.now) _ c.loop-turn._turn c.loop-turn-test.true c.loop-turn.invariant in
    first_of (search rules, grind (arith, common_steps))

pub loop-turn-preserved : goal.loop-turn-preserved
unfolding elements_from
loop-turn-preserved g c =
    let e = turn_left (λ n. elements_from (parsed c.args.self.now.depth) c.args.self.now.depth c.args.self.now.takes_do c.args.start n c.loop-turn.found c.loop-turn.rest.now) _ c.loop-turn._turn c.loop-turn-test.true c.loop-turn.invariant in
    first_of (search rules, grind (arith, common_steps))

pub returns : goal.returns
unfolding elements_from
returns g c =
    let e = none_left (λ n. elements_from (parsed c.args.self.now.depth) c.args.self.now.depth c.args.self.now.takes_do c.args.start n c.loop-turn.found c.loop-turn.rest.now) _ c.loop-turn._turn c.loop-turn-test.false c.loop-turn.invariant in
    first_of (search rules, grind (arith, common_steps))
