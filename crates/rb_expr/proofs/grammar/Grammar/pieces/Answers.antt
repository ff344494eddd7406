use Rattle.std.proofs.Common.{rules, arith}
use Rattle.std.proofs.lemmas.Grind.{common_steps}
use Rattle.rb_expr.specs.Operands.{pieces, pieces_from}
use Rattle.rb_expr.specs.Grammar.{parsed}
use Rattle.rb_expr.proofs.Turns.{none_left, turn_left}
use Rattle.rb_expr.proofs.grammar.Grammar.pieces.Goals as goal

pub loop-turn-init : goal.loop-turn-init
unfolding pieces
loop-turn-init g c = first_of (search rules, grind (arith, common_steps))

pub returns-then-not-sees : goal.returns-then-not-sees
unfolding pieces_from
returns-then-not-sees g c =
    let e = turn_left (λ n. pieces_from (parsed c.args.self.now.depth) c.args.self.now.depth c.args.self.now.takes_do c.args.place.start c.loop-turn.end n c.loop-turn.found c.loop-turn.rest.now) _ c.loop-turn._turn c.loop-turn-test.true c.loop-turn.invariant in
    first_of (search rules, grind (arith, common_steps))

pub returns-in_err-code : goal.returns-in_err-code
unfolding pieces_from
returns-in_err-code g c =
    let e = turn_left (λ n. pieces_from (parsed c.args.self.now.depth) c.args.self.now.depth c.args.self.now.takes_do c.args.place.start c.loop-turn.end n c.loop-turn.found c.loop-turn.rest.now) _ c.loop-turn._turn c.loop-turn-test.true c.loop-turn.invariant in
    first_of (search rules, grind (arith, common_steps))

pub returns-in_err-words : goal.returns-in_err-words
unfolding pieces_from
returns-in_err-words g c =
    let e = turn_left (λ n. pieces_from (parsed c.args.self.now.depth) c.args.self.now.depth c.args.self.now.takes_do c.args.place.start c.loop-turn.end n c.loop-turn.found c.loop-turn.rest.now) _ c.loop-turn._turn c.loop-turn-test.true c.loop-turn.invariant in
    first_of (search rules, grind (arith, common_steps))

pub loop-turn-preserved : goal.loop-turn-preserved
unfolding pieces_from
loop-turn-preserved g c =
    let e = turn_left (λ n. pieces_from (parsed c.args.self.now.depth) c.args.self.now.depth c.args.self.now.takes_do c.args.place.start c.loop-turn.end n c.loop-turn.found c.loop-turn.rest.now) _ c.loop-turn._turn c.loop-turn-test.true c.loop-turn.invariant in
    first_of (search rules, grind (arith, common_steps))

pub returns : goal.returns
unfolding pieces_from
returns g c =
    let e = none_left (λ n. pieces_from (parsed c.args.self.now.depth) c.args.self.now.depth c.args.self.now.takes_do c.args.place.start c.loop-turn.end n c.loop-turn.found c.loop-turn.rest.now) _ c.loop-turn._turn c.loop-turn-test.false c.loop-turn.invariant in
    first_of (search rules, grind (arith, common_steps))
