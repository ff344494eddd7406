use Rattle.std.proofs.Common.{rules, arith}
use Rattle.std.proofs.lemmas.Grind.{common_steps}
use Rattle.rb_expr.specs.Operands.{suffixes, suffixes_from}
use Rattle.rb_expr.specs.Grammar.{parsed}
use Rattle.rb_expr.proofs.Turns.{none_left, turn_left}
use Rattle.rb_expr.proofs.grammar.Grammar.suffixes.Goals as goal

pub loop-turn-init : goal.loop-turn-init
unfolding suffixes
loop-turn-init g c = first_of (search rules, grind (arith, common_steps))

pub returns-in_err-next : goal.returns-in_err-next
unfolding suffixes_from
returns-in_err-next g c =
    let e = turn_left (λ n. suffixes_from (parsed c.args.self.now.depth) c.args.self.now.depth c.args.self.now.takes_do c.args.all.now c.args.receiver c.loop-turn.end n c.loop-turn.found c.loop-turn.rest.now) _ c.loop-turn._turn c.loop-turn-test.true c.loop-turn.invariant in
    first_of (search rules, grind (arith, common_steps))

pub returns-in_default : goal.returns-in_default
unfolding suffixes_from
returns-in_default g c =
    let e = turn_left (λ n. suffixes_from (parsed c.args.self.now.depth) c.args.self.now.depth c.args.self.now.takes_do c.args.all.now c.args.receiver c.loop-turn.end n c.loop-turn.found c.loop-turn.rest.now) _ c.loop-turn._turn c.loop-turn-test.true c.loop-turn.invariant in
    first_of (search rules, grind (arith, common_steps))

pub loop-turn-preserved : goal.loop-turn-preserved
unfolding suffixes_from
loop-turn-preserved g c =
    let e = turn_left (λ n. suffixes_from (parsed c.args.self.now.depth) c.args.self.now.depth c.args.self.now.takes_do c.args.all.now c.args.receiver c.loop-turn.end n c.loop-turn.found c.loop-turn.rest.now) _ c.loop-turn._turn c.loop-turn-test.true c.loop-turn.invariant in
    first_of (search rules, grind (arith, common_steps))

pub returns : goal.returns
unfolding suffixes_from
returns g c =
    let e = none_left (λ n. suffixes_from (parsed c.args.self.now.depth) c.args.self.now.depth c.args.self.now.takes_do c.args.all.now c.args.receiver c.loop-turn.end n c.loop-turn.found c.loop-turn.rest.now) _ c.loop-turn._turn c.loop-turn-test.false c.loop-turn.invariant in
    first_of (search rules, grind (arith, common_steps))
