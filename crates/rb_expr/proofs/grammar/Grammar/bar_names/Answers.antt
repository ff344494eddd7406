use Rattle.std.proofs.Common.{rules, arith}
use Rattle.std.proofs.lemmas.Grind.{common_steps}
use Rattle.rb_expr.specs.Calls.{bar_names, bar_names_from}
use Rattle.rb_expr.specs.Grammar.{parsed}
use Rattle.rb_expr.proofs.Turns.{none_left, turn_left}
use Rattle.rb_expr.proofs.grammar.Grammar.bar_names.Goals as goal

pub loop-turn-init : goal.loop-turn-init
unfolding bar_names
loop-turn-init g c = first_of (search rules, grind (arith, common_steps))

pub returns-in_err-next : goal.returns-in_err-next
unfolding bar_names_from
returns-in_err-next g c =
    let e = turn_left (λ n. bar_names_from (parsed c.args.self.now.depth) c.args.self.now.depth c.args.self.now.takes_do n c.loop-turn.names.keys c.loop-turn.found c.loop-turn.rest.now) _ c.loop-turn._turn c.loop-turn-test.true c.loop-turn.invariant in
    first_of (search rules, grind (arith, common_steps))

pub returns-in_err-left : goal.returns-in_err-left
unfolding bar_names_from
returns-in_err-left g c =
    let e = turn_left (λ n. bar_names_from (parsed c.args.self.now.depth) c.args.self.now.depth c.args.self.now.takes_do n c.loop-turn.names.keys c.loop-turn.found c.loop-turn.rest.now) _ c.loop-turn._turn c.loop-turn-test.true c.loop-turn.invariant in
    first_of (search rules, grind (arith, common_steps))

pub returns-then-not-sees : goal.returns-then-not-sees
unfolding bar_names_from
returns-then-not-sees g c =
    let e = turn_left (λ n. bar_names_from (parsed c.args.self.now.depth) c.args.self.now.depth c.args.self.now.takes_do n c.loop-turn.names.keys c.loop-turn.found c.loop-turn.rest.now) _ c.loop-turn._turn c.loop-turn-test.true c.loop-turn.invariant in
    first_of (search rules, grind (arith, common_steps))

pub loop-turn-preserved : goal.loop-turn-preserved
unfolding bar_names_from
loop-turn-preserved g c =
    let e = turn_left (λ n. bar_names_from (parsed c.args.self.now.depth) c.args.self.now.depth c.args.self.now.takes_do n c.loop-turn.names.keys c.loop-turn.found c.loop-turn.rest.now) _ c.loop-turn._turn c.loop-turn-test.true c.loop-turn.invariant in
    first_of (search rules, grind (arith, common_steps))

pub returns : goal.returns
unfolding bar_names_from
returns g c =
    let e = none_left (λ n. bar_names_from (parsed c.args.self.now.depth) c.args.self.now.depth c.args.self.now.takes_do n c.loop-turn.names.keys c.loop-turn.found c.loop-turn.rest.now) _ c.loop-turn._turn c.loop-turn-test.false c.loop-turn.invariant in
    first_of (search rules, grind (arith, common_steps))
