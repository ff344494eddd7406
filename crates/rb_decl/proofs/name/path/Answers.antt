use Rattle.std.proofs.Common.{rules, arith}
use Rattle.std.proofs.lemmas.Grind.{common_steps}
use Rattle.rb_decl.specs.Names.{path, path_from}
use Rattle.rb_decl.proofs.Turns.{turn, last_turn}
use Rattle.rb_decl.proofs.name.path.Goals as goal

pub loop-turn-init : goal.loop-turn-init
unfolding path
loop-turn-init c = first_of (search rules, grind (arith, common_steps))

pub returns-in_err-name : goal.returns-in_err-name
unfolding path_from
returns-in_err-name c =
    let e = turn (λ n. path_from c.args.long n c.loop-turn.found c.loop-turn.rest.now) _ c.loop-turn._turn c.loop-turn-test.true c.loop-turn.invariant in
    first_of (search rules, grind (arith, common_steps))

pub returns-then-not-goes_on : goal.returns-then-not-goes_on
unfolding path_from
returns-then-not-goes_on c =
    let e = turn (λ n. path_from c.args.long n c.loop-turn.found c.loop-turn.rest.now) _ c.loop-turn._turn c.loop-turn-test.true c.loop-turn.invariant in
    first_of (search rules, grind (arith, common_steps))

pub loop-turn-preserved : goal.loop-turn-preserved
unfolding path_from
loop-turn-preserved c =
    let e = turn (λ n. path_from c.args.long n c.loop-turn.found c.loop-turn.rest.now) _ c.loop-turn._turn c.loop-turn-test.true c.loop-turn.invariant in
    first_of (search rules, grind (arith, common_steps))

pub returns : goal.returns
unfolding path_from
returns c =
    let e = last_turn (λ n. path_from c.args.long n c.loop-turn.found c.loop-turn.rest.now) _ c.loop-turn._turn c.loop-turn-test.false c.loop-turn.invariant in
    first_of (search rules, grind (arith, common_steps))
