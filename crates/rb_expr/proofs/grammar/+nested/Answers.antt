use Rattle.std.proofs.Common.{rules, arith}
use Rattle.std.proofs.lemmas.Grind.{common_steps}
use Rattle.rb_expr.specs.Grammar.{parsed}
use Rattle.rb_expr.proofs.Turns.{deeper}
use Rattle.rb_expr.proofs.grammar.+nested.Goals as goal

pub returns-then-depth-eq0 : goal.returns-then-depth-eq0
unfolding parsed
returns-then-depth-eq0 t c = first_of (search rules, grind (arith, common_steps))

pub returns : goal.returns
unfolding parsed
returns t c =
    let e = deeper (λ n. parsed n c.args.form c.args.takes_do c.args.tokens.now) c.args.depth (omega arith) in
    first_of (search rules, grind (arith, common_steps))
