use Rattle.std.proofs.Common.{◌≡◌, ◌-◌}
use Rattle.rb_expr.specs.Grammar.{parsed}
use Rattle.rb_expr.specs.Branches.{when_arms, when_arms_from}
use Rattle.rb_expr.proofs.grammar.Grammar.when_arms.Given as goal

abbrev pub invariant-loop-turn : goal.invariant-loop-turn
invariant-loop-turn g l = when_arms (parsed l.self.depth) l.self.depth l.self.takes_do l.fn.tokens ≡ when_arms_from (parsed l.self.depth) l.self.depth l.self.takes_do (l._turn-end - l._turn) l.found l.rest
