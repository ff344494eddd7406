use Rattle.std.proofs.Common.{◌≡◌, ◌-◌}
use Rattle.rb_expr.specs.Grammar.{parsed}
use Rattle.rb_expr.specs.Branches.{elsif_arms, elsif_arms_from}
use Rattle.rb_expr.proofs.grammar.Grammar.elsif_arms.Given as goal

abbrev pub invariant-loop-turn : goal.invariant-loop-turn
invariant-loop-turn g l = elsif_arms (parsed l.self.depth) l.self.depth l.self.takes_do l.fn.tokens ≡ elsif_arms_from (parsed l.self.depth) l.self.depth l.self.takes_do (l._turn-end - l._turn) l.found l.rest
