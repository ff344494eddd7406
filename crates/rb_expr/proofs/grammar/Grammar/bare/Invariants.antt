use Rattle.std.proofs.Common.{◌≡◌, ◌-◌}
use Rattle.rb_expr.specs.Grammar.{parsed}
use Rattle.rb_expr.specs.Calls.{bare, bare_from}
use Rattle.rb_expr.proofs.grammar.Grammar.bare.Given as goal

abbrev pub invariant-loop-turn : goal.invariant-loop-turn
invariant-loop-turn g l = bare (parsed l.self.depth) l.self.depth l.self.takes_do l.fn.tokens ≡ bare_from (parsed l.self.depth) l.self.depth l.self.takes_do (l._turn-end - l._turn) l.keywords l.found l.rest
