use Rattle.std.proofs.Common.{◌≡◌, ◌-◌}
use Rattle.rb_expr.specs.Grammar.{parsed}
use Rattle.rb_expr.specs.Calls.{listed, listed_from}
use Rattle.rb_expr.proofs.grammar.Grammar.listed.Given as goal

abbrev pub invariant-loop-turn : goal.invariant-loop-turn
invariant-loop-turn g l = listed (parsed l.self.depth) l.self.depth l.self.takes_do l.closer l.fn.tokens ≡ listed_from (parsed l.self.depth) l.self.depth l.self.takes_do l.closer (l._turn-end - l._turn) l.keywords l.found l.rest
