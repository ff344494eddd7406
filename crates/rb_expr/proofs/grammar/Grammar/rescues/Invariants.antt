use Rattle.std.proofs.Common.{◌≡◌, ◌-◌}
use Rattle.rb_expr.specs.Grammar.{parsed}
use Rattle.rb_expr.specs.Branches.{rescues, rescues_from}
use Rattle.rb_expr.proofs.grammar.Grammar.rescues.Given as goal

abbrev pub invariant-loop-turn : goal.invariant-loop-turn
invariant-loop-turn g l = rescues (parsed l.self.depth) l.self.depth l.self.takes_do l.fn.tokens ≡ rescues_from (parsed l.self.depth) l.self.depth l.self.takes_do (l._turn-end - l._turn) l.found l.rest
