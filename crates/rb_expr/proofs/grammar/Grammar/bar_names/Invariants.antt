use Rattle.std.proofs.Common.{◌≡◌, ◌-◌}
use Rattle.rb_expr.specs.Grammar.{parsed}
use Rattle.rb_expr.specs.Calls.{bar_names, bar_names_from}
use Rattle.rb_expr.proofs.grammar.Grammar.bar_names.Given as goal

abbrev pub invariant-loop-turn : goal.invariant-loop-turn
invariant-loop-turn g l = bar_names (parsed l.self.depth) l.self.depth l.self.takes_do l.fn.tokens ≡ bar_names_from (parsed l.self.depth) l.self.depth l.self.takes_do (l._turn-end - l._turn) l.names.keys l.found l.rest
