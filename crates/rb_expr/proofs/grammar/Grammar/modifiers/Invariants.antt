use Rattle.std.proofs.Common.{◌≡◌, ◌-◌}
use Rattle.rb_expr.specs.Grammar.{parsed}
use Rattle.rb_expr.specs.Statements.{modifiers, modifiers_from}
use Rattle.rb_expr.proofs.grammar.Grammar.modifiers.Given as goal

abbrev pub invariant-loop-turn : goal.invariant-loop-turn
invariant-loop-turn g l = modifiers (parsed l.self.depth) l.self.depth l.self.takes_do l.fn.inner l.fn.tokens ≡ modifiers_from (parsed l.self.depth) l.self.depth l.self.takes_do (l._turn-end - l._turn) l.longest l.rest
