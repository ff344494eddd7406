use Rattle.std.proofs.Common.{◌≡◌, ◌-◌}
use Rattle.rb_expr.specs.Grammar.{parsed}
use Rattle.rb_expr.specs.Statements.{body_from, statements}
use Rattle.rb_expr.proofs.grammar.Grammar.statements.Given as goal

abbrev pub invariant-loop-turn : goal.invariant-loop-turn
invariant-loop-turn g l = statements (parsed l.self.depth) l.self.depth l.self.takes_do l.constants l.fn.tokens ≡ body_from (parsed l.self.depth) l.self.depth l.self.takes_do l.constants l.start l.end (l._turn-end - l._turn) l.found l.rest
