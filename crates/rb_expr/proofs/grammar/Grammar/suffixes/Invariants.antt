use Rattle.std.proofs.Common.{◌≡◌, ◌-◌}
use Rattle.rb_expr.specs.Grammar.{parsed}
use Rattle.rb_expr.specs.Operands.{suffixes, suffixes_from}
use Rattle.rb_expr.proofs.grammar.Grammar.suffixes.Given as goal

abbrev pub invariant-loop-turn : goal.invariant-loop-turn
invariant-loop-turn g l = suffixes (parsed l.self.depth) l.self.depth l.self.takes_do l.all l.fn.receiver l.fn.tokens ≡ suffixes_from (parsed l.self.depth) l.self.depth l.self.takes_do l.all l.receiver l.end (l._turn-end - l._turn) l.found l.rest
