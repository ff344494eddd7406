use Rattle.std.proofs.Common.{◌≡◌, ◌-◌}
use Rattle.rb_expr.specs.Grammar.{parsed}
use Rattle.rb_expr.specs.Operands.{pieces, pieces_from}
use Rattle.rb_expr.proofs.grammar.Grammar.pieces.Given as goal

abbrev pub invariant-loop-turn : goal.invariant-loop-turn
invariant-loop-turn g l = pieces (parsed l.self.depth) l.self.depth l.self.takes_do l.fn.first l.fn.place l.fn.tokens ≡ pieces_from (parsed l.self.depth) l.self.depth l.self.takes_do l.place.start l.end (l._turn-end - l._turn) l.found l.rest
