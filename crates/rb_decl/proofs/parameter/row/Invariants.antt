use Rattle.std.proofs.Common.{◌≡◌, ◌-◌}
use Rattle.rb_decl.specs.Parameters.{row, row_from}
use Rattle.rb_decl.proofs.parameter.row.Given as goal

abbrev pub invariant-loop-turn : goal.invariant-loop-turn
invariant-loop-turn l = row l.fn.depth l.fn.in_brackets l.fn.tokens ≡ row_from l.fn.depth l.fn.in_brackets (l.fn.depth - l._turn) l.stage l.names.keys l.found l.rest
