use Rattle.std.proofs.Common.{◌≡◌, ◌-◌}
use Rattle.rb_decl.specs.Names.{path, path_from}
use Rattle.rb_decl.proofs.name.path.Given as goal

abbrev pub invariant-loop-turn : goal.invariant-loop-turn
invariant-loop-turn l = path l.fn.depth l.fn.long l.fn.tokens ≡ path_from l.fn.long (l.fn.depth - l._turn) l.found l.rest
