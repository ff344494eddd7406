use Rattle.std.proofs.Common.{◌≡◌, drop}
use Rattle.rb_lex.specs.Lexed.{is_inside}
use Rattle.rb_lex.proofs.state.State.is_inside.Given as goal

abbrev pub invariant-loop-frame : goal.invariant-loop-frame
invariant-loop-frame l = is_inside (drop l.frame-index l.self.nesting) ≡ is_inside l.self.nesting
