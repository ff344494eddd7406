use Rattle.std.proofs.Common.{◌≡◌, map, take}
use Rattle.rb_outline.specs.Outlines.{constant_outline}
use Rattle.rb_outline.proofs.make.constants.Given as goal

abbrev pub invariant-loop-name : goal.invariant-loop-name
invariant-loop-name l = l.parts.items ≡ map constant_outline (take l.name-index l.path)
