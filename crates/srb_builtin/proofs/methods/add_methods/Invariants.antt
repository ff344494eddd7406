use Rattle.std.proofs.Common.{◌≡◌, ◌++◌, map, length}
use denote.Text.{Utf8}
use denote.Shadow.{shadow}
use Rattle.srb_builtin.specs.Marks.{words, parts, blank}
use Rattle.srb_builtin.specs.Methods.{method}
use Rattle.srb_builtin.proofs.methods.add_methods.Given as goal

abbrev pub invariant-names : goal.invariant-names
invariant-names l =
    shadow (Utf8 l.rest)
    × (l.facts ++ map (method l.owner l.text) (parts blank l.rest)
    ≡ l.fn.facts ++ map (method l.fn.owner l.fn.text) (words l.fn.names))

abbrev pub decreases-names : goal.decreases-names
decreases-names l = length l.rest
