use Rattle.std.proofs.Common.{◌≡◌, ◌+◌, ◌≤◌, length}
use denote.Text.{Utf8}
use denote.Shadow.{shadow}
use Rattle.srb_builtin.specs.Methods.{with_places}
use Rattle.srb_builtin.specs.Marks.{words, parts, blank}
use Rattle.srb_builtin.proofs.takes.Takes.add_places.Given as goal

abbrev pub invariant-places : goal.invariant-places
invariant-places l =
    shadow (Utf8 l.rest)
    × (l.index + length l.rest ≤ length l.fn.text)
    × (with_places l.index l.self (parts blank l.rest) ≡ with_places 0 l.fn.self (words l.fn.text))

abbrev pub decreases-places : goal.decreases-places
decreases-places l = length l.rest
