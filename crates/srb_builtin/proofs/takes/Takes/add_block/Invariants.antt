use Rattle.std.proofs.Common.{◌≡◌, ◌+◌, ◌≤◌, length}
use denote.Text.{Utf8}
use denote.Shadow.{shadow}
use Rattle.srb_builtin.specs.Methods.{with_block}
use Rattle.srb_builtin.specs.Marks.{words, parts, blank}
use Rattle.srb_builtin.proofs.takes.Takes.add_block.Given as goal

abbrev pub invariant-parameters : goal.invariant-parameters
invariant-parameters l =
    shadow (Utf8 l.rest)
    × (l.index + length l.rest ≤ length l.fn.text)
    × (with_block l.index l.self (parts blank l.rest) ≡ with_block 0 l.fn.self (words l.fn.text))

abbrev pub decreases-parameters : goal.decreases-parameters
decreases-parameters l = length l.rest
