use Rattle.std.proofs.Common.{◌≡◌, ◌++◌, length}
use Rattle.std.specs.List.{flat_map}
use denote.Text.{Utf8}
use denote.Shadow.{shadow}
use Rattle.srb_builtin.specs.Marks.{parts, semicolon}
use Rattle.srb_builtin.specs.Methods.{methods_of_entry}
use Rattle.srb_builtin.proofs.methods.add_line.Given as goal

abbrev pub invariant-entries : goal.invariant-entries
invariant-entries l =
    shadow (Utf8 l.rest)
    × (l.facts ++ flat_map (methods_of_entry l.owner) (parts semicolon l.rest)
    ≡ l.fn.facts ++ flat_map (methods_of_entry l.fn.owner) (parts semicolon l.fn.line))

abbrev pub decreases-entries : goal.decreases-entries
decreases-entries l = length l.rest
