use Rattle.std.proofs.Common.{◌≡◌, [], map, take, drop}
use Rattle.srb_types.specs.Shown.{ordered_after, shown}
use Rattle.srb_types.proofs.showing.+shows.Given as goal

abbrev pub invariant-ordered-parts : goal.invariant-ordered-parts
invariant-ordered-parts l =
    ordered_after l.texts.items (map shown (drop l.part-index l.parts)) ≡ ordered_after [] (map shown l.parts)

abbrev pub invariant-each-members : goal.invariant-each-members
invariant-each-members l = l.texts.items ≡ map shown (take l.member-index l.members)
