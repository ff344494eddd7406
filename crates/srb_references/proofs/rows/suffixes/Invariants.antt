use Rattle.std.proofs.Common.{◌≡◌, ◌++◌, drop}
use Rattle.srb_references.specs.Readings.{suffixes_parts}
use Rattle.srb_references.proofs.rows.suffixes.Given as goal

abbrev pub invariant-suffixes : goal.invariant-suffixes
invariant-suffixes l =
    l.list ++ suffixes_parts l.scope l.reading l.first (drop l.each-index l.suffixes) ≡ l.fn.list ++ suffixes_parts l.scope l.reading l.on_t l.suffixes
