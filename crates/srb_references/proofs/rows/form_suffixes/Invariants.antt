use Rattle.std.proofs.Common.{◌≡◌, ◌++◌, take}
use Rattle.std.specs.List.{flat_map}
use Rattle.srb_references.specs.Readings.{form_suffix_parts}
use Rattle.srb_references.proofs.rows.form_suffixes.Given as goal

abbrev pub invariant-suffixes : goal.invariant-suffixes
invariant-suffixes l = l.list ≡ l.fn.list ++ flat_map (form_suffix_parts l.scope l.taken) (take l.each-index l.suffixes)
