use Rattle.std.proofs.Common.{◌≡◌, ◌++◌, drop}
use Rattle.std.specs.List.{flat_map}
use Rattle.srb_walk.specs.Walking.{suffix_names}
use Rattle.srb_walk.proofs.names.declare_suffixes.Given as goal

abbrev pub invariant-row : goal.invariant-row
invariant-row g l = let the = g.L.Language.the l.language in
    l.names ++ flat_map (suffix_names the) (drop l.suffix-index l.row) ≡ l.fn.names ++ flat_map (suffix_names the) l.row
