use Rattle.std.proofs.Common.{◌≡◌, ◌++◌, drop, map}
use Rattle.srb_judgement.specs.Views.{seen_spelling}
use Rattle.srb_walk.specs.Written.{spelling_of}
use Rattle.srb_walk.proofs.names.spellings.Given as goal

abbrev pub invariant-row : goal.invariant-row
invariant-row g l = let the = g.L.Language.the l.language in
    map seen_spelling l.all ++ map (spelling_of the) (drop l.each-index l.row) ≡ map (spelling_of the) l.row
