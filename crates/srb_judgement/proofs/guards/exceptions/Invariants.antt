use Rattle.std.proofs.Common.{◌≡◌, drop, map}
use Rattle.srb_judgement.specs.Guards.{exceptions_in}
use Rattle.srb_judgement.specs.Views.{seen_spelling}
use Rattle.srb_judgement.proofs.guards.exceptions.Given as goal

abbrev pub invariant-patterns : goal.invariant-patterns
invariant-patterns g l =
    exceptions_in (g.L.Language.the l.language) l.scope l.all (map seen_spelling (drop l.pattern-index l.patterns))
    ≡ exceptions_in (g.L.Language.the l.language) l.scope l.fn.so_far (map seen_spelling l.patterns)
