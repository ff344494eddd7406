use Rattle.std.proofs.Common.{◌≡◌}
use Rattle.srb_language.specs.Asked as spec
use Rattle.srb_language.specs.Knowledge.{knowledge_at}
use Rattle.srb_language.proofs.names.first_ivar.Given as goal

abbrev pub invariant-at : goal.invariant-at
invariant-at l =
    spec.first_ivar (knowledge_at l.w) l.meta l.name l.at ≡ spec.first_ivar (knowledge_at l.fn.w) l.fn.meta l.fn.name l.fn.names
