use Rattle.std.proofs.Common.{◌≡◌, take}
use Rattle.srb_judgement.specs.Kept.{seen_context}
use Rattle.srb_judgement.specs.States.{seeing}
use Rattle.srb_judgement.proofs.contexts.Context.see_all.Given as goal

abbrev pub invariant-names : goal.invariant-names
invariant-names l = seen_context l.self ≡ seeing (take l.name-index l.names) (seen_context l.fn.self)
