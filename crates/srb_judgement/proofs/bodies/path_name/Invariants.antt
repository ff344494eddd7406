use Rattle.std.proofs.Common.{◌≡◌, drop, string_bytes}
use Rattle.srb_judgement.specs.Bodies.{joined_after}
use Rattle.srb_judgement.proofs.bodies.path_name.Given as goal

abbrev pub invariant-rest : goal.invariant-rest
invariant-rest l = joined_after (string_bytes l.text) (drop l.name-index l.rest) ≡ joined_after (string_bytes l.initial.text) l.rest
