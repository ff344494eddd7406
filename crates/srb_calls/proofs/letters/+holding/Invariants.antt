use Rattle.std.proofs.Common.{◌≡◌, Bool, map, drop}
use Rattle.std.specs.List.{list_any}
use Rattle.srb_calls.specs.Letters.{has_letter}
use Rattle.srb_calls.proofs.letters.+holding.Given as goal

abbrev pub invariant-one_has_letter-parts : goal.invariant-one_has_letter-parts
invariant-one_has_letter-parts l =
    list_any (λ (b : Bool). b) (map has_letter (drop l.part-index l.parts)) ≡ list_any (λ (b : Bool). b) (map has_letter l.parts)
