use Rattle.std.proofs.Common.{◌≡◌, map, take}
use Rattle.srb_judgement.specs.Views.{seen_named}
use Rattle.srb_language.specs.Asked.{key_of}
use Rattle.srb_language.proofs.calls.keys.Given as goal

abbrev pub invariant-named : goal.invariant-named
invariant-named l = l.keys.items ≡ map key_of (map seen_named (take l.argument-index l.named))
