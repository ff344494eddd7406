use Rattle.std.proofs.Common.{◌≡◌, map, take}
use Rattle.srb_judgement.specs.Views.{seen_given}
use Rattle.srb_language.specs.Asked.{arg_of}
use Rattle.srb_language.proofs.calls.positional.Given as goal

abbrev pub invariant-given : goal.invariant-given
invariant-given l = l.positional.items ≡ map arg_of (map seen_given (take l.argument-index l.given))
