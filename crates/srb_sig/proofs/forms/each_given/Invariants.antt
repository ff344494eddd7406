use Rattle.std.proofs.Common.{◌≡◌, drop}
use Rattle.std.specs.List.{list_all}
use Rattle.srb_sig.specs.Forms.{is_given}
use Rattle.srb_sig.proofs.forms.each_given.Given as goal

abbrev pub invariant-loop-argument : goal.invariant-loop-argument
invariant-loop-argument l = list_all is_given (drop l.argument-index l.arguments) ≡ list_all is_given l.arguments
