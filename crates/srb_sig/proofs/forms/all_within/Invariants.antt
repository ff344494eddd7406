use Rattle.std.proofs.Common.{◌≡◌, drop}
use Rattle.std.specs.List.{list_all}
use Rattle.srb_sig.specs.Forms.{is_within}
use Rattle.srb_sig.proofs.forms.all_within.Given as goal

abbrev pub invariant-loop-suffix : goal.invariant-loop-suffix
invariant-loop-suffix l = list_all is_within (drop l.suffix-index l.suffixes) ≡ list_all is_within l.suffixes
