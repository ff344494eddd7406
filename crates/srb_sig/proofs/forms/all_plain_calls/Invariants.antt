use Rattle.std.proofs.Common.{◌≡◌, drop}
use Rattle.std.specs.List.{list_all}
use Rattle.srb_sig.specs.Forms.{is_plain_call}
use Rattle.srb_sig.proofs.forms.all_plain_calls.Given as goal

abbrev pub invariant-loop-suffix : goal.invariant-loop-suffix
invariant-loop-suffix l = list_all is_plain_call (drop l.suffix-index l.suffixes) ≡ list_all is_plain_call l.suffixes
