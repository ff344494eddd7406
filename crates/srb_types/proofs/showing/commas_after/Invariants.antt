use Rattle.std.proofs.Common.{◌≡◌, drop, string_bytes}
use Rattle.srb_types.specs.Shown.{commas_after}
use Rattle.srb_types.proofs.showing.commas_after.Given as goal

abbrev pub invariant-texts : goal.invariant-texts
invariant-texts l = commas_after (string_bytes l.text) (drop l.t-index l.texts) ≡ commas_after (string_bytes l.fn.so_far) l.texts
