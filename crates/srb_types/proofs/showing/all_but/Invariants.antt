use Rattle.std.proofs.Common.{◌≡◌, ◌++◌, drop}
use Rattle.srb_types.specs.Shown.{all_but}
use Rattle.srb_types.proofs.showing.all_but.Given as goal

abbrev pub invariant-texts : goal.invariant-texts
invariant-texts l = l.rest.items ++ all_but l.name (drop l.t-index l.texts) ≡ all_but l.name l.texts
