use Rattle.std.proofs.Common.{ℕ, ◌∙◌, arith}
use Rattle.srb_io.proofs.Moved.{Appends-further}
use Rattle.std.proofs.lemmas.List.{length-take, length-drop}
use Rattle.srb_io.proofs.whole.write_all.Goals as goal

pub loop-at-preserved : goal.loop-at-preserved
loop-at-preserved g c = record {
  within = omega (arith, c.in_ok-at.ensures.within, length-take {A = ℕ}, length-drop {A = ℕ});
  appended = Appends-further _ _ _ _ _ _ c.in_ok-at.ensures.within c.loop-at.invariant.appended c.in_ok-at.ensures.bytes;
  unfailed = c.in_ok-at.ensures.cause ∙ c.loop-at.invariant.unfailed;
}
