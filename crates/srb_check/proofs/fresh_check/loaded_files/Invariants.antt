use Rattle.std.proofs.Common.{take}
use Rattle.srb_check.specs.Jobs.{AreLoaded}
use Rattle.srb_check.proofs.fresh_check.loaded_files.Given as goal

abbrev pub invariant-files : goal.invariant-files
invariant-files l = AreLoaded (take l.file-index l.files) l.loaded
