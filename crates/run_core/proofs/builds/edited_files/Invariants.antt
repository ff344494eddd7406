use Rattle.std.proofs.Common.{take}
use Rattle.srb_check.specs.Jobs.{AreLoaded}
use Rattle.run_core.proofs.builds.edited_files.Given as goal

-- the files before this index are loaded
abbrev pub invariant-files : goal.invariant-files
invariant-files l = AreLoaded (take l.index l.docs.project) l.files
