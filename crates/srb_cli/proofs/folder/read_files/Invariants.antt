use Rattle.std.proofs.Common.{◌≡◌, drop, map, string_bytes}
use Rattle.srb_cli.proofs.Folders.{IsReadTo}
use Rattle.srb_cli.proofs.folder.read_files.Given as goal

abbrev pub invariant-paths : goal.invariant-paths
invariant-paths g l = record {
  read : IsReadTo (g.F.Files.told l.initial.files l.dir) (map string_bytes l.paths) l.project (map string_bytes (drop l.path-index l.paths)) l.room;
  same_told : g.F.Files.told l.files ≡ g.F.Files.told l.initial.files;
  unfailed : g.F.Files.faults l.files ≡ g.F.Files.faults l.initial.files;
}
