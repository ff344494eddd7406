use Rattle.std.proofs.Common.{◌≡◌, drop, map, string_bytes}
use Rattle.srb_io.specs.Files.{bytes_at}
use Rattle.srb_io.proofs.mem_files.find.Given as goal

abbrev pub invariant-files : goal.invariant-files
invariant-files l =
    bytes_at l.path (map (λ file. (string_bytes file.0, file.1.items)) (drop l.file-index l.files))
    ≡ bytes_at l.path (map (λ file. (string_bytes file.0, file.1.items)) l.files)
