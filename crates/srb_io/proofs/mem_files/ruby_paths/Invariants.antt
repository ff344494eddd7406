use Rattle.std.proofs.Common.{◌≡◌, ◌++◌, drop, map, string_bytes}
use Rattle.srb_io.specs.Files.{ruby_paths}
use Rattle.srb_io.proofs.mem_files.ruby_paths.Given as goal

abbrev pub invariant-files : goal.invariant-files
invariant-files l =
    map string_bytes l.paths.items ++ ruby_paths (map (λ file. (string_bytes file.0, file.1.items)) (drop l.file-index l.files))
    ≡ ruby_paths (map (λ file. (string_bytes file.0, file.1.items)) l.files)
