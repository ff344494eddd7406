use Rattle.std.proofs.Common.{ap, ◌∙◌, map, string_bytes}
use Rattle.srb_io.specs.Files.{is_among, ruby_paths}
use Rattle.srb_io.proofs.Listed.{among_ruby_paths}
use Rattle.srb_io.proofs.mem_files.MemFilesFiles.list.Goals as goal

pub returns-clause-listed : goal.returns-clause-listed
returns-clause-listed c = λ path.
    c.in_ok-in_order.ensures.same path ∙ ap (is_among path) c.in_ok-paths.ensures
    ∙ ap (λ files. is_among path (ruby_paths (map (λ file. (string_bytes file.0, file.1.items)) files))) (c.deref.ensures.value ∙ ap (λ v. v.items) c.is_failing.ensures.next.files)
    ∙ among_ruby_paths path _
