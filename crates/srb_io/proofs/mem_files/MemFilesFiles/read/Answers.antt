use Rattle.std.proofs.Common.{ap, sym, ◌∙◌, map, string_bytes}
use Rattle.std.specs.Option.{option_copied}
use Rattle.srb_io.specs.Files.{bytes_at}
use Rattle.srb_io.proofs.Listed.{fails_not}
use Rattle.srb_io.proofs.mem_files.MemFilesFiles.read.Goals as goal

pub returns-in-Ok-clause-fails : goal.returns-in-Ok-clause-fails
returns-in-Ok-clause-fails c =
    fails_not c.is_failing.result _ _ c.in-Some.bytes.now c.is_failing.ensures.answer c.if-is_failing.false
    (sym (ap (λ files. bytes_at c.args.path.now (map (λ file. (string_bytes file.0, file.1.items)) files)) (c.deref.ensures.value ∙ ap (λ v. v.items) c.is_failing.ensures.next.files))
    ∙ sym c.find.ensures ∙ ap option_copied c.in-Some.is)
    (λ same. cc)

pub returns-in-Err-clause-fails : goal.returns-in-Err-clause-fails
returns-in-Err-clause-fails c =
    fails_not c.is_failing.result _ _ c.in-Some.bytes.now c.is_failing.ensures.answer c.if-is_failing.false
    (sym (ap (λ files. bytes_at c.args.path.now (map (λ file. (string_bytes file.0, file.1.items)) files)) (c.deref.ensures.value ∙ ap (λ v. v.items) c.is_failing.ensures.next.files))
    ∙ sym c.find.ensures ∙ ap option_copied c.in-Some.is)
    (λ same. cc)
