use Rattle.std.proofs.Common.{◌∙◌, sym, ap, subst, length, arith}
use Rattle.srb_terms.specs.Projects.{put_file, IsProject}
use Rattle.lsp_docs.specs.Projects.{total_bytes}
use Rattle.srb_gen.specs.Texts.{file_path, first_text}
use Rattle.srb_gen.proofs.Projects.{one_more_file, ordered_generated, length_generated, total_generated}
use Rattle.srb_gen.proofs.files.project.Goals as goal

pub files-preserved : goal.files-preserved
files-preserved c =
    c.in_ok-add_file.ensures ∙ ap (put_file (file_path c.files.number) (first_text c.files.number)) c.files.invariant
    ∙ one_more_file c.files.number (omega arith)

pub returns-clause-ordered : goal.returns-clause-ordered
returns-clause-ordered c = subst IsProject (sym c.files.invariant) (ordered_generated c.files.number (omega arith))

pub returns-clause-files : goal.returns-clause-files
returns-clause-files c =
    let size = ap length c.files.invariant ∙ length_generated c.files.number in
    omega (arith, size)

pub returns-clause-bytes : goal.returns-clause-bytes
returns-clause-bytes c =
    let size = ap total_bytes c.files.invariant in
    omega (arith, size, total_generated c.files.number)
