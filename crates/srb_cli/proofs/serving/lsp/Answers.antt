use Rattle.std.proofs.Common.{refl, inl, inr}
use Rattle.srb_cli.proofs.Folders.{project_in_order}
use Rattle.srb_cli.proofs.serving.lsp.Goals as goal

pub serve-requires-clause-ordered : goal.serve-requires-clause-ordered
serve-requires-clause-ordered g c = λ _ _. project_in_order c.in-Ok.project c.in-Ok.ensures.folder.ordered

pub returns-in-Ok : goal.returns-in-Ok
returns-in-Ok g c =
    inr (c.in-Ok.project, record { folder = c.in-Ok.ensures.folder; within = c.in-Ok.ensures.within; unfailed = c.in-Ok.ensures.unfailed }, c.serve.ensures.serves)

pub returns-in-Err : goal.returns-in-Err
returns-in-Err g c = inl ((record { unread = refl; unwritten = refl; reads = refl; writes = refl }, c.in-Err.ensures.unread), refl)
