use Rattle.std.proofs.Common.{refl, sym, ap, ◌∙◌, arith}
use Rattle.std.specs.Prelude.{is_some}
use Rattle.srb_terms.proofs.PathOrder.{entry_within}
use Rattle.lsp_docs.specs.Rows.{documents_of, present_of, with_kept}
use Rattle.lsp_docs.proofs.ApplyLemmas.{put_fits, put_fits_new, put_few}
use Rattle.lsp_docs.proofs.RowLemmas.{bytes_absent, kept-absent, kept-in_new, kept-in_none, kept-in_row}
use Rattle.lsp_docs.proofs.TextLemmas.{on_ok_map}
use Rattle.lsp_docs.proofs.rows.Rows.put.Goals as goal
use Rattle.lsp_docs.proofs.rows.Rows.put.Goals.{in-Some, in-None}

pub set-requires-clause-fits : goal.set-requires-clause-fits
set-requires-clause-fits c = λ r get.
    let found = c.in-Ok.ensures.found in
    put_fits c.args.path c.args.kept c.in-Some.doc c.args.self.now c.in-Ok.index found.0 r c.find.ensures.rows.ordered found.1 get c.in-Some.is c.requires

pub remove-requires : goal.remove-requires
remove-requires c = entry_within c.args.self.now c.in-Ok.index _ c.in-Ok.ensures.found.1

pub insert-requires-clause-room : goal.insert-requires-clause-room
insert-requires-clause-room c =
    put_few c.args.path c.args.kept c.in-Some-kept.doc c.args.self.now c.in-Err.index c.find.ensures.rows c.in-Err.ensures.absent c.in-Some-kept.is c.requires

pub insert-requires-clause-fits : goal.insert-requires-clause-fits
insert-requires-clause-fits c =
    put_fits_new c.args.path c.args.kept c.in-Some-kept.doc c.args.self.now c.in-Err.index c.in-Err.ensures.absent c.in-Some-kept.is c.requires

pub returns-after-kept-clause-kept : goal.returns-after-kept-clause-kept
returns-after-kept-clause-kept c = λ agreed.
    let rows = c.args.self.now in
    let docs = documents_of agreed rows in
    let found = c.in-Ok.ensures.found in
    let ordered = c.find.ensures.rows.ordered in
    elim c.match-kept.branch [
      | in-Some w ↦ ap (documents_of agreed) (w.self-is ∙ w.set.ensures)
          ∙ kept-in_row agreed c.args.path rows c.in-Ok.index found.0 w.in-Some.doc ordered found.1 ∙ ap (λ k. with_kept c.args.path k docs) (sym w.in-Some.is)
      | in-None w ↦ ap (documents_of agreed) (w.self-is ∙ w.remove.ensures)
          ∙ kept-in_none agreed c.args.path rows c.in-Ok.index found.0 ordered found.1 ∙ ap (λ k. with_kept c.args.path k docs) (sym w.in-None.is)
    ]

pub returns-in-Some-kept-clause-kept : goal.returns-in-Some-kept-clause-kept
returns-in-Some-kept-clause-kept c =
    let rows = c.args.self.now in
    on_ok_map c.insert.result _ _ (λ is agreed. ap (documents_of agreed) is
    ∙ kept-in_new agreed c.args.path rows c.in-Err.index c.in-Some-kept.doc c.in-Err.ensures.absent
    ∙ ap (λ k. with_kept c.args.path k (documents_of agreed rows)) (sym c.in-Some-kept.is)) c.insert.ensures.ok

pub returns-in-Some-kept-clause-known : goal.returns-in-Some-kept-clause-known
returns-in-Some-kept-clause-known c = λ some.
    let none = ap is_some (bytes_absent present_of c.args.path c.args.self.now c.in-Err.index c.in-Err.ensures.absent refl) in
    absurd (grind (arith, some, none))

pub returns-in-None-kept-clause-kept : goal.returns-in-None-kept-clause-kept
returns-in-None-kept-clause-kept c = λ agreed.
    let rows = c.args.self.now in
    kept-absent agreed c.args.path rows c.in-Err.index c.in-Err.ensures.absent
    ∙ ap (λ k. with_kept c.args.path k (documents_of agreed rows)) (sym c.in-None-kept.is)
