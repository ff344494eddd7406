use Rattle.std.proofs.Common.{◌<◌, length, sym, ap, ◌∙◌, arith}
use Rattle.std.specs.Prelude.{Some, slice_get}
use Rattle.srb_terms.proofs.PathOrder.{entry_read}
use Rattle.lsp_docs.specs.Documents.{Documents}
use Rattle.lsp_docs.specs.Projects.{paths_of}
use Rattle.lsp_docs.proofs.RowLemmas.{length-project_of, path_at}
use Rattle.lsp_docs.proofs.docs.Docs.path_at.Goals as goal

pub offset_bounds-entries-index : goal.offset_bounds-entries-index
offset_bounds-entries-index c =
    let count = length-project_of c.self.inside.rows c.entries.ensures.rows.present in
    let seen = ap (λ (d : Documents). length d.project) c.self.view_is in
    omega (arith, count, seen, c.requires, c.entries.ensures.count)

pub bounds-entries-index : goal.bounds-entries-index
bounds-entries-index c =
    let count = length-project_of c.self.inside.rows c.entries.ensures.rows.present in
    let seen = ap (λ (d : Documents). length d.project) c.self.view_is in
    let slice = ap length c.entries.ensures.entries in
    omega (arith, count, seen, slice, c.requires)

pub returns : goal.returns
returns c =
    let rows = c.self.inside.rows in
    let row = c.index-entries-index.result in
    let count = length-project_of rows c.entries.ensures.rows.present in
    let seen = ap (λ (d : Documents). length d.project) c.self.view_is in
    let slice = ap length c.entries.ensures.entries in
    let within : c.args.index < length c.entries.result.now = omega (arith, count, seen, slice, c.requires) in
    let get = entry_read c.entries.result.now c.args.index row within c.index-entries-index.is in
    ap (λ (d : Documents). slice_get (paths_of d.project) c.args.index) (sym c.self.view_is)
    ∙ path_at rows c.args.index row c.entries.ensures.rows.present (ap (λ rs. slice_get rs c.args.index) (sym c.entries.ensures.entries) ∙ get)
    ∙ ap Some (sym c.path.ensures)
