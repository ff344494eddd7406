use Rattle.std.proofs.Common.{◌<◌, ap, ◌∙◌, length, sym, subst, arith}
use Rattle.std.specs.Prelude.{Some, slice_get}
use Rattle.std.specs.Option.{option_map}
use Rattle.srb_terms.proofs.PathOrder.{entry_read}
use Rattle.lsp_docs.specs.Rows.{Row, present_of, size_of}
use Rattle.lsp_docs.proofs.RowsHold.{size_within}
use Rattle.lsp_docs.proofs.rows.Rows.doc.Goals as goal

pub returns-clause-doc : goal.returns-clause-doc
returns-clause-doc c =
    let same = c.entries.ensures.entries ∙ c.self.view_is in
    let within = subst (λ rs. c.args.index < length rs) (sym same) c.requires in
    ap (λ rs. option_map (λ (r : Row). r.1) (slice_get rs c.args.index)) (sym same)
    ∙ ap (option_map (λ (r : Row). r.1)) (entry_read c.entries.result.now c.args.index c.index-entries-index.result within c.index-entries-index.is)
    ∙ ap Some (sym c.value.ensures)

pub returns-clause-small : goal.returns-clause-small
returns-clause-small c =
    let within = subst (λ rs. c.args.index < length rs) (sym (c.entries.ensures.entries ∙ c.self.view_is)) c.requires in
    let here = entry_read c.entries.result.now c.args.index c.index-entries-index.result within c.index-entries-index.is in
    let size = size_within c.self.inside.map.entries c.args.index c.index-entries-index.result (ap (λ rs. slice_get rs c.args.index) (sym c.entries.ensures.entries) ∙ here) in
    let same = ap (λ d. size_of (present_of d)) c.value.ensures in
    omega (arith, size, same, c.self.invariant.2, c.self.invariant.3)
