use Rattle.std.proofs.Common.{◌≡◌, List, OnOk, ap, sym, subst, ◌∙◌}
use Rattle.srb_shapes.specs.Lineages.{lineage_at}
use Rattle.srb_terms.specs.declared.ty.Ty.{Ty}
use Rattle.srb_types.specs.Normal.{meets_each, meets_of}
use Rattle.srb_types.proofs.Meeting.{meets-untyped, meets-never, meets-class, meets-meta, meets-arr, meets-hsh, meets-any, meets-all}
use Rattle.srb_types.proofs.meets.+meets.Goals as goal

pub add_meets-returns-in-Never : goal.add_meets-returns-in-Never
add_meets-returns-in-Never t c =
    sym (meets-never (lineage_at c.args.w.now) c.args.a.now c.args.others.now c.args.found.now.items c.in-Never.is)

pub add_meets-returns-in-Untyped : goal.add_meets-returns-in-Untyped
add_meets-returns-in-Untyped t c = subst (λ (ts : List Ty). OnOk c.add_row.result (c.add_row.new.found.items ≡ ts))
    (sym (meets-untyped (lineage_at c.args.w.now) c.args.a.now c.args.others.now c.args.found.now.items c.in-Untyped.is)) c.add_row.ensures

pub add_meets-returns-in-Class : goal.add_meets-returns-in-Class
add_meets-returns-in-Class t c = subst (λ (ts : List Ty). OnOk c.add_row-in-Class.result (c.add_row-in-Class.new.found.items ≡ ts))
    (sym (meets-class (lineage_at c.args.w.now) c.args.a.now c.args.others.now c.args.found.now.items _ c.in-Class.is)) c.add_row-in-Class.ensures

pub add_meets-returns-in-Meta : goal.add_meets-returns-in-Meta
add_meets-returns-in-Meta t c = subst (λ (ts : List Ty). OnOk c.add_row-in-Meta.result (c.add_row-in-Meta.new.found.items ≡ ts))
    (sym (meets-meta (lineage_at c.args.w.now) c.args.a.now c.args.others.now c.args.found.now.items _ c.in-Meta.is)) c.add_row-in-Meta.ensures

pub add_meets-returns-in-Arr : goal.add_meets-returns-in-Arr
add_meets-returns-in-Arr t c = subst (λ (ts : List Ty). OnOk c.add_row-in-Arr.result (c.add_row-in-Arr.new.found.items ≡ ts))
    (sym (meets-arr (lineage_at c.args.w.now) c.args.a.now c.args.others.now c.args.found.now.items _ c.in-Arr.is)) c.add_row-in-Arr.ensures

pub add_meets-returns-in-Hsh : goal.add_meets-returns-in-Hsh
add_meets-returns-in-Hsh t c = subst (λ (ts : List Ty). OnOk c.add_row-in-Hsh.result (c.add_row-in-Hsh.new.found.items ≡ ts))
    (sym (meets-hsh (lineage_at c.args.w.now) c.args.a.now c.args.others.now c.args.found.now.items _ _ c.in-Hsh.is)) c.add_row-in-Hsh.ensures

pub add_meets-returns-in-All : goal.add_meets-returns-in-All
add_meets-returns-in-All t c = subst (λ (ts : List Ty). OnOk c.add_row-in-All.result (c.add_row-in-All.new.found.items ≡ ts))
    (sym (meets-all (lineage_at c.args.w.now) c.args.a.now c.args.others.now c.args.found.now.items _ c.in-All.is)) c.add_row-in-All.ensures

pub add_meets-returns-in-Any : goal.add_meets-returns-in-Any
add_meets-returns-in-Any t c = subst (λ (ts : List Ty). OnOk c.add_each.result (c.add_each.new.found.items ≡ ts))
    (ap (λ ps. meets_each (meets_of (lineage_at c.args.w.now)) ps c.args.others.now c.args.found.now.items) (c.as_slice.ensures ∙ c.get.ensures)
    ∙ sym (meets-any (lineage_at c.args.w.now) c.args.a.now c.args.others.now c.args.found.now.items _ c.in-Any.is)) c.add_each.ensures
