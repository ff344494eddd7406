use Rattle.std.proofs.Common.{arith, sym, ap, ◌∙◌, if◌then◌else◌}
use Rattle.std.specs.List.{swap}
use Rattle.run_watch.proofs.Told.{sifts_none, sifts_all, sifts_on, taken}
use Rattle.run_watch.proofs.watchers.tell_each.Goals as goal

pub boxes-init : goal.boxes-init
boxes-init g c = sifts_none _ _ _ _

pub settle-kept-requires-clause-after : goal.settle-kept-requires-clause-after
settle-kept-requires-clause-after g c = c.boxes.invariant.after

pub boxes-preserved : goal.boxes-preserved
boxes-preserved g c =
    sifts_on _ _ _ _ _ _ _ c.boxes.invariant c.index_mut.result.now c.stays-stays.new.watcher
    (omega (arith, c.boxes-test.true, c.len-at-end.ensures, c.boxes.invariant.long)) c.index_mut.ensures.value c.stays-stays.ensures.told _ _ _ c.stays-stays.ensures.keep
    (taken c.settle-kept.new.boxes _ _ (sym (c.settle-kept.ensures.len ∙ c.as_mut_slice.ensures.len))
    ∙ c.settle-kept.ensures.boxes
    ∙ ap (λ l. if c.stays-stays.result then swap l c.boxes.kept c.boxes.at else l) c.as_mut_slice.ensures.value)
    c.settle-kept.ensures.kept

pub returns : goal.returns
returns g c = sifts_all _ _ _ _ _ _ _ c.boxes.invariant (omega (arith, c.boxes-test.false, c.len-at-end.ensures)) _ c.truncate.ensures.items
