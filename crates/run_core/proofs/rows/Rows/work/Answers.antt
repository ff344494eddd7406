use Rattle.std.proofs.Common.{ap, ◌∙◌, arith}
use Rattle.std.specs.List.{slice_get}
use Rattle.srb_terms.specs.PathMaps.{PathList}
use Rattle.run_core.specs.Rows.{after_worked, first_marked, has_mark, worked_row}
use Rattle.run_core.specs.declared.mark.Mark.TheVariants.{Todo, Owed}
use Rattle.run_core.proofs.RowIndexes.{first_marked-set}
use Rattle.run_core.proofs.RowMarks.{changed_at}
use Rattle.run_core.proofs.rows.Rows.work.Goals as goal

pub next_marked-self-inside-requires : goal.next_marked-self-inside-requires
next_marked-self-inside-requires c =
    let more = first_marked-set Todo c.self.inside.map.entries c.args.index c.note_work.new.row (ap (has_mark Todo) c.note_work.ensures) in
    let left = ap (first_marked Todo) c.entries.ensures.entries in
    omega (arith, more, left, c.self.invariant.todo)

pub next_marked-self-inside-requires-2 : goal.next_marked-self-inside-requires-2
next_marked-self-inside-requires-2 c =
    let more = first_marked-set Owed c.self.inside.map.entries c.args.index c.note_work.new.row (ap (has_mark Owed) c.note_work.ensures) in
    let left = ap (first_marked Owed) c.entries-2.ensures.entries in
    omega (arith, more, left, c.self.invariant.owed)

pub returns-clause-entries : goal.returns-clause-entries
returns-clause-entries c = λ row found.
    changed_at c.self.inside.map.entries c.args.index row c.value_mut.result.now c.note_work.new.row (worked_row c.args.list) c.self.invariant.ordered
    (ap (λ (v : PathList _). slice_get v.entries c.args.index) c.self.view_is ∙ found) c.value_mut.ensures.value c.note_work.ensures
    ∙ ap (λ (v : PathList _). after_worked row.0 c.args.list v.entries) c.self.view_is
