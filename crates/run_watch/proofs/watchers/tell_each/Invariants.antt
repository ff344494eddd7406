use Rattle.run_watch.proofs.Told.{Sifts}
use Rattle.run_watch.proofs.watchers.tell_each.Given as goal

-- the boxes before this one were told, and those of them that stay stand in front
abbrev pub invariant-boxes : goal.invariant-boxes
invariant-boxes g l =
    Sifts (λ b. (goal.Watcher-dyn g (b.vtable, b.value)).seen b.value) (λ b. (goal.Watcher-dyn g (b.vtable, b.value)).leaves b.value) l.s l.fn.boxes.items l.boxes.items l.kept l.at
