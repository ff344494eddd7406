use Rattle.std.proofs.Common.{◌≡◌, ◌+◌, ◌-◌, ◌++◌, take, map}
use Rattle.srb_text.proofs.table.push_moved.Given as goal

abbrev pub invariant-loop-s : goal.invariant-loop-s
invariant-loop-s l =
    l.starts.items ≡ l.fn.starts.items ++ map (λ s. (s - l.from) + l.to) (take l.s-index l.moved)
