use Rattle.std.proofs.Common.{◌≡◌, ◌-◌, ◌≤◌, ◌++◌, length, take, drop}
use Rattle.std.specs.Str.{IsCharBoundary}
use Rattle.lsp_docs.specs.Uris.{trimmed, without_slashes}
use Rattle.lsp_docs.proofs.uris.trimmed.Given as goal

-- what is kept and what stands up to the end without its slashes is the URI trimmed
abbrev pub invariant-loop-end : goal.invariant-loop-end
invariant-loop-end l =
    (trimmed l.bytes ≡ take l.kept l.bytes ++ without_slashes (drop l.kept (take l.end l.bytes)))
    × (l.kept ≤ l.end) × (l.end ≤ length l.bytes) × IsCharBoundary l.bytes l.end

abbrev pub decreases-loop-end : goal.decreases-loop-end
decreases-loop-end l = l.end - l.kept
