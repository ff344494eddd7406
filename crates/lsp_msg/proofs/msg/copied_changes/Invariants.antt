use Rattle.std.proofs.Common.{◌≡◌, take}
use Rattle.lsp_msg.proofs.msg.copied_changes.Given as goal

-- the changes so far are copied
abbrev pub invariant-changes : goal.invariant-changes
invariant-changes l = l.copy ≡ take l.change-index l.changes
