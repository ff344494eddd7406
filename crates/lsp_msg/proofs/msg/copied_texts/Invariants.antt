use Rattle.std.proofs.Common.{◌≡◌, take}
use Rattle.lsp_msg.proofs.msg.copied_texts.Given as goal

-- the texts so far are copied
abbrev pub invariant-texts : goal.invariant-texts
invariant-texts l = l.copy ≡ take l.text-index l.texts
