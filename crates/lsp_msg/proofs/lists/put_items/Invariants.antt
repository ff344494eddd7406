use Rattle.std.proofs.Common.{All, take}
use Rattle.lsp_msg.specs.Tokens.{tokens_of_items, IsReadBack, Adds}
use Rattle.lsp_msg.specs.Written.{item_object}
use Rattle.lsp_msg.proofs.lists.put_items.Given as goal

-- the items so far are written, and are read back
abbrev pub invariant-items : goal.invariant-items
invariant-items l =
    Adds l.initial.to l.to (tokens_of_items (take l.item-index l.items))
    × All (λ placed. IsReadBack (item_object placed)) (take l.item-index l.items)
