use Rattle.std.proofs.Common.{◌≡◌, ◌++◌, drop}
use Rattle.serde_json.specs.View.{items_view}
use Rattle.lsp_msg.specs.Params.{texts_among}
use Rattle.lsp_msg.proofs.params.texts.Given as goal

-- the texts among all values are those so far and those among the values that are left
abbrev pub invariant-values : goal.invariant-values
invariant-values l =
    texts_among (items_view l.values.items) ≡ l.texts ++ texts_among (items_view (drop l.value-index l.values.items))
