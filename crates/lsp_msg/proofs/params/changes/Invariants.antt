use Rattle.std.proofs.Common.{◌≡◌, ◌++◌, drop, option_map}
use Rattle.serde_json.specs.View.{items_view}
use Rattle.lsp_msg.specs.Params.{changes_of}
use Rattle.lsp_msg.proofs.params.changes.Given as goal

-- the changes of all values are those so far and those of the values that are left
abbrev pub invariant-values : goal.invariant-values
invariant-values l =
    changes_of (items_view l.values.items)
    ≡ option_map (λ rest. l.changes ++ rest) (changes_of (items_view (drop l.value-index l.values.items)))
