use Rattle.std.proofs.Common.{◌≡◌, drop}
use Rattle.lsp_msg.specs.Encodings.{chosen}
use Rattle.lsp_msg.proofs.encodings.chosen_encoding.Given as goal

-- none of the names so far is of an encoding
abbrev pub invariant-names : goal.invariant-names
invariant-names l = chosen l.names ≡ chosen (drop l.name-index l.names)
