-- The tokens that are written for a list of errors, and what is read back from them.
use Rattle.std.specs.Prelude.{◌≡◌, ◌++◌, List, Some, flat_map}
use Rattle.json.specs.Token.{Token}
use Rattle.json.specs.Tree.{json_tokens}
use Rattle.json.specs.Written.{Written}
use Rattle.serde_json.specs.Data.{Data}
use Rattle.serde_json.specs.Read.{of_json}
use Rattle.serde_json.specs.Written.{outline}
use Rattle.lsp_msg.specs.declared.placed.Placed.{Placed}
use Rattle.lsp_msg.specs.Written.{item_object}

-- the tokens of a value
abbrev pub tokens_of : Data → List Token
tokens_of d = json_tokens (outline d)

-- the tokens of the items of a list, without its brackets
abbrev pub tokens_of_items : List Placed → List Token
tokens_of_items items = flat_map (λ placed. tokens_of (item_object placed)) items

-- a value's tokens are read as that value: its integers fit, and its members are in order
abbrev pub IsReadBack : Data → Type 0
IsReadBack d = of_json (outline d) ≡ Some d

-- these tokens were written after the old ones
pub record Adds (old new : Written) (ts : List Token) : Type 0 where
  pub before : new.before ≡ old.before
  pub tokens : new.tokens ≡ old.tokens ++ ts

-- a value was written after the old tokens, and is read back
pub record Puts (old new : Written) (d : Data) : Type 0 where
  pub adds : Adds old new (tokens_of d)
  pub read : IsReadBack d
