-- The parts of a list of errors are read back from their tokens, and so is the list from its text.
use Rattle.std.proofs.Common.{◌≡◌, ℕ, suc, ◌<◌, ◌≤◌, ◌^◌, List, [], ◌∷◌, map, All, Option, Some, option_and_then, refl, sym, ap, ◌∙◌, append-nil, arith, lit<}
use Rattle.serde_json.proofs.Numbers.{number_of-decimal}
use Rattle.serde_json.specs.Data.{Data, array}
use Rattle.serde_json.specs.Read.{of_json, of_items, read, max_depth}
use Rattle.json.specs.Token.{Token}
use Rattle.json.specs.Lex.{tokens}
use Rattle.json.specs.Json.{Json, value, if_last}
use Rattle.json.specs.Tree.{depth, items_depth}
use Rattle.json.proofs.Printed.Trees.{value-json_tokens}
use Rattle.serde_json.specs.View.{items_of}
use Rattle.serde_json.specs.Written.{outline, items_outline}
use Rattle.srb_text.specs.declared.Pos.{Pos}
use Rattle.lsp_msg.specs.declared.placed.Placed.{Placed}
use Rattle.lsp_msg.specs.Tokens.{tokens_of, IsReadBack}
use Rattle.lsp_msg.specs.Written.{position_object, range_object, item_object, list_params, list_object, notification}

-- a position is read back
pub position-read : (p : Pos) → p.unit < 2 ^ 64 → p.line < 2 ^ 64 → IsReadBack (position_object p)
unfolding position_object
position-read p unit line = rw (number_of-decimal p.unit unit, number_of-decimal p.line line)

-- a range is read back if its ends are
pub range-read : (from to : Pos) → IsReadBack (position_object from) → IsReadBack (position_object to) → IsReadBack (range_object from to)
unfolding range_object
range-read from to start end = rw (end, start)

-- an error is read back if its range is
pub item-read : (placed : Placed) → placed.number < 2 ^ 64 → IsReadBack (range_object placed.start placed.end) → IsReadBack (item_object placed)
unfolding item_object
item-read placed number range = rw (number_of-decimal placed.number number, range, number_of-decimal 1 (lit< tt))

-- items are read back if each of them is
items-each-read : (items : List Placed) → All (λ placed. IsReadBack (item_object placed)) items → of_items (items_outline (items_of (map item_object items))) ≡ Some (items_of (map item_object items))
items-each-read [] each = refl
items-each-read (placed ∷ items) each = rw (each 0 placed (omega arith), items-each-read items (λ k d within. each (suc k) d (omega arith)))

-- an array is read back if each of its items is
pub items-read : (items : List Placed) → All (λ placed. IsReadBack (item_object placed)) items → IsReadBack (array (items_of (map item_object items)))
items-read items each = rw (items-each-read items each)

-- the parameters of a list are read back if its items are
pub params-read : (uri : List ℕ) (epoch : ℕ) (items : Data) → epoch < 2 ^ 64 → IsReadBack items → IsReadBack (list_params uri epoch items)
unfolding list_params
params-read uri epoch items small read = rw (read, number_of-decimal epoch small)

-- a notification is read back if its parameters are
pub notification-read : (method : List ℕ) (params : Data) → IsReadBack params → IsReadBack (notification method params)
unfolding notification
notification-read method params read = rw read

-- the items of a list are not deep
items-shallow : (items : List Placed) → items_depth (items_outline (items_of (map item_object items))) ≤ 3
unfolding item_object range_object position_object
items-shallow [] = omega arith
items-shallow (placed ∷ items) = let rest = items-shallow items in omega arith

-- a list is not deeper than what is read
list-shallow : (uri : List ℕ) (epoch : ℕ) (items : List Placed) → depth (outline (list_object uri epoch items)) ≤ max_depth
unfolding list_object notification list_params
list-shallow uri epoch items = let shallow = items-shallow items in omega arith

-- what is written for a list is read as the list
pub list-read : (uri : List ℕ) (epoch : ℕ) (items : List Placed) (text : List ℕ) → tokens text ≡ tokens_of (list_object uri epoch items) → IsReadBack (list_object uri epoch items)
    → read text ≡ Some (list_object uri epoch items)
list-read uri epoch items text same back =
    let list = list_object uri epoch items in
    let whole : Option (Json × List Token) → Option Data = λ r. option_and_then of_json (option_and_then (λ p. if_last p.0 p.1) r) in
    ap whole (ap (value max_depth) (same ∙ sym (append-nil _)) ∙ value-json_tokens (outline list) max_depth [] (list-shallow uri epoch items)) ∙ back
