-- What is read from the parameters of a message. The members that no definition names are passed over.
use Rattle.std.specs.Prelude.{ℕ, min, List, [], ◌∷◌, Option, Some, None, option_map, option_and_then, codes}
use Rattle.std.specs.Option.{option_or, option_map_or}
use Rattle.serde_json.specs.Data.{Data, Items, no_items, item}
use Rattle.serde_json.specs.Find.{get, at, as_str, as_number, as_u64, as_array, as_object}
use Rattle.srb_text.specs.declared.Pos.{Pos}
use Rattle.lsp_msg.specs.declared.change.Change.{Change}

-- the member of this name of a value that may be missing
abbrev pub member_of : List ℕ → Option Data → Option Data
member_of name value = option_and_then (get name) value

-- the text that a value is, if it is there and is one
abbrev pub text_of : Option Data → Option (List ℕ)
text_of value = option_and_then as_str value

-- the items of a value, if it is there and is a list
abbrev pub items_in : Option Data → Option Items
items_in value = option_and_then as_array value

-- the member of this name of the message's parameters
abbrev pub param : List ℕ → Data → Option Data
param name message = member_of name (get (codes "params") message)

-- ---- positions (LSP 3.17, "Position", "Range")

-- the greatest number of a place: it counts for each greater one
abbrev pub GREATEST_PLACE : ℕ
GREATEST_PLACE = 4294967295

-- a number of a position, which is written with digits alone and less than 2^64
unfoldable pub place_of : Data → Option ℕ
place_of d = option_map (λ n. min n GREATEST_PLACE) (option_and_then as_u64 (as_number d))

unfoldable pub position_of : Data → Option Pos
position_of d =
    option_and_then
    (λ line. option_map (λ unit. record { line = line; unit = unit }) (option_and_then place_of (get (codes "character") d)))
    (option_and_then place_of (get (codes "line") d))

-- both ends of a range
unfoldable pub range_of : Data → Option (Pos × Pos)
range_of d =
    option_and_then
    (λ from. option_map (λ to. (from, to)) (option_and_then position_of (get (codes "end") d)))
    (option_and_then position_of (get (codes "start") d))

-- ---- changes (LSP 3.17, "TextDocumentContentChangeEvent")

-- the change to this text: of the whole document where there is no `range`, and else of a range that can be read
abbrev pub change_to : List ℕ → Option Data → Option Change
change_to text None = Some (record { range = None; text = text })
change_to text (Some d) = option_map (λ range. record { range = Some range; text = text }) (range_of d)

unfoldable pub change_of : Data → Option Change
change_of d = option_and_then (λ text. change_to text (get (codes "range") d)) (text_of (get (codes "text") d))

-- the changes in order, if each of them can be read
abbrev pub changes_of : Items → Option (List Change)
changes_of no_items = Some []
changes_of (item d ds) = option_and_then (λ change. option_map (λ changes. change ∷ changes) (changes_of ds)) (change_of d)

-- the changes of the message
unfoldable pub content_changes : Data → Option (List Change)
content_changes message = option_and_then changes_of (items_in (param (codes "contentChanges") message))

-- the text of this name of the document that the message is about
unfoldable pub document_text : List ℕ → Data → Option (List ℕ)
document_text name message = text_of (member_of name (param (codes "textDocument") message))

-- ---- initialize (LSP 3.17, "InitializeParams")

-- the parameters, if they are an object
unfoldable pub object_params : Data → Option Data
object_params message =
    option_and_then (λ params. option_map (λ members. params) (as_object params)) (get (codes "params") message)

-- the text that is the `uri` of the first of the `workspaceFolders`
unfoldable pub folder_of : Data → Option (List ℕ)
folder_of params = text_of (member_of (codes "uri") (option_and_then (at 0) (get (codes "workspaceFolders") params)))

-- the root: `rootUri` if it is a text, and else the first folder
unfoldable pub root_of : Data → Option (List ℕ)
root_of params = option_or (text_of (get (codes "rootUri") params)) (folder_of params)

-- the text, if there is one, before others
abbrev pub before : Option (List ℕ) → List (List ℕ) → List (List ℕ)
before None texts = texts
before (Some text) texts = text ∷ texts

-- the texts among the items, in order
abbrev pub texts_among : Items → List (List ℕ)
texts_among no_items = []
texts_among (item d ds) = before (as_str d) (texts_among ds)

-- the items of the list of position encodings
unfoldable pub listed_encodings : Data → Option Items
listed_encodings params =
    items_in (member_of (codes "positionEncodings") (member_of (codes "general") (get (codes "capabilities") params)))

-- the position encodings that the client lists; none where that is no list
unfoldable pub encodings_of : Data → List (List ℕ)
encodings_of params = option_map_or texts_among (listed_encodings params) []
