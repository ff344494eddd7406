-- What the body of a frame says, case by case: the first case that fits.
use Rattle.std.specs.Prelude.{ℕ, List, codes, Bool, true, false, ◌&&◌, ◌||◌, is_some, Option, Some, None, option_map, option_and_then, unwrap_or, bytes_eq, if◌then◌else◌}
use Rattle.std.specs.Option.{option_map_or}
use Rattle.std.specs.Str.{is_utf8}
use Rattle.serde_json.specs.Data.{Data, null, boolean, number, string, array, object}
use Rattle.serde_json.specs.Read.{read}
use Rattle.serde_json.specs.Find.{get, as_str, as_i64}
use Rattle.lsp_msg.specs.declared.id.Id.{Id}
use Rattle.lsp_msg.specs.declared.id.Id.TheVariants.{Number, Text}
use Rattle.lsp_msg.specs.declared.msg.Msg.{Msg}
use Rattle.lsp_msg.specs.declared.msg.Msg.TheVariants.{Initialize, Opened, Changed, Saved, Closed, Shutdown, Exit, Unknown, Ignored, BadParams, Bad}
use Rattle.lsp_msg.specs.ErrorCodes.{parse_error, invalid_request}
use Rattle.lsp_msg.specs.Params.{text_of, document_text, content_changes, object_params, root_of, encodings_of}

-- the value that the body is as JSON in UTF-8, nested at most 127 deep
unfoldable pub json_of : List ℕ → Option Data
json_of body = if is_utf8 body then read body else None

-- ---- ids (JSON-RPC 2.0, section 4)

-- what a value names a request by: a text, or a whole number of 64 signed bits
abbrev pub id_of : Data → Option Id
id_of null = None
id_of (boolean b) = None
id_of (number n) = option_map Number (as_i64 n)
id_of (string s) = Some (Text s)
id_of (array ds) = None
id_of (object ms) = None

-- the message has no `id`, or one that names a request
unfoldable pub has_readable_id : Data → Bool
has_readable_id message = option_map_or (λ d. is_some (id_of d)) (get (codes "id") message) true

-- the id, if there is one
unfoldable pub message_id : Data → Option Id
message_id message = option_and_then id_of (get (codes "id") message)

-- ---- requests and notifications

-- `initialize`, whose parameters have to be an object
unfoldable pub initialize_of : Id → Data → Msg
initialize_of id message =
    option_map_or (λ params. Initialize id (root_of params) (encodings_of params)) (object_params message)
    (BadParams (codes "initialize") (Some id))

-- a request, which has an id
unfoldable pub request_of : Id → List ℕ → Data → Msg
request_of id method message =
    if bytes_eq method (codes "initialize") then initialize_of id message
    else (if bytes_eq method (codes "shutdown") then Shutdown id
    else Unknown id)

-- what is said of a document, where it can be read
unfoldable pub opened_of : Data → Option Msg
opened_of message =
    option_and_then (λ uri. option_map (λ text. Opened uri text) (document_text (codes "text") message))
    (document_text (codes "uri") message)

unfoldable pub changed_of : Data → Option Msg
changed_of message =
    option_and_then (λ uri. option_map (λ changes. Changed uri changes) (content_changes message))
    (document_text (codes "uri") message)

unfoldable pub saved_of : Data → Option Msg
saved_of message = option_map (λ uri. Saved uri) (document_text (codes "uri") message)

unfoldable pub closed_of : Data → Option Msg
closed_of message = option_map (λ uri. Closed uri) (document_text (codes "uri") message)

-- what was read, or else that the notification's parameters can't be read
abbrev pub or_bad_params : List ℕ → Option Msg → Msg
or_bad_params method said = unwrap_or said (BadParams method None)

-- a notification, which has no id
unfoldable pub notification_of : List ℕ → Data → Msg
notification_of method message =
    if bytes_eq method (codes "textDocument/didOpen") then or_bad_params method (opened_of message)
    else (if bytes_eq method (codes "textDocument/didChange") then or_bad_params method (changed_of message)
    else (if bytes_eq method (codes "textDocument/didSave") then or_bad_params method (saved_of message)
    else (if bytes_eq method (codes "textDocument/didClose") then or_bad_params method (closed_of message)
    else (if bytes_eq method (codes "exit") then Exit
    else Ignored))))

-- ---- messages (JSON-RPC 2.0, sections 4 and 5)

-- a message of this method
abbrev pub called : Option Id → List ℕ → Data → Msg
called None method message = notification_of method message
called (Some id) method message = request_of id method message

-- a message without `method`: a reply has an id, and `result` or `error`
unfoldable pub reply_of : Option Id → Data → Msg
reply_of id message =
    if is_some id && (is_some (get (codes "result") message) || is_some (get (codes "error") message)) then Ignored
    else Bad invalid_request id

-- a message whose `method` is this value: it has to be a text
abbrev pub called_by : Option Id → Data → Data → Msg
called_by id method message = option_map_or (λ name. called id name message) (as_str method) (Bad invalid_request id)

unfoldable pub said_by : Option Id → Data → Msg
said_by id message = option_map_or (λ method. called_by id method message) (get (codes "method") message) (reply_of id message)

-- it is an object whose member `jsonrpc` is the text `2.0`: nothing else has members
unfoldable pub is_message : Data → Bool
is_message message = option_map_or (λ version. bytes_eq version (codes "2.0")) (text_of (get (codes "jsonrpc") message)) false

-- what a value says as a message
unfoldable pub message_of : Data → Msg
message_of message =
    if is_message message && has_readable_id message then said_by (message_id message) message
    else Bad invalid_request None

-- what a body says
unfoldable pub decoded : List ℕ → Msg
decoded body = option_map_or message_of (json_of body) (Bad parse_error None)
