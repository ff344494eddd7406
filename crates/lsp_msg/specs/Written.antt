-- The objects that are written for what the server says, and their bytes. Each object has its members in the byte order
-- of their names.
use Rattle.std.specs.Prelude.{ℕ, ℤ, List, ◌++◌, map, codes, true, false, Option, Some, None, if◌then◌else◌}
use Rattle.std.specs.Ordering.{int_eq}
use Rattle.serde_json.specs.Data.{Data, null, boolean, number, string, array, object, unsigned, no_members, member}
use Rattle.serde_json.specs.Find.{of_integer}
use Rattle.serde_json.specs.View.{items_of}
use Rattle.serde_json.specs.Written.{compact_text}
use Rattle.srb_text.specs.declared.Encoding.{Encoding}
use Rattle.srb_text.specs.declared.Pos.{Pos}
use Rattle.lsp_msg.specs.declared.id.Id.{Id}
use Rattle.lsp_msg.specs.declared.id.Id.TheVariants.{Number, Text}
use Rattle.lsp_msg.specs.declared.out.Out.{Out}
use Rattle.lsp_msg.specs.declared.out.Out.TheVariants.{Initialized, Null, Error, Log, List as Publish}
use Rattle.lsp_msg.specs.declared.placed.Placed.{Placed}
use Rattle.lsp_msg.specs.declared.reason.Reason.{Reason}
use Rattle.lsp_msg.specs.declared.reason.Reason.TheVariants.{NotOpen, Backwards, TooMany, TooBig, NotInProject, InvalidParams}
use Rattle.lsp_msg.specs.Encodings.{encoding_name}
use Rattle.lsp_msg.specs.ErrorCodes.{parse_error, method_not_found, invalid_params, server_not_initialized}

-- a text, and a whole number from 0 on
abbrev pub text : List ℕ → Data
text s = string s

abbrev pub count : ℕ → Data
count n = number (unsigned n)

-- ---- ids and errors (JSON-RPC 2.0, section 5)

-- an id; a missing one is written as null
abbrev pub id_data : Id → Data
id_data (Number z) = number (of_integer z)
id_data (Text s) = text s

abbrev pub optional_id : Option Id → Data
optional_id None = null
optional_id (Some id) = id_data id

-- the text of an error by its code: that of an invalid request for each code but the four others
unfoldable pub error_text : ℤ → List ℕ
error_text code =
    if int_eq code parse_error then codes "parse error"
    else (if int_eq code method_not_found then codes "method not found"
    else (if int_eq code invalid_params then codes "invalid params"
    else (if int_eq code server_not_initialized then codes "server not initialized"
    else codes "invalid request")))

unfoldable pub error_object : ℤ → Data
error_object code =
    object (member (codes "code") (number (of_integer code))
    (member (codes "message") (text (error_text code)) no_members))

-- the reply to a request with a result, and with an error
unfoldable pub result_message : Data → Data → Data
result_message id result =
    object (member (codes "id") id
    (member (codes "jsonrpc") (text (codes "2.0"))
    (member (codes "result") result no_members)))

unfoldable pub error_message : Data → Data → Data
error_message id error =
    object (member (codes "error") error
    (member (codes "id") id
    (member (codes "jsonrpc") (text (codes "2.0")) no_members)))

-- a notification
unfoldable pub notification : List ℕ → Data → Data
notification method params =
    object (member (codes "jsonrpc") (text (codes "2.0"))
    (member (codes "method") (text method)
    (member (codes "params") params no_members)))

-- ---- initialize (LSP 3.17, "InitializeResult")

-- documents are opened, closed, changed by ranges (2), and saved without their text
unfoldable pub sync_options : Data
sync_options =
    object (member (codes "change") (count 2)
    (member (codes "openClose") (boolean true)
    (member (codes "save") (object (member (codes "includeText") (boolean false) no_members)) no_members)))

-- what the server can do, and the encoding of its positions
unfoldable pub capabilities : Encoding → Data
capabilities encoding =
    object (member (codes "positionEncoding") (text (encoding_name encoding))
    (member (codes "textDocumentSync") sync_options no_members))

unfoldable pub initialize_result : Encoding → Data
initialize_result encoding =
    object (member (codes "capabilities") (capabilities encoding)
    (member (codes "serverInfo") (object (member (codes "name") (text (codes "srb")) no_members)) no_members))

-- ---- log messages (LSP 3.17, "LogMessageParams")

abbrev pub reason_text : Reason → List ℕ
reason_text NotOpen = codes "not open"
reason_text Backwards = codes "range ends before it starts"
reason_text TooMany = codes "too many files"
reason_text TooBig = codes "too many bytes"
reason_text NotInProject = codes "not in the project"
reason_text InvalidParams = codes "invalid params"

abbrev pub log_text : List ℕ → Reason → List ℕ
log_text method reason = codes "refused " ++ method ++ codes ": " ++ reason_text reason

-- a message of type 1, an error
unfoldable pub log_params : List ℕ → Data
log_params message = object (member (codes "message") (text message) (member (codes "type") (count 1) no_members))

-- ---- diagnostics (LSP 3.17, "PublishDiagnosticsParams")

unfoldable pub position_object : Pos → Data
position_object p = object (member (codes "character") (count p.unit) (member (codes "line") (count p.line) no_members))

unfoldable pub range_object : Pos → Pos → Data
range_object from to =
    object (member (codes "end") (position_object to) (member (codes "start") (position_object from) no_members))

-- an error as an item of a list, with severity 1
unfoldable pub item_object : Placed → Data
item_object placed =
    object (member (codes "code") (count placed.number)
    (member (codes "message") (text placed.text)
    (member (codes "range") (range_object placed.start placed.end)
    (member (codes "severity") (count 1)
    (member (codes "source") (text (codes "srb")) no_members)))))

unfoldable pub list_params : List ℕ → ℕ → Data → Data
list_params uri epoch items =
    object (member (codes "diagnostics") items
    (member (codes "epoch") (count epoch)
    (member (codes "uri") (text uri) no_members)))

-- the notification of a list
unfoldable pub list_object : List ℕ → ℕ → List Placed → Data
list_object uri epoch items =
    notification (codes "textDocument/publishDiagnostics") (list_params uri epoch (array (items_of (map item_object items))))

-- ---- what the server says

-- the object of a message
unfoldable pub object_of : Out → Data
object_of (Initialized id encoding) = result_message (id_data id) (initialize_result encoding)
object_of (Null id) = result_message (id_data id) null
object_of (Error id code) = error_message (optional_id id) (error_object code)
object_of (Log method reason) = notification (codes "window/logMessage") (log_params (log_text method reason))
object_of (Publish uri epoch items) = list_object uri epoch items

-- the body of a message: its object without blanks
unfoldable pub body_of : Out → List ℕ
body_of out = compact_text (object_of out)
