-- The messages of the generated session, as objects and as the bodies of frames (JSON-RPC 2.0; LSP 3.17). Each object has
-- its members in the byte order of their names.
use Rattle.std.specs.Prelude.{ℕ, List, ◌++◌, codes}
use Rattle.serde_json.specs.Data.{Data, array, object, no_items, item, no_members, member}
use Rattle.serde_json.specs.Written.{compact_text}
use Rattle.lsp_msg.specs.Written.{text, count, notification}
use Rattle.srb_gen.specs.Texts.{file_path}

-- the root of the session
abbrev pub root_uri : List ℕ
root_uri = codes "file:///g"

-- the URI of the file of this number
abbrev pub file_uri : ℕ → List ℕ
file_uri i = root_uri ++ codes "/" ++ file_path i

-- `initialize` with id 1 and the root
unfoldable pub initialize_params : Data
initialize_params =
    object (member (codes "capabilities") (object no_members)
    (member (codes "rootUri") (text root_uri) no_members))

unfoldable pub initialize_object : Data
initialize_object =
    object (member (codes "id") (count 1)
    (member (codes "jsonrpc") (text (codes "2.0"))
    (member (codes "method") (text (codes "initialize"))
    (member (codes "params") initialize_params no_members))))

-- `didOpen` of the document at the URI with this text
unfoldable pub opened_params : (uri content : List ℕ) → Data
opened_params uri content =
    object (member (codes "textDocument")
    (object (member (codes "languageId") (text (codes "ruby"))
    (member (codes "text") (text content)
    (member (codes "uri") (text uri)
    (member (codes "version") (count 1) no_members)))))
    no_members)

abbrev pub opened_object : (uri content : List ℕ) → Data
opened_object uri content = notification (codes "textDocument/didOpen") (opened_params uri content)

-- `didChange` of the document at the URI by one change without a range, to this text
unfoldable pub changed_params : (uri content : List ℕ) → Data
changed_params uri content =
    object (member (codes "contentChanges") (array (item (object (member (codes "text") (text content) no_members)) no_items))
    (member (codes "textDocument")
    (object (member (codes "uri") (text uri)
    (member (codes "version") (count 2) no_members)))
    no_members))

abbrev pub changed_object : (uri content : List ℕ) → Data
changed_object uri content = notification (codes "textDocument/didChange") (changed_params uri content)

-- `shutdown` with id 2
unfoldable pub shutdown_object : Data
shutdown_object =
    object (member (codes "id") (count 2)
    (member (codes "jsonrpc") (text (codes "2.0"))
    (member (codes "method") (text (codes "shutdown")) no_members)))

-- `exit`
unfoldable pub exit_object : Data
exit_object =
    object (member (codes "jsonrpc") (text (codes "2.0"))
    (member (codes "method") (text (codes "exit")) no_members))

-- the bodies of these messages: the objects without blanks
abbrev pub initialize_body : List ℕ
initialize_body = compact_text initialize_object

abbrev pub opened_body : (uri content : List ℕ) → List ℕ
opened_body uri content = compact_text (opened_object uri content)

abbrev pub changed_body : (uri content : List ℕ) → List ℕ
changed_body uri content = compact_text (changed_object uri content)

abbrev pub shutdown_body : List ℕ
shutdown_body = compact_text shutdown_object

abbrev pub exit_body : List ℕ
exit_body = compact_text exit_object
