-- Documents: the project as the client's messages change it, which paths are open, and what was saved.
use Rattle.std.specs.Prelude.{◌≡◌, ◌≢◌, ℕ, ◌≤◌, true, false, not, ◌&&◌, nat_lt, nat_le, List, [], ◌∷◌, length, chars, encode_utf8_all, Option, Some, None, unwrap_or, is_some, Result, Ok, Err, if◌then◌else◌}
use Rattle.std.specs.Str.{is_utf8}
use Rattle.srb_text.specs.Positions.{offset_of, position_of, weight_of}
use Rattle.srb_text.specs.Edits.{edited}
use Rattle.srb_text.specs.declared.Encoding.{Encoding}
use Rattle.srb_text.specs.declared.Pos.{Pos}
use Rattle.srb_terms.specs.declared.diag.Diag.{Diag}
use Rattle.lsp_msg.specs.Encodings.{chosen}
use Rattle.lsp_msg.specs.declared.change.Change.{Change}
use Rattle.lsp_msg.specs.declared.placed.Placed.{Placed}
use Rattle.lsp_msg.specs.declared.msg.Msg.{Msg}
use Rattle.lsp_msg.specs.declared.msg.Msg.TheVariants.{Opened, Changed, Saved, Closed}
use Rattle.lsp_docs.specs.declared.applied.Applied.{Applied}
use Rattle.lsp_docs.specs.declared.doc_end.DocEnd.{DocEnd}
use Rattle.lsp_docs.specs.declared.doc_end.DocEnd.TheVariants.{Foreign, Unknown, TooMany, Backwards, TooBig, NoMemory}
use Rattle.srb_terms.specs.Projects.{IsProject, bytes_at, put_file}
use Rattle.lsp_docs.specs.Paths.{Path, Bytes, has, with_path, without_path}
use Rattle.lsp_docs.specs.Projects.{Project, Edit, after_edit, total_bytes}
use Rattle.lsp_docs.specs.Uris.{root_of, uri_below, path_below}
use Rattle.srb_text.specs.Limits.{MOST_BYTES}

-- What the client and the server agree on at the accepted `initialize`.
pub record Agreed : Type 0 where
  -- the URI below which the project is
  pub root : List ℕ
  -- the units of positions
  pub encoding : Encoding

-- what the two agree on where the client names this root and lists these position encodings
abbrev pub agreed_by : Option (List ℕ) → List (List ℕ) → Agreed
agreed_by root encodings = record { root = root_of root; encoding = chosen encodings }

-- the URI that is written for a path
abbrev pub uri_of : Agreed → Path → List ℕ
uri_of agreed f = uri_below agreed.root f

-- the path that a URI names
abbrev pub path_of : Agreed → List ℕ → Option Path
path_of agreed uri = path_below agreed.root uri

-- the characters of a file; bytes that are no text have none
abbrev pub text_of : Bytes → List ℕ
text_of bytes = if is_utf8 bytes then chars bytes else []

-- an error of a file with these bytes, its place turned into positions of the encoding
abbrev pub placed : Encoding → Bytes → Diag → Placed
placed encoding bytes d = record {
  start = position_of (weight_of encoding) (text_of bytes) d.span.start;
  end = position_of (weight_of encoding) (text_of bytes) d.span.end;
  number = d.number;
  text = d.text;
}

-- The documents of a session.
pub record Documents : Type 0 where
  pub agreed : Agreed
  -- the present text of each file
  pub project : Project
  -- the text that each file had at the start or was saved with last
  pub saved : Project
  pub opened : List Path

-- the documents before any message
abbrev pub no_documents : Project → Documents
no_documents base = record { agreed = agreed_by None []; project = base; saved = base; opened = [] }

-- What an accepted message does: it edits, and these paths are open then; or the present text of a path
-- counts as saved.
pub data Deed : Type 0 where
  Edits : Edit → List Path → Deed
  Saves : Path → Deed

-- the documents after it
abbrev pub after_deed : Documents → Deed → Documents
after_deed d (Edits e opened) = record d { project = after_edit d.project e; opened = opened }
after_deed d (Saves f) = record d { saved = put_file f (unwrap_or (bytes_at f d.project) []) d.saved }

-- how many files a project may have
abbrev pub MOST_FILES : ℕ
MOST_FILES = 4096

-- the edit, unless it leaves texts of too many bytes
abbrev pub sized : Documents → Edit → List Path → Result Deed DocEnd
sized d e opened =
    if nat_lt MOST_BYTES (total_bytes (after_edit d.project e)) then Err (TooBig (total_bytes (after_edit d.project e)))
    else Ok (Edits e opened)

-- `didOpen` puts the text, also on a path that is open. A new path is refused where the project is full.
abbrev pub opens : Documents → Bytes → Path → Result Deed DocEnd
opens d text f =
    if not (is_some (bytes_at f d.project)) && nat_le MOST_FILES (length d.project) then Err (TooMany (length d.project))
    else sized d (record { path = f; now = Some text }) (with_path f d.opened)

-- the text in which `new` stands between two offsets, unless the first is after the second
abbrev pub between : Encoding → List ℕ → Pos → Pos → List ℕ → Result (List ℕ) DocEnd
between encoding text from to new =
    if nat_lt (offset_of (weight_of encoding) text to) (offset_of (weight_of encoding) text from)
    then Err (Backwards (offset_of (weight_of encoding) text from) (offset_of (weight_of encoding) text to))
    else Ok (edited (weight_of encoding) text from to new)

-- the text after one change; without a range the new text takes the place of the whole
abbrev pub after_change : Encoding → List ℕ → Change → Result (List ℕ) DocEnd
after_change encoding text c = elim c.range [
  | None ↦ Ok (chars c.text)
  | Some part ↦ between encoding text part.0 part.1 (chars c.text)
]

-- `didChange`, from this text on: the changes are applied in order, and each is refused by its range, and
-- then by the bytes that it would leave
abbrev pub changes : Documents → Path → List ℕ → List Change → Result Deed DocEnd
changes d f text [] = Ok (Edits (record { path = f; now = Some (encode_utf8_all text) }) d.opened)
changes d f text (c ∷ cs) = elim (after_change d.agreed.encoding text c) [
  | Err e ↦ Err e
  | Ok new ↦ elim (sized d (record { path = f; now = Some (encode_utf8_all new) }) d.opened) [
    | Err e ↦ Err e
    | Ok one ↦ changes d f new cs
  ]
]

-- what is done with the path that the URI names, or with a path where it is open
abbrev pub where_named : Documents → List ℕ → (Path → Result Deed DocEnd) → Result Deed DocEnd
where_named d uri deed = elim (path_of d.agreed uri) [
  | None ↦ Err Foreign
  | Some f ↦ deed f
]

abbrev pub if_open : Documents → (Path → Result Deed DocEnd) → Path → Result Deed DocEnd
if_open d deed f = if has f d.opened then deed f else Err Unknown

abbrev pub where_open : Documents → List ℕ → (Path → Result Deed DocEnd) → Result Deed DocEnd
where_open d uri deed = where_named d uri (if_open d deed)

-- `didClose` brings back the text last loaded or saved, or takes the path out if there is none.
abbrev pub closes : Documents → Path → Result Deed DocEnd
closes d f = sized d (record { path = f; now = bytes_at f d.saved }) (without_path f d.opened)

-- `didChange` changes the present text
abbrev pub changes_now : Documents → List Change → Path → Result Deed DocEnd
changes_now d list f = changes d f (chars (unwrap_or (bytes_at f d.project) [])) list

-- What a message about a document does, or the first refusal that fits. Other messages have none.
abbrev pub applied : Documents → Msg → Option (Result Deed DocEnd)
applied d (Opened uri text) = Some (where_named d uri (opens d text))
applied d (Changed uri list) = Some (where_open d uri (changes_now d list))
applied d (Saved uri) = Some (where_open d uri (λ f. Ok (Saves f)))
applied d (Closed uri) = Some (where_open d uri (closes d))
applied d m = None

-- what is told of a deed: its path, and whether it edits
abbrev pub told_of : Deed → Applied
told_of (Edits e opened) = record { path = e.path; edit = true }
told_of (Saves f) = record { path = f; edit = false }

-- The rule's deed is done, and this is told of it.
pub record IsDoneFor (rule : Result Deed DocEnd) (old new : Documents) (a : Applied) : Type 0 where
  pub deed : Deed
  pub accepted : rule ≡ Ok deed
  pub done : new ≡ after_deed old deed
  pub told : a ≡ told_of deed

-- The message is accepted: its deed is done, and this is told of it.
pub record IsAccepted (old : Documents) (m : Msg) (new : Documents) (a : Applied) : Type 0 where
  pub deed : Deed
  pub accepted : applied old m ≡ Some (Ok deed)
  pub done : new ≡ after_deed old deed
  pub told : a ≡ told_of deed

-- the message is refused for this, or there was no memory
abbrev pub IsRefused : Documents → Msg → DocEnd → Type 0
IsRefused d m e = e ≢ NoMemory → applied d m ≡ Some (Err e)

-- What always holds of the documents: paths stand in byte order, each once, and there are no more files and bytes than a
-- project may have.
pub record AreDocuments (d : Documents) : Type 0 where
  pub project : IsProject d.project
  pub saved : IsProject d.saved
  pub files : length d.project ≤ MOST_FILES
  pub bytes : total_bytes d.project ≤ MOST_BYTES
