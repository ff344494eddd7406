-- The life of a session, and what each message means in it.
use Rattle.std.specs.Prelude.{ℕ, ℤ, List, [], Option, Some, None, Result, Ok, Err, codes, bytes_eq, if◌then◌else◌}
use Rattle.lsp_msg.specs.declared.id.Id.{Id}
use Rattle.lsp_msg.specs.declared.msg.Msg.{Msg}
use Rattle.lsp_msg.specs.declared.msg.Msg.TheVariants.{Initialize, Opened, Changed, Saved, Closed, Shutdown, Unknown, BadParams, Bad}
use Rattle.lsp_msg.specs.declared.out.Out.{Out}
use Rattle.lsp_msg.specs.declared.out.Out.TheVariants.{Initialized, Error, Log}
use Rattle.lsp_msg.specs.declared.reason.Reason.{Reason}
use Rattle.lsp_msg.specs.declared.reason.Reason.TheVariants as reason
use Rattle.lsp_msg.specs.ErrorCodes.{invalid_request, method_not_found, invalid_params, server_not_initialized}
use Rattle.lsp_docs.specs.declared.doc_end.DocEnd.{DocEnd}
use Rattle.lsp_docs.specs.declared.doc_end.DocEnd.TheVariants as refused
use Rattle.lsp_docs.specs.Paths.{Path}
use Rattle.lsp_docs.specs.Projects.{Project, Edit}
use Rattle.lsp_docs.specs.Documents.{Agreed, agreed_by, Documents, no_documents, Deed, after_deed, applied}
-- before `initialize` is accepted, between, and after `shutdown` is accepted
pub use Rattle.run_core.specs.declared.phase.Phase.{Phase}
pub use Rattle.run_core.specs.declared.phase.Phase.TheVariants.{Waiting, Serving, Closing}

pub record Session : Type 0 where
  pub phase : Phase
  pub documents : Documents

-- the session before any message
abbrev pub no_session : Project → Session
no_session base = record { phase = Waiting; documents = no_documents base }

-- Each message comes to one of seven things.
pub data Told : Type 0 where
  -- nothing follows from it
  Nothing : Told
  -- it is answered by an error of this code
  Failed : Option Id → ℤ → Told
  -- it is refused by a log message
  Logged : List ℕ → Reason → Told
  -- it is the accepted `initialize`
  Began : Id → Agreed → Told
  -- it is an edit, after which these paths are open
  Edited : Edit → List Path → Told
  -- the present text of this path counts as saved
  Kept : Path → Told
  -- it is the accepted `shutdown`
  Ended : Id → Told

-- Before `initialize`: what is no message is answered by its code, any request but `initialize` by "server not
-- initialized", and notifications are dropped. An `initialize` whose parameters can't be read doesn't count.
abbrev pub when_waiting : Msg → Told
when_waiting (Initialize id root encodings) = Began id (agreed_by root encodings)
when_waiting (Shutdown id) = Failed (Some id) server_not_initialized
when_waiting (Unknown id) = Failed (Some id) server_not_initialized
when_waiting (BadParams method (Some id)) =
    Failed (Some id) (if bytes_eq method (codes "initialize") then invalid_params else server_not_initialized)
when_waiting (Bad code id) = Failed id code
when_waiting m = Nothing

-- the reason that a log message gives for a refusal; running out of memory is no refusal
abbrev pub reason_of : DocEnd → Option Reason
reason_of refused.Foreign = Some reason.NotInProject
reason_of refused.Unknown = Some reason.NotOpen
reason_of (refused.TooMany count) = Some reason.TooMany
reason_of (refused.Backwards start end) = Some reason.Backwards
reason_of (refused.TooBig bytes) = Some reason.TooBig
reason_of refused.NoMemory = None

-- the method of a message about a document
abbrev pub method_of : Msg → List ℕ
method_of (Opened uri text) = codes "textDocument/didOpen"
method_of (Changed uri changes) = codes "textDocument/didChange"
method_of (Saved uri) = codes "textDocument/didSave"
method_of (Closed uri) = codes "textDocument/didClose"
method_of m = []

-- what a message about a document comes to
abbrev pub told_by : List ℕ → Result Deed DocEnd → Told
told_by method (Ok (Deed.Edits e opened)) = Edited e opened
told_by method (Ok (Deed.Saves f)) = Kept f
told_by method (Err e) = elim (reason_of e) [
  | None ↦ Nothing
  | Some reason ↦ Logged method reason
]

-- Between: what is no message is answered by its code, a second `initialize` by "invalid request", an unknown
-- request by "method not found", a request whose parameters can't be read by "invalid params". A notification
-- whose parameters can't be read, and a message about a document that is refused, gives a log message.
abbrev pub when_serving : Documents → Msg → Told
when_serving d (Initialize id root encodings) = Failed (Some id) invalid_request
when_serving d (Shutdown id) = Ended id
when_serving d (Unknown id) = Failed (Some id) method_not_found
when_serving d (BadParams method (Some id)) = Failed (Some id) invalid_params
when_serving d (BadParams method None) = Logged method reason.InvalidParams
when_serving d (Bad code id) = Failed id code
when_serving d m = elim (applied d m) [
  | None ↦ Nothing
  | Some result ↦ told_by (method_of m) result
]

-- After `shutdown`: what is no message is answered by its code, any request by "invalid request", and notifications
-- are dropped.
abbrev pub when_closing : Msg → Told
when_closing (Initialize id root encodings) = Failed (Some id) invalid_request
when_closing (Shutdown id) = Failed (Some id) invalid_request
when_closing (Unknown id) = Failed (Some id) invalid_request
when_closing (BadParams method (Some id)) = Failed (Some id) invalid_request
when_closing (Bad code id) = Failed id code
when_closing m = Nothing

-- what a message comes to in a session
abbrev pub told_in : Phase → Documents → Msg → Told
told_in Waiting d m = when_waiting m
told_in Serving d m = when_serving d m
told_in Closing d m = when_closing m

abbrev pub told : Session → Msg → Told
told s m = told_in s.phase s.documents m

-- the session after it
abbrev pub after_told : Session → Told → Session
after_told s (Began id agreed) = record { phase = Serving; documents = record s.documents { agreed = agreed } }
after_told s (Edited e opened) = record s { documents = after_deed s.documents (Deed.Edits e opened) }
after_told s (Kept f) = record s { documents = after_deed s.documents (Deed.Saves f) }
after_told s (Ended id) = record s { phase = Closing }
after_told s t = s

-- its answer, if it has one: the reply to `shutdown` is none, for it waits until all is checked
abbrev pub answer_of : Told → Option Out
answer_of (Failed id code) = Some (Error id code)
answer_of (Logged method reason) = Some (Log method reason)
answer_of (Began id agreed) = Some (Initialized id agreed.encoding)
answer_of t = None
