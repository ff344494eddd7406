-- What the messages of a session come to, as a fold over them that knows the life cycle and the documents alone.
use Rattle.std.specs.Prelude.{ℕ, zero, suc, Bool, ◌||◌, List, [], ◌∷◌, ◌++◌, Option, Some, None, get_or, bytes_eq, is_some, if◌then◌else◌}
use Rattle.lsp_msg.specs.declared.id.Id.{Id}
use Rattle.lsp_msg.specs.declared.msg.Msg.{Msg}
use Rattle.lsp_msg.specs.declared.out.Out.{Out}
use Rattle.srb_terms.specs.Projects.{bytes_at}
use Rattle.lsp_docs.specs.Paths.{Path}
use Rattle.lsp_docs.specs.Projects.{Project, Edit}
use Rattle.run_core.specs.Sessions.{Session, no_session, Told, Edited, Ended, told, after_told, answer_of}

-- an accepted `shutdown`: its id, and the answers to all messages before it
pub record Shutdown : Type 0 where
  pub id : Id
  pub answered : List Out

-- What some messages came to.
pub record History : Type 0 where
  -- the session after them
  pub session : Session
  -- the accepted edits
  pub edits : List Edit
  -- the replies and log messages, in order of their messages, without the reply to the accepted `shutdown`
  pub answers : List Out
  -- for each edit the answers to the messages before it
  pub answered : List (List Out)
  -- the accepted `shutdown`
  pub shutdown : Option Shutdown

-- before any message
abbrev pub no_history : Project → History
no_history base = record { session = no_session base; edits = []; answers = []; answered = []; shutdown = None }

-- an optional value as a list
abbrev pub listed : {A : Type 0} → Option A → List A
listed None = []
listed (Some a) = a ∷ []

-- the edit that a message is
abbrev pub edit_of : Told → List Edit
edit_of (Edited e opened) = e ∷ []
edit_of t = []

-- where a message is an edit, the answers before it
abbrev pub answers_at_edit : List Out → Told → List (List Out)
answers_at_edit answers (Edited e opened) = answers ∷ []
answers_at_edit answers t = []

-- the `shutdown` that a message is, else the one before it
abbrev pub shutdown_of : History → Told → Option Shutdown
shutdown_of h (Ended id) = Some (record { id = id; answered = h.answers })
shutdown_of h t = h.shutdown

-- after one more message
abbrev pub heard_as : History → Told → History
heard_as h t = record {
  session = after_told h.session t;
  edits = h.edits ++ edit_of t;
  answers = h.answers ++ listed (answer_of t);
  answered = h.answered ++ answers_at_edit h.answers t;
  shutdown = shutdown_of h t;
}

abbrev pub heard : History → Msg → History
heard h m = heard_as h (told h.session m)

abbrev pub heard_all : History → List Msg → History
heard_all h [] = h
heard_all h (m ∷ ms) = heard_all (heard h m) ms

-- what the messages of a session over this project came to
abbrev pub history : Project → List Msg → History
history base ms = heard_all (no_history base) ms

-- the accepted edits, and the answers in order of their messages
abbrev pub edits_of : Project → List Msg → List Edit
edits_of base ms = (history base ms).edits

abbrev pub answers_to : Project → List Msg → List Out
answers_to base ms = (history base ms).answers

-- some edit is of the path
abbrev pub is_edited : Path → List Edit → Bool
is_edited f [] = Bool.false
is_edited f (e ∷ es) = bytes_eq f e.path || is_edited f es

-- the path is one of the project at the start or of an edit
abbrev pub is_known : Project → List Edit → Path → Bool
is_known base es f = is_some (bytes_at f base) || is_edited f es

-- the number of the last edit of the path, counted from 1; 0 where there is none
abbrev pub last_edit : Path → List Edit → ℕ
last_edit f [] = 0
last_edit f (e ∷ es) = elim (last_edit f es) [
  | zero ↦ (if bytes_eq f e.path then 1 else 0)
  | suc n ↦ suc (suc n)
]

-- the answers to all messages before the n-th edit; the 0-th edit stands for the start
abbrev pub answered_before : History → ℕ → List Out
answered_before h zero = []
answered_before h (suc n) = get_or h.answered n []
