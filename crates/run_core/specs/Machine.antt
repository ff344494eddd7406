-- The machine: which step a session's core may make, what the step leaves, and what it writes.
use Rattle.std.specs.Prelude.{◌≡◌, ◌≢◌, ℕ, ◌+◌, Bool, true, false, not, ◌&&◌, ◌||◌, ◌⊎◌, List, [], map, Option, Some, None, is_some, unwrap_or, IsTrue, IsFalse, ⊤}
use Rattle.srb_terms.specs.declared.diag.Diag.{Diag}
use Rattle.lsp_msg.specs.declared.id.Id.{Id}
use Rattle.lsp_msg.specs.declared.out.Out.{Out}
use Rattle.lsp_msg.specs.declared.out.Out.TheVariants as out
use Rattle.run_watch.specs.declared.end_cause.EndCause.{EndCause}
use Rattle.run_watch.specs.declared.inp.Inp.TheVariants.{Msg, End}
use Rattle.run_watch.specs.declared.step.Step.{Step}
use Rattle.run_watch.specs.declared.step.Step.TheVariants.{Take, Look, Build, Work, Dropped, Idle}
use Rattle.srb_terms.specs.Projects.{bytes_at}
use Rattle.lsp_docs.specs.Paths.{Path, has, with_path, with_paths, without_path, lookup, put}
use Rattle.lsp_docs.specs.Projects.{Project, paths_of}
use Rattle.lsp_docs.specs.Documents.{uri_of, placed}
use Rattle.lsp_docs.specs.Uris.{is_empty}
use Rattle.run_core.specs.Language.{Language}
use Rattle.run_core.specs.Sessions.{Session, no_session, Told, Began, Edited, Ended, told, after_told, answer_of}

pub record State : Type 0 where
  -- the phase, and the documents with what was agreed on
  pub session : Session
  -- the number of edits
  pub epoch : ℕ
  -- the symbol table has to be built before any file is worked on
  pub stale : Bool
  -- the files to be worked on
  pub todo : List Path
  -- the files of which a list has to be written even if it is the one shown
  pub owed : List Path
  -- the files edited since the last build
  pub edited : List Path
  -- the lists written last
  pub shown : List (Path × List Diag)
  -- the inbox was found empty, and nothing was taken or worked on since
  pub seen : Bool
  -- the `shutdown` that isn't answered yet
  pub owing : Option Id
  -- the end of input, if it was taken
  pub ended : Option EndCause

-- the state before any step
abbrev pub opening : Project → State
opening base = record {
  session = no_session base;
  epoch = 0;
  stale = false;
  todo = [];
  owed = [];
  edited = [];
  shown = [];
  seen = false;
  owing = None;
  ended = None;
}

-- the project as it is now
abbrev pub project_of : State → Project
project_of s = s.session.documents.project

-- the list written last of the file; none counts as empty
abbrev pub shown_of : State → Path → List Diag
shown_of s f = unwrap_or (lookup f s.shown) []

-- The inbox counts as looked at after the end of input, and from `shutdown` until its reply.
abbrev pub looked : State → Bool
looked s = s.seen || is_some s.ended || is_some s.owing

-- nothing is left to work on
abbrev pub is_at_rest : State → Bool
is_at_rest s = not s.stale && is_empty s.todo

-- A file may be worked on where the inbox was looked at, the symbol table is built, and the file is to be worked on. Files
-- that are owed go first.
abbrev pub may_work : State → Path → Bool
may_work s f = looked s && not s.stale && has f s.todo && (has f s.owed || is_empty s.owed)

-- A list is written where it was owed or differs from the one shown.
abbrev pub IsShown : State → Path → List Diag → Bool → Type 0
IsShown s f list true = IsTrue (has f s.owed) ⊎ (list ≢ shown_of s f)
IsShown s f list false = IsFalse (has f s.owed) × (list ≡ shown_of s f)

-- Working on a file finds what a fresh check of the project as it is now finds there.
pub record MayWork (language : Language) (s : State) (f : Path) (epoch : ℕ) (list : List Diag) (shown : Bool) : Type 0 where
  pub ready : IsTrue (may_work s f)
  pub now : epoch ≡ s.epoch
  pub fresh : list ≡ language.fresh (project_of s) f
  pub rightly : IsShown s f list shown

-- errors of a file are thrown away where they may no longer be those of its project, or aren't asked for
abbrev pub may_drop : State → Path → Bool
may_drop s f = s.stale || not (has f s.todo) || has f s.edited

-- Otherwise they wait where the inbox has to be looked at first, or where another file is owed and this one isn't.
abbrev pub must_wait : State → Path → Bool
must_wait s f = not (looked s) || (not (has f s.owed) && not (is_empty s.owed))

-- the step is permitted in the state
abbrev pub Permits : Language → State → Step → Type 0
Permits language s (Take inp) = IsFalse (is_some s.ended)
Permits language s Look = ⊤
Permits language s Build = IsTrue (looked s && s.stale)
Permits language s (Work f epoch list shown) = MayWork language s f epoch list shown
Permits language s (Dropped f) = IsTrue (may_drop s f)
Permits language s Idle = IsTrue (looked s && is_at_rest s)

-- An edit that keeps the errors of the other files has its own file worked on and owed; any other makes the
-- symbol table stale, and its file is owed.
abbrev pub after_taken_edit : State → Bool → Path → State
after_taken_edit s true f = record s {
  epoch = s.epoch + 1;
  todo = with_path f s.todo;
  owed = with_path f s.owed;
  edited = with_path f s.edited;
}
after_taken_edit s false f = record s {
  epoch = s.epoch + 1;
  stale = true;
  owed = with_path f s.owed;
  edited = with_path f s.edited;
}

-- the state after a message that comes to this, but for its session and for `seen`
abbrev pub after_taken : Language → State → Told → State
after_taken language s (Began id agreed) = record s { stale = true }
after_taken language s (Edited e opened) = after_taken_edit s (language.keeps (project_of s) e) e.path
after_taken language s (Ended id) = record s { owing = Some id }
after_taken language s t = s

abbrev pub after_message : Language → State → Told → State
after_message language s t =
    record (after_taken language s t) { session = after_told s.session t; seen = false }

-- the lists shown after a file was worked on
abbrev pub shown_after : List (Path × List Diag) → Path → List Diag → Bool → List (Path × List Diag)
shown_after m f list true = put f list m
shown_after m f list false = m

-- the state that the step leaves
abbrev pub next : Language → State → Step → State
next language s (Take (Msg m)) = after_message language s (told s.session m)
next language s (Take (End cause)) = record s { ended = Some cause; seen = false }
next language s Look = record s { seen = true }
next language s Build = record s {
  stale = false;
  todo = with_paths (paths_of (project_of s)) s.owed;
  edited = [];
}
next language s (Work f epoch list shown) = record s {
  todo = without_path f s.todo;
  owed = without_path f s.owed;
  shown = shown_after s.shown f list shown;
  seen = false;
}
next language s (Dropped f) = s
next language s Idle = record s { owing = None }

-- the message that the step writes
abbrev pub written : State → Step → Option Out
written s (Take (Msg m)) = answer_of (told s.session m)
written s (Work f epoch list true) = Some (out.List (uri_of s.session.documents.agreed f) epoch
    (map (placed s.session.documents.agreed.encoding (unwrap_or (bytes_at f (project_of s)) [])) list))
written s Idle = elim s.owing [
  | None ↦ None
  | Some id ↦ Some (out.Null id)
]
written s step = None
