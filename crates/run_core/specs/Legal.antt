-- Which messages a server may write. Each may stand or not stand after those written before it.
use Rattle.std.specs.Prelude.{◌≡◌, ℕ, ◌≤◌, Bool, true, false, List, [], ◌∷◌, ◌++◌, length, Some, IsTrue, IsFalse, IsSome, ⊤}
use Rattle.lsp_msg.specs.declared.id.Id.{Id}
use Rattle.lsp_msg.specs.declared.msg.Msg.{Msg}
use Rattle.lsp_msg.specs.declared.out.Out.{Out}
use Rattle.lsp_msg.specs.declared.out.Out.TheVariants as out
use Rattle.lsp_msg.specs.declared.placed.Placed.{Placed}
use Rattle.lsp_docs.specs.Paths.{Path}
use Rattle.lsp_docs.specs.Projects.{Project, after}
use Rattle.lsp_docs.specs.Documents.{uri_of}
use Rattle.run_core.specs.Language.{Language, list_of}
use Rattle.run_core.specs.Sessions.{Phase, Waiting, Serving, Closing}
use Rattle.run_core.specs.Histories.{History, history, Shutdown, is_known, answered_before}

-- the first list begins the second
abbrev pub Begins : List Out → List Out → Type 0
Begins xs ys = (rest : List Out) × (ys ≡ xs ++ rest)

-- the messages that are neither lists nor the reply to `shutdown`
abbrev pub answers_in : List Out → List Out
answers_in [] = []
answers_in (out.List uri epoch items ∷ xs) = answers_in xs
answers_in (out.Null id ∷ xs) = answers_in xs
answers_in (x ∷ xs) = x ∷ answers_in xs

-- the reply to `initialize` is among the messages
abbrev pub has_greeting : List Out → Bool
has_greeting [] = false
has_greeting (out.Initialized id encoding ∷ xs) = true
has_greeting (x ∷ xs) = has_greeting xs

-- the reply to `shutdown` is among the messages
abbrev pub has_farewell : List Out → Bool
has_farewell [] = false
has_farewell (out.Null id ∷ xs) = true
has_farewell (x ∷ xs) = has_farewell xs

-- no list among the messages has a greater epoch
abbrev pub NoneNewer : ℕ → List Out → Type 0
NoneNewer n [] = ⊤
NoneNewer n (out.List uri epoch items ∷ xs) = (epoch ≤ n) × NoneNewer n xs
NoneNewer n (x ∷ xs) = NoneNewer n xs

-- `initialize` was accepted
abbrev pub IsBegun : Phase → Type 0
IsBegun Waiting = ⊥
IsBegun Serving = ⊤
IsBegun Closing = ⊤

-- the messages of a session with this history have an answer to give next, and it is this one
abbrev pub MayAnswer : History → List Out → Out → Type 0
MayAnswer h front x = Begins (answers_in front ++ x ∷ []) h.answers

-- The reply to `shutdown` stands once, where a `shutdown` was accepted, and after the answers to all messages
-- before that.
pub record MayFarewell (h : History) (front : List Out) (id : Id) : Type 0 where
  pub shutdown : Shutdown
  pub accepted : h.shutdown ≡ Some shutdown
  pub same : id ≡ shutdown.id
  pub answered : Begins shutdown.answered (answers_in front)
  pub once : IsFalse (has_farewell front)

-- A list stands after the reply to the accepted `initialize`, never after that to `shutdown`, after no list of
-- a greater epoch, and after the answers to all messages before the edit that its epoch counts last. It
-- has the URI of a path of the project at the start or of an edit, and its items are what a fresh check finds
-- there after as many edits.
pub record MayList (language : Language) (base : Project) (h : History) (front : List Out) (uri : List ℕ) (epoch : ℕ) (items : List Placed) : Type 0 where
  pub begun : IsBegun h.session.phase
  pub greeted : IsTrue (has_greeting front)
  pub serving : IsFalse (has_farewell front)
  pub rising : NoneNewer epoch front
  pub reached : epoch ≤ length h.edits
  pub answered : Begins (answered_before h epoch) (answers_in front)
  pub path : Path
  pub known : IsTrue (is_known base h.edits path)
  pub named : uri ≡ uri_of h.session.documents.agreed path
  pub right : items ≡ list_of language h.session.documents.agreed (after base h.edits epoch) path

-- the message may stand after these
abbrev pub MayStand : Language → Project → History → List Out → Out → Type 0
MayStand language base h front (out.List uri epoch items) = MayList language base h front uri epoch items
MayStand language base h front (out.Null id) = MayFarewell h front id
MayStand language base h front (out.Initialized id encoding) = MayAnswer h front (out.Initialized id encoding)
MayStand language base h front (out.Error id code) = MayAnswer h front (out.Error id code)
MayStand language base h front (out.Log method reason) = MayAnswer h front (out.Log method reason)

-- each of the messages may stand after these and those of the list before it
abbrev pub EachMayStand : Language → Project → History → List Out → List Out → Type 0
EachMayStand language base h front [] = ⊤
EachMayStand language base h front (x ∷ xs) =
    MayStand language base h front x × EachMayStand language base h (front ++ x ∷ []) xs

-- The messages may have been written so far by a session over this project that took these messages.
abbrev pub LegalSoFar : Language → Project → List Msg → List Out → Type 0
LegalSoFar language base ms outs = EachMayStand language base (history base ms) [] outs

-- They may be all that it writes: nothing is left unanswered.
pub record Legal (language : Language) (base : Project) (ms : List Msg) (outs : List Out) : Type 0 where
  pub so_far : LegalSoFar language base ms outs
  pub answered : answers_in outs ≡ (history base ms).answers
  pub farewell : IsSome (history base ms).shutdown → IsTrue (has_farewell outs)
