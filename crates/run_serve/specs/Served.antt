-- How a session over a project ends: what was read and written of it.
use Rattle.std.specs.Prelude.{◌≡◌, ℕ, Bool, nat_lt, ◌<◌, List, [], ◌∷◌, ◌++◌, length, take, map, is_some, IsFalse}
use Rattle.std.specs.Io.KnownBytes.{IsAtEnd}
use Rattle.srb_terms.specs.declared.cause.Cause.{Cause}
use Rattle.srb_terms.specs.declared.cause.Cause.TheVariants.{Done, Errors, NoShutdown, Usage, ReadFault, WriteFault, Broken, TooLong, TooMany, TooBig, NoMemory}
use Rattle.lsp_frame.specs.Bodies.{bodies_of}
use Rattle.lsp_frame.specs.Written.{frame}
use Rattle.lsp_msg.specs.Decoded.{decoded}
use Rattle.lsp_msg.specs.Written.{body_of}
use Rattle.lsp_msg.specs.declared.msg.Msg.{Msg as Message}
use Rattle.lsp_msg.specs.declared.out.Out.{Out}
use Rattle.lsp_docs.specs.Projects.{Project}
use Rattle.run_core.specs.Histories.{history}
use Rattle.run_core.specs.Legal.{IsBegun, Legal, LegalSoFar}
use Rattle.run_core.specs.Settled.{Settled}
use Rattle.run_core.specs.Cores.{checked_language}
use Rattle.run_serve.specs.Course.{Course, NoReadFailed, NoWriteFailed, AWriteFailed, Reads, Writes}
use Rattle.run_core.specs.Inputs.{messages_of, has_exit, end_of, GoesOn}
use Rattle.run_core.specs.Frames.{written_as}
use Rattle.run_serve.specs.Causes.{cause_of}

-- whether the source failed in the call
abbrev pub has_failed : Course → Bool
has_failed c = nat_lt c.reads_before c.reads_after

-- whether a `shutdown` among these messages was accepted
abbrev pub is_shut : Project → List Message → Bool
is_shut base msgs = is_some (history base msgs).shutdown

-- A session over this project that ended by its input: the frames of a legal list of messages were written, just these, and
-- in an initialized session what was shown last of each file is what a fresh check finds there. The cause is that of the
-- end of the input. Where more bytes could have gone on and the source didn't fail, it was read to its end.
pub record ServesWhole (base : Project) (cause : Cause) (c : Course) : Type 0 where
  pub read : List ℕ
  pub outs : List Out
  pub reads : Reads c read
  pub writes : Writes c (written_as outs)
  pub legal : Legal checked_language base (messages_of read) outs
  pub settled : IsBegun (history base (messages_of read)).session.phase → Settled checked_language base (messages_of read) outs
  pub ended : cause ≡ cause_of (end_of read (has_failed c)) (is_shut base (messages_of read))
  pub to_end : IsFalse (has_exit (map decoded (bodies_of read).list)) → GoesOn (bodies_of read).end → NoReadFailed c → IsAtEnd c.left_after
  pub unfailed : NoWriteFailed c

-- A session over this project that a write fault ended: the messages are legal so far, the last of them was written in
-- part, and all others whole.
pub record ServesPart (base : Project) (c : Course) : Type 0 where
  pub read : List ℕ
  pub outs : List Out
  pub last : Out
  pub part : ℕ
  pub reads : Reads c read
  pub short : part < length (frame (body_of last))
  pub writes : Writes c (written_as outs ++ take part (frame (body_of last)))
  pub legal : LegalSoFar checked_language base (messages_of read) (outs ++ last ∷ [])
  pub failed : AWriteFailed c

-- A session over this project that ended because memory ran out: the messages that were written, all of them whole, are legal so
-- far.
pub record ServesFront (base : Project) (c : Course) : Type 0 where
  pub read : List ℕ
  pub outs : List Out
  pub reads : Reads c read
  pub writes : Writes c (written_as outs)
  pub legal : LegalSoFar checked_language base (messages_of read) outs
  pub unfailed : NoWriteFailed c

-- how a session over a project ends, cause by cause: the others never come
abbrev pub Serves : Project → Cause → Course → Type 0
Serves base Done c = ServesWhole base Done c
Serves base NoShutdown c = ServesWhole base NoShutdown c
Serves base ReadFault c = ServesWhole base ReadFault c
Serves base (Broken at) c = ServesWhole base (Broken at) c
Serves base (TooLong size) c = ServesWhole base (TooLong size) c
Serves base WriteFault c = ServesPart base c
Serves base NoMemory c = ServesFront base c
Serves base Errors c = ⊥
Serves base Usage c = ⊥
Serves base (TooMany files) c = ⊥
Serves base (TooBig path) c = ⊥
