-- What a session's reader hears of the source, and which inputs it puts into the inbox.
use Rattle.std.specs.Prelude.{◌≡◌, ℕ, Bool, true, false, nat_lt, List, [], ◌∷◌, ◌++◌, map, Option, None, Some, IsFalse, ◌⊎◌}
use Rattle.std.specs.Io.KnownBytes.{Consumes, IsAtEnd}
use Rattle.lsp_frame.specs.Bodies.{bodies_of, IsReadTo}
use Rattle.lsp_frame.specs.Stream.{Stream}
use Rattle.lsp_frame.specs.declared.reading.FrameEnd.{FrameEnd}
use Rattle.lsp_frame.specs.declared.reading.FrameEnd.TheVariants as frame_end
use Rattle.lsp_msg.specs.Decoded.{decoded}
use Rattle.lsp_msg.specs.declared.msg.Msg.{Msg as Message}
use Rattle.lsp_msg.specs.declared.msg.Msg.TheVariants.{Exit}
use Rattle.run_watch.specs.declared.inp.Inp.{Inp}
use Rattle.run_watch.specs.declared.inp.Inp.TheVariants.{Msg, End}
use Rattle.run_watch.specs.declared.end_cause.EndCause.{EndCause}
use Rattle.run_watch.specs.declared.end_cause.EndCause.TheVariants as end
use Rattle.run_core.specs.Inputs.{messages_of, has_exit, end_of, GoesOn}

-- whether a message is `exit`
abbrev pub is_exit : Message → Bool
is_exit Exit = true
is_exit message = false

-- whether an input is that message
abbrev pub ends_messages : Inp → Bool
ends_messages (Msg message) = is_exit message
ends_messages (End cause) = false

-- the last of the messages is `exit`, and the others aren't; or none is
abbrev pub ExitsLast : Bool → List Message → Type 0
ExitsLast true messages = (front : List Message) × (messages ≡ front ++ Exit ∷ []) × IsFalse (has_exit front)
ExitsLast false messages = IsFalse (has_exit messages)

-- The source gave bytes, of which these messages were read, and the stream goes on after them. The last is `exit` where
-- `exited` is set, and no other one is.
pub record Heard (left_before left : Option (List ℕ)) (faults_before faults : ℕ) (stream : Stream) (exited : Bool) (messages : List Message) : Type 0 where
  pub read : List ℕ
  pub bodies : List (List ℕ)
  pub gave : Consumes left_before left read
  pub there : IsReadTo read bodies stream.pending stream.at
  pub going : stream.ended ≡ None
  pub same : messages ≡ map decoded bodies
  pub exits : ExitsLast exited messages
  pub unfailed : faults ≡ faults_before

-- The source gave bytes whose messages are these, and their end is this one. Where more bytes could have gone on, and the
-- source didn't fail, none were left.
pub record HeardAll (left_before left : Option (List ℕ)) (faults_before faults : ℕ) (messages : List Message) (cause : EndCause) : Type 0 where
  pub read : List ℕ
  pub gave : Consumes left_before left read
  pub same : messages_of read ≡ messages
  pub ended : cause ≡ end_of read (nat_lt faults_before faults)
  pub to_end : IsFalse (has_exit (map decoded (bodies_of read).list)) → GoesOn (bodies_of read).end → faults ≡ faults_before → IsAtEnd left

-- The source gave bytes whose messages begin with these.
pub record HeardFront (left_before left : Option (List ℕ)) (messages : List Message) : Type 0 where
  pub read : List ℕ
  pub more : List Message
  pub gave : Consumes left_before left read
  pub same : messages_of read ≡ messages ++ more

-- the end for which a session hears no more, where its frames end so; none because memory ran out
abbrev pub end_for : FrameEnd → Option EndCause
end_for (frame_end.Broken at) = Some (end.Broken at)
end_for (frame_end.TooLong size) = Some (end.TooLong size)
end_for frame_end.Fault = Some end.Fault
end_for frame_end.NoMemory = None

-- what the next input is to those that were heard before
abbrev pub IsHeard : (left_before left : Option (List ℕ)) (faults_before faults : ℕ) (stream : Stream) (messages : List Message) → Inp → Type 0
IsHeard left_before left faults_before faults stream messages (Msg message) =
    Heard left_before left faults_before faults stream (is_exit message) (messages ++ message ∷ [])
IsHeard left_before left faults_before faults stream messages (End cause) =
    HeardAll left_before left faults_before faults messages cause

-- the same, or the end that tells that memory ran out
abbrev pub IsGiven : (left_before left : Option (List ℕ)) (faults_before faults : ℕ) (stream : Stream) (messages : List Message) → Inp → Type 0
IsGiven left_before left faults_before faults stream messages inp =
    IsHeard left_before left faults_before faults stream messages inp ⊎ ((inp ≡ End end.NoMemory) × HeardFront left_before left messages)

-- nothing, or the end that tells that memory ran out
abbrev pub IsCut : List Inp → Type 0
IsCut ending = (ending ≡ []) ⊎ (ending ≡ End end.NoMemory ∷ [])

-- whether an input is an end
abbrev pub is_end : Inp → Bool
is_end (Msg message) = false
is_end (End cause) = true

-- how what a reader put goes on after these messages: with their end, where they are all messages of the bytes that the source gave; else
-- they are the first of these
abbrev pub EndsSo : (left_before left : Option (List ℕ)) (faults_before faults : ℕ) (messages : List Message) → List Inp → Type 0
EndsSo left_before left faults_before faults messages ending =
    ((cause : EndCause) × (ending ≡ End cause ∷ []) × HeardAll left_before left faults_before faults messages cause)
    ⊎ (IsCut ending × HeardFront left_before left messages)

-- What a reader put of the bytes that the source gave: all their messages and their end, or the first of their messages, perhaps with the
-- end that tells that memory ran out.
pub record AreSent (left_before left : Option (List ℕ)) (faults_before faults : ℕ) (sent : List Inp) : Type 0 where
  pub messages : List Message
  pub ending : List Inp
  pub put : sent ≡ map Msg messages ++ ending
  pub ends : EndsSo left_before left faults_before faults messages ending

-- What a reader heard and put before its next input.
pub record IsReading (left_before left : Option (List ℕ)) (faults_before faults : ℕ) (stream : Stream) (exited : Bool) (sent : List Inp) : Type 0 where
  pub messages : List Message
  pub heard : Heard left_before left faults_before faults stream exited messages
  pub put : sent ≡ map Msg messages
