-- What a session takes of the bytes that it reads: messages, and then an end.
use Rattle.std.specs.Prelude.{ℕ, Bool, true, false, List, [], ◌∷◌, ◌++◌, map, if◌then◌else◌, ⊤}
use Rattle.lsp_frame.specs.Bodies.{bodies_of, Ending}
use Rattle.lsp_frame.specs.Bodies.Ending.{Closed, Torn, Malformed, PastLimit}
use Rattle.lsp_msg.specs.Decoded.{decoded}
use Rattle.lsp_msg.specs.declared.msg.Msg.{Msg as Message}
use Rattle.lsp_msg.specs.declared.msg.Msg.TheVariants.{Exit}
use Rattle.run_watch.specs.declared.inp.Inp.{Inp}
use Rattle.run_watch.specs.declared.inp.Inp.TheVariants.{Msg, End}
use Rattle.run_watch.specs.declared.end_cause.EndCause.{EndCause}
use Rattle.run_watch.specs.declared.end_cause.EndCause.TheVariants as end

-- the messages up to and with the first `exit`
abbrev pub up_to_exit : List Message → List Message
up_to_exit [] = []
up_to_exit (Exit ∷ messages) = Exit ∷ []
up_to_exit (message ∷ messages) = message ∷ up_to_exit messages

-- some message is `exit`
abbrev pub has_exit : List Message → Bool
has_exit [] = false
has_exit (Exit ∷ messages) = true
has_exit (message ∷ messages) = has_exit messages

-- the messages of a session that reads these bytes
abbrev pub messages_of : List ℕ → List Message
messages_of read = up_to_exit (map decoded (bodies_of read).list)

-- more bytes could go on where the bytes end so
abbrev pub GoesOn : Ending → Type 0
GoesOn Closed = ⊤
GoesOn (Torn at) = ⊤
GoesOn (Malformed at) = ⊥
GoesOn (PastLimit size) = ⊥

-- the end after frames that end so: a break or a length past the limit that no byte after it could mend, else the fault
-- of the source where it failed, else a break inside a frame or the end of input
abbrev pub end_after : Ending → Bool → EndCause
end_after (Malformed at) failed = end.Broken at
end_after (PastLimit size) failed = end.TooLong size
end_after (Torn at) failed = if failed then end.Fault else end.Broken at
end_after Closed failed = if failed then end.Fault else end.Closed

-- the end of a session that reads these bytes, from a source that failed or not: `exit` if there is one
abbrev pub end_of : List ℕ → Bool → EndCause
end_of read failed =
    if has_exit (map decoded (bodies_of read).list) then end.Exit else end_after (bodies_of read).end failed

-- the inputs of a session that reads these bytes, from a source that failed or not: its messages, and then its end
abbrev pub inputs_of : List ℕ → Bool → List Inp
inputs_of read failed = map Msg (messages_of read) ++ End (end_of read failed) ∷ []
