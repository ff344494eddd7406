-- An input whose frames are read, and what one call makes of it.
use Rattle.std.specs.Prelude.{◌≡◌, ℕ, ◌+◌, ◌<◌, List, [], ◌++◌, length, drop, slice_range, None, Some, Ok, Err, ◌⊎◌, ⊤}
use Rattle.std.specs.declared.option.Option.{Option}
use Rattle.std.specs.declared.result.Result.{Result}
use Rattle.std.specs.Io.KnownBytes.{Consumes, Keeps, IsAtEnd}
use Rattle.lsp_frame.specs.declared.first.First.TheVariants.{More, Refused, Oversized, Frame}
use Rattle.lsp_frame.specs.declared.reading.Input.{Input}
use Rattle.lsp_frame.specs.declared.reading.Input.TheVariants.{Body, End}
use Rattle.lsp_frame.specs.declared.reading.FrameEnd.{FrameEnd}
use Rattle.lsp_frame.specs.declared.reading.FrameEnd.TheVariants.{Broken, TooLong, Fault, NoMemory}
use Rattle.lsp_frame.specs.First.{first_of}
use Rattle.lsp_frame.specs.Bodies.{place_after, bodies_at, with_body, ends}
use Rattle.lsp_frame.specs.Bodies.Ending.{Closed, Torn, Malformed, PastLimit}

-- an input that is being read: the bytes that were read and that no given frame has, the place of the first of them,
-- and the refusal that each call answers from now on
pub record Stream : Type 0 where
  pub pending : List ℕ
  pub at : ℕ
  pub ended : Option FrameEnd

abbrev pub stream : List ℕ → ℕ → Option FrameEnd → Stream
stream pending at ended = record { pending = pending; at = at; ended = ended }

-- `all` is the pending bytes with those that a source gave
abbrev pub Reads : (left left' : Option (List ℕ)) → (pending all : List ℕ) → Type 0
Reads left left' pending all = (read : List ℕ) × Consumes left left' read × (all ≡ pending ++ read)

-- the bytes break at this place, whatever follows, or they end here inside a frame and nothing follows
abbrev pub Breaks : (all : List ℕ) (at place : ℕ) → Option (List ℕ) → Type 0
Breaks all at place left =
    ((size : ℕ) × (first_of all ≡ Refused size) × (place ≡ place_after at size)) ⊎ ((first_of all ≡ More) × (0 < length all) × IsAtEnd left × (place ≡ place_after at (length all)))

-- the first frame of the bytes has this body, and the stream goes on after it
abbrev pub Gives : (all : List ℕ) (at : ℕ) (new : Stream) (body : List ℕ) → Type 0
Gives all at new body =
    (from : ℕ) × (to : ℕ) × (first_of all ≡ Frame from to) × (body ≡ slice_range all from to) × (new ≡ stream (drop to all) (place_after at to) None)

-- what a call answers by the bytes that were pending and that it read, and what it leaves.
-- A fault comes only where the bytes are undecided: so no read is made for what stands there already
abbrev pub Answers : (all : List ℕ) (at : ℕ) (new : Stream) (left : Option (List ℕ)) (before now : ℕ)
    → Result Input FrameEnd → Type 0
Answers all at new left before now (Ok (Body body)) = Gives all at new body.items × (now ≡ before)
Answers all at new left before now (Ok End) = (all ≡ []) × IsAtEnd left × (new ≡ stream [] at None) × (now ≡ before)
Answers all at new left before now (Err (Broken place)) = Breaks all at place left × (new ≡ stream all at (Some (Broken place))) × (now ≡ before)
Answers all at new left before now (Err (TooLong n)) = (first_of all ≡ Oversized n) × (new ≡ stream all at (Some (TooLong n))) × (now ≡ before)
Answers all at new left before now (Err Fault) = (first_of all ≡ More) × (new ≡ stream all at (Some Fault)) × (now ≡ before + 1)
Answers all at new left before now (Err NoMemory) = (new.ended ≡ Some NoMemory) × (now ≡ before)

-- a call on a stream that nothing was refused of, with a source whose count of faults goes from `before` to `now`
abbrev pub IsNext : (old new : Stream) (left left' : Option (List ℕ)) (before now : ℕ) → Result Input FrameEnd → Type 0
IsNext old new left left' before now result =
    (all : List ℕ) × Reads left left' old.pending all × Answers all old.at new left' before now result

-- a body is given, or refused because memory ran out
abbrev pub IsTaken : (old new : Stream) (from to : ℕ) → Result Input FrameEnd → Type 0
IsTaken old new from to (Ok (Body body)) =
    (body.items ≡ slice_range old.pending from to) × (new ≡ stream (drop to old.pending) (place_after old.at to) old.ended)
IsTaken old new from to (Ok End) = ⊥
IsTaken old new from to (Err end) = (end ≡ NoMemory) × (new ≡ stream old.pending old.at (Some NoMemory))

-- one read added its bytes to the pending ones, and none only where none is left
abbrev pub Fills : (old new : Stream) (left left' : Option (List ℕ)) (before now : ℕ) → Result ℕ FrameEnd → Type 0
Fills old new left left' before now (Ok n) =
    ((read : List ℕ) × Consumes left left' read × (length read ≡ n) × (new ≡ stream (old.pending ++ read) old.at old.ended)) × (n ≡ 0 → IsAtEnd left') × (now ≡ before)
Fills old new left left' before now (Err (Broken place)) = ⊥
Fills old new left left' before now (Err (TooLong n)) = ⊥
Fills old new left left' before now (Err Fault) = Keeps left left' × (new ≡ old) × (now ≡ before + 1)
Fills old new left left' before now (Err NoMemory) = ((read : List ℕ) × Consumes left left' read) × (now ≡ before)

-- what a call answers of the bytes of a stream, those that its source has left among them, from a place on. After a
-- body the bodies go on with what is left of them
abbrev pub GivesBodies : (bytes : Option (List ℕ)) (at : ℕ) (rest : Option (List ℕ)) (at' : ℕ) → Result Input FrameEnd → Type 0
GivesBodies None at rest at' result = ⊤
GivesBodies (Some bytes) at None at' result = ⊥
GivesBodies (Some bytes) at (Some rest) at' (Ok (Body body)) = bodies_at at bytes ≡ with_body body.items (bodies_at at' rest)
GivesBodies (Some bytes) at (Some rest) at' (Ok End) = bodies_at at bytes ≡ ends Closed
GivesBodies (Some bytes) at (Some rest) at' (Err (Broken place)) = (bodies_at at bytes ≡ ends (Malformed place)) ⊎ (bodies_at at bytes ≡ ends (Torn place))
GivesBodies (Some bytes) at (Some rest) at' (Err (TooLong n)) = bodies_at at bytes ≡ ends (PastLimit n)
GivesBodies (Some bytes) at (Some rest) at' (Err Fault) = ⊤
GivesBodies (Some bytes) at (Some rest) at' (Err NoMemory) = ⊤
