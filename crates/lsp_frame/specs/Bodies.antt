-- The bodies of the frames that some bytes begin with, and how these end.
use Rattle.std.specs.Prelude.{◌≡◌, ◌++◌}
use Rattle.std.specs.Prelude.{ℕ, ◌+◌, ◌-◌, ◌^◌, min, zero, suc, List, [], ◌∷◌, length, slice_range}
use Rattle.lsp_frame.specs.declared.first.First.{First}
use Rattle.lsp_frame.specs.declared.first.First.TheVariants.{More, Refused, Oversized, Frame}
use Rattle.lsp_frame.specs.First.{first_of}

-- no byte is left at a frame's start; the bytes end inside a frame, at this place; the byte at this place begins no
-- list of frames, whatever follows it; a head gives this length, past the limit
pub data Ending : Type 0 where
  Closed : Ending
  Torn : (at : ℕ) → Ending
  Malformed : (at : ℕ) → Ending
  PastLimit : (length : ℕ) → Ending

pub record Bodies : Type 0 where
  pub list : List (List ℕ)
  pub end : Ending

-- no body, and this end
abbrev pub ends : Ending → Bodies
ends end = record { list = []; end = end }

-- one more body in front
abbrev pub with_body : List ℕ → Bodies → Bodies
with_body body later = record { list = body ∷ later.list; end = later.end }

-- the place so many bytes after another: places are counted up to 2 ^ 64 - 1
abbrev pub place_after : ℕ → ℕ → ℕ
place_after at size = min (at + size) (2 ^ 64 - 1)

-- what the first frame of the bytes at this place makes of those after it
abbrev pub first_bodies : First → (at : ℕ) → (bytes : List ℕ) → (ℕ → Bodies) → Bodies
first_bodies More at bytes later = ends (Torn (place_after at (length bytes)))
first_bodies (Refused size) at bytes later = ends (Malformed (place_after at size))
first_bodies (Oversized length) at bytes later = ends (PastLimit length)
first_bodies (Frame from to) at bytes later = with_body (slice_range bytes from to) (later to)

-- the same from a place on, the first `skip` bytes from which belong to a frame that was read
abbrev pub bodies_after : (skip at : ℕ) → List ℕ → Bodies
bodies_after skip at [] = ends Closed
bodies_after (suc skip) at (byte ∷ rest) = bodies_after skip at rest
bodies_after zero at (byte ∷ rest) =
    first_bodies (first_of (byte ∷ rest)) at (byte ∷ rest) (λ to. bodies_after (to - 1) (place_after at to) rest)

-- the bodies of the bytes that stand from this place on
abbrev pub bodies_at : ℕ → List ℕ → Bodies
bodies_at at bytes = bodies_after 0 at bytes

-- the bodies of all bytes of an input
abbrev pub bodies_of : List ℕ → Bodies
bodies_of bytes = bodies_at 0 bytes

-- more bodies in front
abbrev pub with_bodies : List (List ℕ) → Bodies → Bodies
with_bodies given later = record { list = given ++ later.list; end = later.end }

-- the bytes that were read are frames of the bodies that were given, and after them the pending bytes, from this place
-- on: whatever follows, the bodies of all of it are those that were given and those from there on
abbrev pub IsReadTo : (read : List ℕ) (given : List (List ℕ)) (pending : List ℕ) (at : ℕ) → Type 0
IsReadTo read given pending at = (more : List ℕ) → bodies_of (read ++ more) ≡ with_bodies given (bodies_at at (pending ++ more))
