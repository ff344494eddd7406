-- The grammar of heads and frames.
use Rattle.std.specs.Prelude.{◌≡◌, ℕ, ◌+◌, ◌-◌, ◌*◌, ◌<◌, ◌≤◌, Bool, true, List, [], ◌∷◌, ◌++◌, length, map, take, ⊤, ◌⊎◌}
use Rattle.std.specs.List.{concat}
use Rattle.std.specs.Char.{to_ascii_lowercase, is_ascii_digit}
use Rattle.lsp_frame.specs.Limits.{LONGEST_HEAD, LONGEST_BODY}
use Rattle.lsp_frame.specs.declared.head.Head.{Head}
use Rattle.lsp_frame.specs.declared.head.Head.TheVariants.{Unended, Broken, Gives}
use Rattle.lsp_frame.specs.Bodies.{Bodies, Ending, place_after}
use Rattle.lsp_frame.specs.Bodies.Ending.{Closed, Torn, Malformed, PastLimit}
use Rattle.lsp_frame.specs.Bytes.{is_name_byte, is_value_byte, is_blank, content_length}

-- each byte passes the test
abbrev pub Each : (ℕ → Bool) → List ℕ → Type 0
Each test [] = ⊤
Each test (byte ∷ rest) = (test byte ≡ true) × Each test rest

-- a name has a byte, and each is a letter, a digit or `-`
pub record IsName (name : List ℕ) : Type 0 where
  pub some : 0 < length name
  pub bytes : Each is_name_byte name

-- a name is `Content-Length`, in any case
abbrev pub IsLengthName : List ℕ → Type 0
IsLengthName name = map to_ascii_lowercase name ≡ content_length

-- a line that doesn't give the length: a name, `:`, bytes 32 to 126 or tab, and `\r\n`
pub record IsOtherLine (line : List ℕ) : Type 0 where
  pub name : List ℕ
  pub value : List ℕ
  pub is : line ≡ name ++ (58 ∷ (value ++ (13 ∷ 10 ∷ [])))
  pub named : IsName name
  pub other : IsLengthName name → ⊥
  pub bytes : Each is_value_byte value

-- the number that decimal digits represent, after the number that those before them represent
abbrev pub number_after : ℕ → List ℕ → ℕ
number_after value [] = value
number_after value (digit ∷ rest) = number_after (value * 10 + (digit - 48)) rest

-- a line that gives the length: `Content-Length`, `:`, 1 to 19 digits with spaces or tabs around them, and `\r\n`
pub record IsLengthLine (line : List ℕ) (n : ℕ) : Type 0 where
  pub name : List ℕ
  pub front : List ℕ
  pub digits : List ℕ
  pub back : List ℕ
  pub is : line ≡ name ++ (58 ∷ (front ++ (digits ++ (back ++ (13 ∷ 10 ∷ [])))))
  pub named : IsName name
  pub the_length : IsLengthName name
  pub blank_front : Each is_blank front
  pub some : 0 < length digits
  pub few : length digits ≤ 19
  pub decimal : Each is_ascii_digit digits
  pub blank_back : Each is_blank back
  pub number : n ≡ number_after 0 digits

abbrev pub EachOther : List (List ℕ) → Type 0
EachOther [] = ⊤
EachOther (line ∷ lines) = IsOtherLine line × EachOther lines

-- lines that don't give the length, one after the other
abbrev pub OtherLines : List ℕ → Type 0
OtherLines bytes = (lines : List (List ℕ)) × EachOther lines × (bytes ≡ concat lines)

-- lines of which just one gives the length
abbrev pub LengthLines : List ℕ → ℕ → Type 0
LengthLines bytes n =
    (before : List ℕ) × (line : List ℕ) × (later : List ℕ) × OtherLines before × IsLengthLine line n × OtherLines later × (bytes ≡ before ++ (line ++ later))

-- a head that gives the length n: lines of which just one gives it, and the empty line
abbrev pub IsHead : List ℕ → ℕ → Type 0
IsHead bytes n = (lines : List ℕ) × LengthLines lines n × (bytes ≡ lines ++ (13 ∷ 10 ∷ []))

-- some head begins with the bytes
abbrev pub BeginsHead : List ℕ → Type 0
BeginsHead bytes = (rest : List ℕ) × (n : ℕ) × IsHead (bytes ++ rest) n

abbrev pub IsNoHead : List ℕ → Type 0
IsNoHead bytes = (n : ℕ) → IsHead bytes n → ⊥

-- the bytes begin a head and aren't one yet
abbrev pub IsUnended : List ℕ → Type 0
IsUnended bytes = BeginsHead bytes × IsNoHead bytes

-- the first `at` bytes begin a head and aren't one, and no head begins with one byte more, or they are already 4,096
abbrev pub BreaksAt : List ℕ → ℕ → Type 0
BreaksAt bytes at =
    IsUnended (take at bytes) × (at ≤ length bytes) × ((at ≡ LONGEST_HEAD) ⊎ ((at < LONGEST_HEAD) × (at < length bytes) × (BeginsHead (take (at + 1) bytes) → ⊥)))

-- what is said of the front of some bytes: fewer than 4,096 that begin a head and aren't one; a break; or a head
abbrev pub HeadSays : List ℕ → Head → Type 0
HeadSays bytes Unended = IsUnended bytes × (length bytes < LONGEST_HEAD)
HeadSays bytes (Broken at) = BreaksAt bytes at
HeadSays bytes (Gives n size) = IsHead (take size bytes) n × (size ≤ length bytes) × (size ≤ LONGEST_HEAD)

-- a frame: a head of at most 4,096 bytes, and a body of the length that it gives, at most 16,777,216 bytes
pub record IsFrame (frame body : List ℕ) : Type 0 where
  pub head : List ℕ
  pub is_head : IsHead head (length body)
  pub is : frame ≡ head ++ body
  pub short : length head ≤ LONGEST_HEAD
  pub within : length body ≤ LONGEST_BODY

-- frames of these bodies, one after the other
abbrev pub IsFrames : List ℕ → List (List ℕ) → Type 0
IsFrames bytes [] = bytes ≡ []
IsFrames bytes (body ∷ bodies) = (frame : List ℕ) × (later : List ℕ) × IsFrame frame body × IsFrames later bodies × (bytes ≡ frame ++ later)

-- a head, and a body of which bytes are missing
pub record IsBodyShort (bytes : List ℕ) : Type 0 where
  pub head : List ℕ
  pub part : List ℕ
  pub wanted : ℕ
  pub is_head : IsHead head wanted
  pub is : bytes ≡ head ++ part
  pub short : length part < wanted
  pub within : wanted ≤ LONGEST_BODY

-- a head that gives a length past the limit, and what follows
pub record IsPastLimit (bytes : List ℕ) (n : ℕ) : Type 0 where
  pub head : List ℕ
  pub later : List ℕ
  pub is_head : IsHead head n
  pub is : bytes ≡ head ++ later
  pub short : length head ≤ LONGEST_HEAD
  pub past : LONGEST_BODY < n

-- how the bytes after the last frame, which stand at this place, end
abbrev pub EndSays : (rest : List ℕ) (at : ℕ) → Ending → Type 0
EndSays rest at Closed = rest ≡ []
EndSays rest at (Torn place) = (0 < length rest) × (place ≡ place_after at (length rest)) × ((IsUnended rest × (length rest < LONGEST_HEAD)) ⊎ IsBodyShort rest)
EndSays rest at (Malformed place) = (size : ℕ) × (place ≡ place_after at size) × BreaksAt rest size
EndSays rest at (PastLimit n) = IsPastLimit rest n

-- the bytes from this place on are frames of these bodies, and after them stands the end
abbrev pub BodiesSay : (bytes : List ℕ) (at : ℕ) → Bodies → Type 0
BodiesSay bytes at bodies =
    (front : List ℕ) × (rest : List ℕ) × (bytes ≡ front ++ rest) × IsFrames front bodies.list × EndSays rest (place_after at (length front)) bodies.end

-- a head of any size, and a body of the length that it gives
abbrev pub IsAnyFrame : List ℕ → List ℕ → Type 0
IsAnyFrame frame body = (head : List ℕ) × IsHead head (length body) × (frame ≡ head ++ body)

-- a list of frames of any sizes, with these bodies
abbrev pub AreFrames : List ℕ → List (List ℕ) → Type 0
AreFrames bytes [] = bytes ≡ []
AreFrames bytes (body ∷ bodies) = (frame : List ℕ) × (later : List ℕ) × IsAnyFrame frame body × AreFrames later bodies × (bytes ≡ frame ++ later)

-- some list of frames begins with the bytes
abbrev pub BeginsFrames : List ℕ → Type 0
BeginsFrames bytes = (rest : List ℕ) × (bodies : List (List ℕ)) × AreFrames (bytes ++ rest) bodies

-- the first `size` bytes after some frames go on to a list of frames, and with one byte more they don't, unless a head
-- has come to its limit
abbrev pub IsLeastBreak : (front rest : List ℕ) (size : ℕ) → Type 0
IsLeastBreak front rest size =
    BeginsFrames (front ++ take size rest) × ((size ≡ LONGEST_HEAD) ⊎ (BeginsFrames (front ++ take (size + 1) rest) → ⊥))
