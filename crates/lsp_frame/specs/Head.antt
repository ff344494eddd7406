-- The head of a frame, byte by byte.
use Rattle.std.specs.Prelude.{◌==◌, ◌&&◌, nat_lt, nat_le, ℕ, ◌+◌, ◌-◌, ◌*◌, ◌^◌, ◌<◌, ◌≤◌, List, [], ◌∷◌, slice_index, if◌then◌else◌, None, Some}
use Rattle.std.specs.declared.option.Option.{Option}
use Rattle.std.specs.Char.{to_ascii_lowercase, is_ascii_digit}
use Rattle.lsp_frame.specs.Limits.{LONGEST_HEAD}
use Rattle.lsp_frame.specs.declared.head.Scan.{Scan}
use Rattle.lsp_frame.specs.declared.head.Scan.TheVariants.{Line, Name, Value, LineEnd, Before, Digits, After, HeadEnd, Done}
use Rattle.lsp_frame.specs.declared.head.Head.{Head}
use Rattle.lsp_frame.specs.declared.head.Head.TheVariants.{Unended, Broken, Gives}
use Rattle.lsp_frame.specs.Bytes.{is_name_byte, is_value_byte, is_blank, content_length}

-- how many bytes of a name match those of `content-length` in any case, after one more byte: none where one differs
abbrev pub name_matched : Option ℕ → ℕ → Option ℕ
name_matched None byte = None
name_matched (Some count) byte =
    if nat_lt count 14 && (slice_index content_length count == to_ascii_lowercase byte) then Some (count + 1) else None

-- at the start of a line a name begins, or the empty line once the length was read
abbrev pub end_step : Option ℕ → ℕ → Option Scan
end_step None byte = None
end_step (Some length) byte = if byte == 13 then Some (HeadEnd length) else None

abbrev pub line_step : Option ℕ → ℕ → Option Scan
line_step length byte = if is_name_byte byte then Some (Name (name_matched (Some 0) byte) length) else end_step length byte

-- a name ends at its `:`, and that of the length isn't read twice
abbrev pub length_step : Option ℕ → Option Scan
length_step None = Some Before
length_step (Some length) = None

abbrev pub colon_step : Option ℕ → Option ℕ → Option Scan
colon_step None length = Some (Value length)
colon_step (Some count) length = if count == 14 then length_step length else Some (Value length)

abbrev pub name_step : Option ℕ → Option ℕ → ℕ → Option Scan
name_step matched length byte =
    if is_name_byte byte then Some (Name (name_matched matched byte) length) else (if byte == 58 then colon_step matched length else None)

-- a value ends at its `\r`
abbrev pub value_step : Option ℕ → ℕ → Option Scan
value_step length byte =
    if is_value_byte byte then Some (Value length) else (if byte == 13 then Some (LineEnd length) else None)

-- after the digits of the length stand blanks
abbrev pub after_step : ℕ → ℕ → Option Scan
after_step value byte =
    if is_blank byte then Some (After value) else (if byte == 13 then Some (LineEnd (Some value)) else None)

-- and before them too
abbrev pub blank_step : ℕ → ℕ → ℕ → Option Scan
blank_step count value byte =
    if count == 0 then (if is_blank byte then Some Before else None) else after_step value byte

-- the digits are at most 19
abbrev pub digits_step : ℕ → ℕ → ℕ → Option Scan
digits_step count value byte =
    if is_ascii_digit byte then (if nat_lt count 19 then Some (Digits (count + 1) (value * 10 + (byte - 48))) else None) else blank_step count value byte

-- how far a head is read after one more byte, or `None` where no head goes on so
abbrev pub step_of : Scan → ℕ → Option Scan
step_of (Line length) byte = line_step length byte
step_of (Name matched length) byte = name_step matched length byte
step_of (Value length) byte = value_step length byte
step_of (LineEnd length) byte = if byte == 10 then Some (Line length) else None
step_of Before byte = digits_step 0 0 byte
step_of (Digits count value) byte = digits_step count value byte
step_of (After value) byte = after_step value byte
step_of (HeadEnd length) byte = if byte == 10 then Some (Done length) else None
step_of (Done length) byte = None

-- the digits read so far are at most 19, and give a number of that many digits
abbrev pub IsWithin : Scan → Type 0
IsWithin (Line length) = Unit {0}
IsWithin (Name matched length) = Unit {0}
IsWithin (Value length) = Unit {0}
IsWithin (LineEnd length) = Unit {0}
IsWithin Before = Unit {0}
IsWithin (Digits count value) = (count ≤ 19) × (value < 10 ^ count)
IsWithin (After value) = Unit {0}
IsWithin (HeadEnd length) = Unit {0}
IsWithin (Done length) = Unit {0}

-- what the bytes are that led here, of which there are `size`: a head of at most 4,096 bytes is read to its end
abbrev pub unended_at : ℕ → Head
unended_at size = if nat_le LONGEST_HEAD size then Broken size else Unended

abbrev pub head_at : ℕ → Scan → Head
head_at size (Line length) = unended_at size
head_at size (Name matched length) = unended_at size
head_at size (Value length) = unended_at size
head_at size (LineEnd length) = unended_at size
head_at size Before = unended_at size
head_at size (Digits count value) = unended_at size
head_at size (After value) = unended_at size
head_at size (HeadEnd length) = unended_at size
head_at size (Done length) = Gives length size

-- a head that is settled, or else what follows
abbrev pub settled_or : Head → Head → Head
settled_or Unended later = later
settled_or (Broken at) later = Broken at
settled_or (Gives length size) later = Gives length size

-- the head where a byte goes on, or where none does
abbrev pub go_on : Option Scan → Head → (Scan → Head) → Head
go_on None broken next = broken
go_on (Some scan) broken next = next scan

-- the head after the first `size` bytes, which led here
abbrev pub head_from : ℕ → Scan → List ℕ → Head
head_from size scan [] = head_at size scan
head_from size scan (byte ∷ rest) =
    settled_or (head_at size scan) (go_on (step_of scan byte) (Broken size) (λ next. head_from (size + 1) next rest))

-- the head at the front of the bytes
abbrev pub head_of : List ℕ → Head
head_of bytes = head_from 0 (Line None) bytes
