-- Bytes that are no text.
use Rattle.std.specs.Prelude.{ℕ, List}
use Rattle.std.specs.Str.{IsUtf8, IsValidUpTo}
use Rattle.srb_text.specs.declared.TextFault.{TextFault}
use Rattle.srb_text.specs.declared.TextFault.TheVariants.{NotUtf8, NoMemory}

-- the refusal of bytes: `NotUtf8` with the length of the longest front that is UTF-8, exactly where the
-- bytes are not
abbrev pub IsTextFault : List ℕ → TextFault → Type 0
IsTextFault bytes (NotUtf8 at) = IsValidUpTo bytes at
IsTextFault bytes NoMemory = IsUtf8 bytes
