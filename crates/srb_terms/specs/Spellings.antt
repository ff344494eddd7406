-- Texts that lie in place where they are short.
use Rattle.std.specs.Prelude.{ℕ, ◌≡◌, ◌≤◌, ◌-◌, List, length, take, drop, replicate}
use Rattle.std.specs.Str.{IsUtf8}
use Rattle.std.specs.Arc.{arc_str_bytes}
use Rattle.srb_terms.specs.declared.spelling.Bytes.{Bytes}
use Rattle.srb_terms.specs.declared.spelling.Bytes.TheVariants.{Short, Long}

-- the bytes that are held
abbrev pub held : Bytes → List ℕ
held (Short len bytes) = take len bytes
held (Long text) = arc_str_bytes text

-- the bytes in place are as many as they say, and UTF-8; zeros fill the room
abbrev pub IsHeld : Bytes → Type 0
IsHeld (Short len bytes) = (len ≤ 14) × (∥ IsUtf8 (take len bytes) ∥₁ × ((length bytes ≡ 14) × (drop len bytes ≡ replicate (14 - len) 0)))
IsHeld (Long text) = Unit
