-- What characters count in a line's places, over the bytes of their UTF-8.
use Rattle.std.specs.Prelude.{ℕ, nat_lt, if◌then◌else◌}
use Rattle.srb_text.specs.declared.Encoding.{Encoding}
use Rattle.srb_text.specs.declared.Encoding.TheVariants.{Utf8, Utf16, Utf32}

-- what a character of several bytes counts whose first byte this is
abbrev pub lead_weight : Encoding → ℕ → ℕ
lead_weight Utf8 b = if nat_lt b 224 then 2 else (if nat_lt b 240 then 3 else 4)
lead_weight Utf16 b = if nat_lt b 240 then 1 else 2
lead_weight Utf32 b = 1

-- what the character counts that begins with the byte, or nothing where the byte continues one
abbrev pub weight_at : Encoding → ℕ → ℕ
weight_at e b = if nat_lt b 128 then 1 else (if nat_lt b 192 then 0 else lead_weight e b)
