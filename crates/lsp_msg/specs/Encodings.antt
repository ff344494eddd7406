-- Position encodings by their names (LSP 3.17, "PositionEncodingKind").
use Rattle.std.specs.Prelude.{ℕ, List, [], ◌∷◌, codes, bytes_eq, Option, Some, None, unwrap_or, if◌then◌else◌}
use Rattle.srb_text.specs.declared.Encoding.{Encoding}
use Rattle.srb_text.specs.declared.Encoding.TheVariants.{Utf8, Utf16, Utf32}

-- the name of an encoding
abbrev pub encoding_name : Encoding → List ℕ
encoding_name Utf8 = codes "utf-8"
encoding_name Utf16 = codes "utf-16"
encoding_name Utf32 = codes "utf-32"

-- the encoding of a name
abbrev pub encoding_named : List ℕ → Option Encoding
encoding_named name =
    if bytes_eq name (encoding_name Utf8) then Some Utf8
    else (if bytes_eq name (encoding_name Utf16) then Some Utf16
    else (if bytes_eq name (encoding_name Utf32) then Some Utf32 else None))

-- the encoding that is taken where a client lists these names: that of the first name which is of one, and
-- UTF-16 where there is none
abbrev pub chosen : List (List ℕ) → Encoding
chosen [] = Utf16
chosen (name ∷ names) = unwrap_or (encoding_named name) (chosen names)
