-- URIs. The root of a session is a URI; a file below it has the root's URI, a slash and its path with some bytes
-- escaped (RFC 3986, section 2.1).
use Rattle.std.specs.Prelude.{ℕ, ◌-◌, ◌/◌, ◌%◌, Bool, true, false, ◌&&◌, ◌||◌, ◌==◌, nat_le, List, [], ◌∷◌, ◌++◌, length, take, drop, Option, Some, None, codes, bytes_eq, if◌then◌else◌}
use Rattle.std.specs.Fmt.{digit_glyph}
use Rattle.std.specs.Str.{is_utf8}
use Rattle.percent_encoding.specs.Percent.{percent_decode}
use Rattle.lsp_docs.specs.Paths.{Path}

abbrev pub SLASH : ℕ
SLASH = 47

abbrev pub COLON : ℕ
COLON = 58

-- nothing stands in the list
abbrev pub is_empty : {A : Type 0} → List A → Bool
is_empty [] = true
is_empty (x ∷ xs) = false

-- the text without the slashes at its end
abbrev pub without_slashes : List ℕ → List ℕ
without_slashes [] = []
without_slashes (c ∷ cs) =
    if c == SLASH && is_empty (without_slashes cs) then [] else c ∷ without_slashes cs

-- what stands after the first colon without the slashes at its end, of which two that stand directly
-- after the colon stay
abbrev pub after_colon : List ℕ → List ℕ
after_colon text =
    if bytes_eq (take 2 text) (SLASH ∷ SLASH ∷ []) then SLASH ∷ SLASH ∷ without_slashes (drop 2 text)
    else without_slashes text

-- a URI without the slashes at its end, of which two that stand directly after the first colon stay
abbrev pub trimmed : List ℕ → List ℕ
trimmed [] = []
trimmed (c ∷ cs) =
    if c == COLON then COLON ∷ after_colon cs
    else (if c == SLASH && is_empty (trimmed cs) then [] else c ∷ trimmed cs)

-- the root of a session: what `initialize` named, trimmed, else `file://`
abbrev pub root_of : Option (List ℕ) → List ℕ
root_of None = codes "file://"
root_of (Some named) = trimmed named

-- an ASCII letter, a digit or one of `-._~/`
abbrev pub is_plain : ℕ → Bool
is_plain b =
    (nat_le 65 b && nat_le b 90) || (nat_le 97 b && nat_le b 122) || (nat_le 48 b && nat_le b 57)
    || b == 45 || b == 46 || b == 95 || b == 126 || b == SLASH

-- a path in a URI: each byte that isn't plain is `%` and its two upper-case hexadecimal digits
abbrev pub escaped : Path → List ℕ
escaped [] = []
escaped (b ∷ bs) =
    if is_plain b then b ∷ escaped bs else 37 ∷ digit_glyph true (b / 16) ∷ digit_glyph true (b % 16) ∷ escaped bs

-- the URI that is written for a path
abbrev pub uri_below : List ℕ → Path → List ℕ
uri_below root f = root ++ SLASH ∷ escaped f

-- the bytes end in `.rb`
abbrev pub ends_in_rb : List ℕ → Bool
ends_in_rb text = bytes_eq (drop (length text - 3) text) (codes ".rb")

-- what stands in the text after this front, if it ends in `.rb`
abbrev pub ruby_after : List ℕ → List ℕ → Option Path
ruby_after front text =
    if bytes_eq (take (length front) text) front && ends_in_rb (drop (length front) text)
    then Some (drop (length front) text) else None

-- The path that a URI names: its decoded bytes are UTF-8 and begin with the decoded root and a slash, and
-- the path, which ends in `.rb`, is the rest.
abbrev pub path_below : List ℕ → List ℕ → Option Path
path_below root uri =
    if is_utf8 (percent_decode uri) then ruby_after (percent_decode root ++ SLASH ∷ []) (percent_decode uri) else None
