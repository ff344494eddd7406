-- The level of a text. In the longest prefix of blanks, line ends and comments the first comment decides whose text is blanks,
-- `typed:`, blanks, the word of a level, and blanks; each "blanks" may be none. Without one the level is `false`.
use Rattle.std.specs.Prelude.{ℕ, zero, suc, ◌+◌, ◌-◌, ◌<◌, ◌≤◌, not, ◌==◌, nat_eq, if◌then◌else◌, List, [], ◌∷◌, length, take, drop, slice_index, codes, bytes_eq, Option, Some, None}
use Rattle.std.specs.List.{starts_with, prefix_len}
use Rattle.std.specs.Str.{encode_utf8_all}
use Rattle.srb_terms.specs.declared.level.Level.{Level}
use Rattle.srb_terms.specs.declared.level.Level.TheVariants.{Ignore, False, True, Strict, Strong}
use Rattle.rb_lex.specs.Chars.{is_in, run_len, blank_len, line_len, after}
use Rattle.rb_lex.specs.declared.chars.Set.TheVariants as set
use Rattle.rb_lex.specs.declared.heading.Heading.{Heading}
use Rattle.rb_lex.specs.declared.heading.Heading.TheVariants.{Passed, Given, Other}

-- the level that a word names
abbrev pub level_named : List ℕ → Option Level
level_named word =
    if bytes_eq word (codes "ignore") then Some Ignore
    else (if bytes_eq word (codes "false") then Some False
    else (if bytes_eq word (codes "true") then Some True
    else (if bytes_eq word (codes "strict") then Some Strict
    else (if bytes_eq word (codes "strong") then Some Strong else None))))

abbrev pub after_blanks : List ℕ → List ℕ
after_blanks text = after (run_len set.Blank text) text

-- how many bytes stand before the first blank, or in all where there is none
abbrev pub word_len : List ℕ → ℕ
word_len text = prefix_len (λ b. not (is_in set.Blank b)) text

-- the level that a text names which holds one word and blanks around it
abbrev pub level_alone : List ℕ → Option Level
level_alone text =
    let word = after_blanks text in
    let n = word_len word in
    if length (after_blanks (drop n word)) == 0 then level_named (take n word) else None

-- the level that the text of a comment gives
unfoldable pub level_in : List ℕ → Option Level
level_in comment =
    let text = after_blanks comment in
    if starts_with nat_eq text (codes "typed:") then level_alone (after 6 text) else None

-- what goes on is at least one byte long, and not longer than the text
abbrev pub IsWithin : Heading → ℕ → Type 0
IsWithin (Passed len) n = (0 < len) × (len ≤ n)
IsWithin (Given level) n = Unit {0}
IsWithin Other n = Unit {0}

-- a comment: it gives the level, or it is passed over
abbrev pub heading_of_comment : List ℕ → Heading
heading_of_comment z =
    let len = line_len (drop 1 z) in
    elim (level_in (take len (drop 1 z))) [ Some level ↦ Given level | None ↦ Passed (len + 1) ]

-- what the text begins with: a comment, a line's end, a blank, or what ends the search
unfoldable pub heading_of : List ℕ → Heading
heading_of z =
    let b = slice_index z 0 in
    let len = blank_len z in
    if b == 35 then heading_of_comment z
    else (if b == 10 then Passed 1 else (if not (len == 0) then Passed len else Other))

-- the level of a text that goes on here; the number counts the bytes that are still passed over
abbrev pub level_from : ℕ → List ℕ → Level
level_from k [] = False
level_from (suc k) (b ∷ z) = level_from k z
level_from zero (b ∷ z) = elim (heading_of (b ∷ z)) [ Passed len ↦ level_from (len - 1) z | Given level ↦ level | Other ↦ False ]

-- the level of the bytes of a text
unfoldable pub level_of : List ℕ → Level
level_of z = level_from 0 z

-- the level of a text
abbrev pub level_of_text : List ℕ → Level
level_of_text text = level_of (encode_utf8_all text)
