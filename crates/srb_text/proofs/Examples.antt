-- Places and edits of small texts, as the definitions compute them.
use Rattle.std.proofs.Common.{◌≡◌, ℕ, List, [], ◌∷◌, refl}
use Rattle.srb_text.specs.Positions.{len_utf16, weight_of, position_of, offset_of}
use Rattle.srb_text.specs.Edits.{edited}
use Rattle.srb_text.specs.declared.Encoding.TheVariants.{Utf8, Utf16, Utf32}
use Rattle.srb_text.specs.declared.Pos.{Pos}

-- `a😀b`, and its line's end
text : List ℕ
text = 97 ∷ 0x1F600 ∷ 98 ∷ 10 ∷ []

at : ℕ → ℕ → Pos
at line unit = record { line = line; unit = unit }

past_the_pair : edited len_utf16 text (at 0 3) (at 0 4) (99 ∷ []) ≡ 97 ∷ 0x1F600 ∷ 99 ∷ 10 ∷ []
unfolding text at
past_the_pair = refl

inside_the_pair : edited len_utf16 text (at 0 2) (at 0 3) [] ≡ 97 ∷ 98 ∷ 10 ∷ []
unfolding text at
inside_the_pair = refl

past_the_line_end : edited len_utf16 text (at 0 99) (at 0 99) (122 ∷ []) ≡ 97 ∷ 0x1F600 ∷ 98 ∷ 122 ∷ 10 ∷ []
unfolding text at
past_the_line_end = refl

past_the_last_line : edited len_utf16 text (at 9 0) (at 9 0) (113 ∷ []) ≡ 97 ∷ 0x1F600 ∷ 98 ∷ 10 ∷ 113 ∷ []
unfolding text at
past_the_last_line = refl

by_bytes : edited (weight_of Utf8) text (at 0 5) (at 0 6) (99 ∷ []) ≡ 97 ∷ 0x1F600 ∷ 99 ∷ 10 ∷ []
unfolding text at
by_bytes = refl

inside_the_character : edited (weight_of Utf8) text (at 0 3) (at 0 5) [] ≡ 97 ∷ 98 ∷ 10 ∷ []
unfolding text at
inside_the_character = refl

by_characters : edited (weight_of Utf32) text (at 0 2) (at 0 3) (99 ∷ []) ≡ 97 ∷ 0x1F600 ∷ 99 ∷ 10 ∷ []
unfolding text at
by_characters = refl

after_the_emoji : (position_of (weight_of Utf8) text 5 ≡ at 0 5) × (position_of (weight_of Utf16) text 5 ≡ at 0 3) × (position_of (weight_of Utf32) text 5 ≡ at 0 2)
unfolding text at
after_the_emoji = (refl, refl, refl)

later_offset : offset_of len_utf16 text (at 0 4) ≡ 6
unfolding text at
later_offset = refl

earlier_offset : offset_of len_utf16 text (at 0 1) ≡ 1
unfolding text at
earlier_offset = refl

-- `x`, a carriage return, a line feed, `y`, a carriage return, `z`
mixed : List ℕ
mixed = 120 ∷ 13 ∷ 10 ∷ 121 ∷ 13 ∷ 122 ∷ []

before_both_ends : position_of len_utf16 mixed 1 ≡ at 0 1
unfolding mixed at
before_both_ends = refl

between_both_ends : position_of len_utf16 mixed 2 ≡ at 0 1
unfolding mixed at
between_both_ends = refl

after_both_ends : position_of len_utf16 mixed 3 ≡ at 1 0
unfolding mixed at
after_both_ends = refl

after_a_lone_return : position_of len_utf16 mixed 5 ≡ at 2 0
unfolding mixed at
after_a_lone_return = refl

at_the_text_end : position_of len_utf16 mixed 6 ≡ at 2 1
unfolding mixed at
at_the_text_end = refl

of_no_text : position_of len_utf16 [] 0 ≡ at 0 0
unfolding at
of_no_text = refl

after_the_last_end : position_of len_utf16 text 7 ≡ at 1 0
unfolding text at
after_the_last_end = refl
