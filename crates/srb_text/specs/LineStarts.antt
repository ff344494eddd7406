-- The table of the places at which a text's lines start, over the text's bytes.
use Rattle.std.specs.Prelude.{ℕ, ◌+◌, List, [], ◌∷◌, ◌++◌, if◌then◌else◌}
use Rattle.srb_text.specs.Lines.{ends_line, is_line_end}

-- where lines start after the bytes, which begin at `at` and before `rest`
abbrev pub starts_after : ℕ → List ℕ → List ℕ → List ℕ
starts_after at [] rest = []
starts_after at (b ∷ bs) rest =
    if ends_line b (bs ++ rest) then (at + 1) ∷ starts_after (at + 1) bs rest
    else starts_after (at + 1) bs rest

-- where each line of the text starts
abbrev pub line_starts : List ℕ → List ℕ
line_starts bytes = 0 ∷ starts_after 0 bytes []

-- the bytes of the first line, without its end
abbrev pub first_content : List ℕ → List ℕ
first_content [] = []
first_content (b ∷ bs) = if is_line_end b then [] else b ∷ first_content bs
