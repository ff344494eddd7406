-- The line starts of bytes whose next line end was searched for.
use Rattle.std.proofs.Common.{◌≡◌, ℕ, zero, suc, ◌+◌, ◌<◌, ◌≤◌, Bool, true, false, ◌||◌, ◌&&◌, ◌==◌, not, if◌then◌else◌, List, [], ◌∷◌, ◌++◌, length, drop, slice_index, refl, ap, ◌∙◌, arith, add-zero, length-drop, le_refl}
use Rattle.std.proofs.lemmas.List.{drop-drop, drop_more, drop_all}
use Rattle.memchr.specs.Find.{Nowhere, Passes, is_byte2}
use Rattle.srb_text.specs.Lines.{begins_with_line_feed, ends_line}
use Rattle.srb_text.specs.LineStarts.{starts_after}

neither : (x y z : Bool) → ¬ ((x || y) ≡ true) → (x || (y && z)) ≡ false
neither true y z other = absurd (other refl)
neither false true z other = absurd (other refl)
neither false false z other = refl

-- no line ends after a byte that is neither of the two
quiet : (b : ℕ) (rest : List ℕ) → ¬ (is_byte2 10 13 b ≡ true) → ends_line b rest ≡ false
quiet b rest other = neither (b == 10) (b == 13) (not (begins_with_line_feed rest)) other

-- bytes of which none ends a line are passed over
pub skipped : (at n : ℕ) (bs rest : List ℕ) → n ≤ length bs → Nowhere (Passes (is_byte2 10 13) bs) 0 n
    → starts_after at bs rest ≡ starts_after (at + n) (drop n bs) rest
skipped at zero bs rest le none = rw add-zero
skipped at (suc n) [] rest le none = absurd (omega arith)
skipped at (suc n) (b ∷ bs) rest le none =
    let goes : ends_line b (bs ++ rest) ≡ false = quiet b (bs ++ rest) (none 0 (omega arith) (omega arith)) in
    let here : starts_after at (b ∷ bs) rest ≡ starts_after (at + 1) bs rest = rw goes in
    let same : at + 1 + n ≡ at + suc n = omega arith in
    here ∙ skipped (at + 1) n bs rest (omega arith) (λ k low high. none (suc k) (omega arith) (omega arith))
    ∙ ap (λ m. starts_after m (drop n bs) rest) same

-- where no line end is left
pub none_left : (at : ℕ) (bs rest : List ℕ) → Nowhere (Passes (is_byte2 10 13) bs) 0 (length bs) → starts_after at bs rest ≡ []
none_left at bs rest none =
    skipped at (length bs) bs rest (le_refl (length bs)) none
    ∙ ap (λ zs. starts_after (at + length bs) zs rest) (drop_all (length bs) bs (le_refl (length bs)))

parted : (e : Bool) (a : ℕ) (x : List ℕ) → (if e then a ∷ x else x) ≡ (if e then a ∷ [] else []) ++ x
parted true a x = refl
parted false a x = refl

-- up to and with the first byte that may end a line
pub past : (at i n : ℕ) (bytes rest : List ℕ) → i + n < length bytes → Nowhere (Passes (is_byte2 10 13) (drop i bytes)) 0 n
    → starts_after (at + i) (drop i bytes) rest
    ≡ (if ends_line (slice_index bytes (i + n)) (drop (i + n + 1) bytes ++ rest) then (at + (i + n) + 1) ∷ [] else [])
    ++ starts_after (at + (i + n + 1)) (drop (i + n + 1) bytes) rest
past at i n bytes rest lt none =
    let sum : at + i + n ≡ at + (i + n) = omega arith in
    let more : at + (i + n) + 1 ≡ at + (i + n + 1) = omega arith in
    let left : drop n (drop i bytes) ≡ slice_index bytes (i + n) ∷ drop (i + n + 1) bytes = drop-drop n i bytes ∙ drop_more bytes (i + n) 0 lt in
    let ends = ends_line (slice_index bytes (i + n)) (drop (i + n + 1) bytes ++ rest) in
    skipped (at + i) n (drop i bytes) rest (grind (arith, length-drop)) none
    ∙ (λ j. starts_after (sum j) (left j) rest)
    ∙ parted ends (at + (i + n) + 1) (starts_after (at + (i + n) + 1) (drop (i + n + 1) bytes) rest)
    ∙ ap (λ m. (if ends then (at + (i + n) + 1) ∷ [] else []) ++ starts_after m (drop (i + n + 1) bytes) rest) more
