-- The position of an offset inside a character is that of the character's start, and after a text that of its end.
use Rattle.std.proofs.Common.{◌≡◌, ℕ, ◌+◌, ◌-◌, ◌<◌, ◌≤◌, List, [], ◌∷◌, ◌++◌, length, drop, refl, sym, ap, ◌∙◌, subst, ⊎_elim, arith}
use Rattle.std.specs.Prelude.{sum_by, if◌then◌else◌}
use Rattle.std.specs.Char.{len_utf8}
use Rattle.std.specs.Str.{IsCharBoundary, encode_utf8_all}
use Rattle.std.proofs.lemmas.Bool.{cases_lt, lt-ltb, le-ltb}
use Rattle.std.proofs.lemmas.List.{append_assoc}
use Rattle.std.proofs.lemmas.List.Sums.{sum_by-append, sum_by-cons}
use Rattle.srb_text.specs.Lines.{Line, lines, AreLines, IsFirstLine}
use Rattle.srb_text.specs.Laws.{StartsAreBoundaries}
use Rattle.srb_text.specs.Positions.{fitting, line_size, position_in, position_of, byte_len, IsStart}
use Rattle.srb_text.specs.declared.Pos.{Pos}
use Rattle.srb_text.proofs.LineLemmas.{AreLines-lines}
use Rattle.srb_text.proofs.FittingLemmas.{fitting_more, fitting_none, sum_by-fitting-le, fitting_split, fitting-append_all, fitting-append_some, fitting_whole, sum_by-fitting-front}

-- what fits into what fits is the same
fitting_again : (f : ℕ → ℕ) (k : ℕ) (cs : List ℕ) → fitting f (sum_by f (fitting f k cs)) cs ≡ fitting f k cs
fitting_again f k [] = refl
fitting_again f k (c ∷ cs) =
    ⊎_elim
    (λ (lt : k < f c).
    let none = fitting_none f k c cs lt in
    ap (λ l. fitting f (sum_by f l) (c ∷ cs)) none ∙ fitting_none f 0 c cs (omega (arith, lt)) ∙ sym none)
    (λ (le : f c ≤ k).
    let more = fitting_more f k c cs le in
    let sum : sum_by f (fitting f k (c ∷ cs)) ≡ f c + sum_by f (fitting f (k - f c) cs) = ap (sum_by f) more ∙ sum_by-cons f c (fitting f (k - f c) cs) in
    let left : (f c + sum_by f (fitting f (k - f c) cs)) - f c ≡ sum_by f (fitting f (k - f c) cs) = omega arith in
    ap (λ n. fitting f n (c ∷ cs)) sum
    ∙ fitting_more f (f c + sum_by f (fitting f (k - f c) cs)) c cs (omega arith)
    ∙ ap (λ l. c ∷ l) (ap (λ n. fitting f n cs) left ∙ fitting_again f (k - f c) cs) ∙ sym more)
    (cases_lt k (f c))

-- more room takes no less
fitting_rises : (f : ℕ → ℕ) (j k : ℕ) (cs : List ℕ) → j ≤ k → sum_by f (fitting f j cs) ≤ sum_by f (fitting f k cs)
fitting_rises f j k [] le = omega arith
fitting_rises f j k (c ∷ cs) le =
    ⊎_elim
    (λ (lt : j < f c). omega (arith, ap (sum_by f) (fitting_none f j c cs lt)))
    (λ (ge : f c ≤ j).
    let rest = fitting_rises f (j - f c) (k - f c) cs (omega (arith, le)) in
    let a = ap (sum_by f) (fitting_more f j c cs ge) ∙ sum_by-cons f c (fitting f (j - f c) cs) in
    let b = ap (sum_by f) (fitting_more f k c cs (omega (arith, ge, le))) ∙ sum_by-cons f c (fitting f (k - f c) cs) in
    omega (arith, rest, a, b))
    (cases_lt j (f c))

-- the bytes of what fits before an offset
abbrev pub floor_of : List ℕ → ℕ → ℕ
floor_of text at = byte_len (fitting len_utf8 at text)

-- in the content of a line, after which more follows
content_again : (content rest : List ℕ) (at : ℕ) → fitting len_utf8 (floor_of (content ++ rest) at) content ≡ fitting len_utf8 at content
content_again content rest at =
    ⊎_elim
    (λ (lt : at < byte_len content).
    ap (λ l. fitting len_utf8 (byte_len l) content) (fitting-append_some len_utf8 at content rest lt) ∙ fitting_again len_utf8 at content)
    (λ (le : byte_len content ≤ at).
    let all = ap byte_len (fitting-append_all len_utf8 at content rest le) ∙ sum_by-append len_utf8 content (fitting len_utf8 (at - byte_len content) rest) in
    fitting_whole len_utf8 (floor_of (content ++ rest) at) content (omega (arith, all)) ∙ sym (fitting_whole len_utf8 at content le))
    (cases_lt at (byte_len content))

-- after a whole line
floor_after : (line rest : List ℕ) (at : ℕ) → byte_len line ≤ at → floor_of (line ++ rest) at ≡ byte_len line + floor_of rest (at - byte_len line)
floor_after line rest at le =
    ap byte_len (fitting-append_all len_utf8 at line rest le) ∙ sum_by-append len_utf8 line (fitting len_utf8 (at - byte_len line) rest)

first_parts : (text rest : List ℕ) (l : Line) → IsFirstLine text l rest → text ≡ (l.content ++ l.ending) ++ rest
first_parts text rest l first = first.whole

line_bytes : (l : Line) → byte_len (l.content ++ l.ending) ≡ line_size len_utf8 l
line_bytes l = sum_by-append len_utf8 l.content l.ending

abbrev place_of : ℕ → ℕ → Pos
place_of line unit = record { line = line; unit = unit }

position_again : (weight : ℕ → ℕ) (ls : List Line) (text : List ℕ) (n at : ℕ) → AreLines text ls
    → position_in len_utf8 weight n (floor_of text at) ls ≡ position_in len_utf8 weight n at ls
position_again weight [] text n at are = refl
position_again weight (l ∷ []) text n at are =
    let again = ap (λ t. fitting len_utf8 (floor_of t at) l.content) are.whole ∙ fitting_again len_utf8 at l.content in
    ap (λ (cs : List ℕ). place_of n (sum_by weight cs)) again
position_again weight (l ∷ m ∷ ls) text n at are =
    let rest = are.0 in
    let parts = first_parts text rest l are.1 in
    let size = line_bytes l in
    let floor = ap (λ t. floor_of t at) parts in
    ⊎_elim
    (λ (lt : at < line_size len_utf8 l).
    let low : floor_of text at < line_size len_utf8 l = omega (arith, lt, sum_by-fitting-le len_utf8 at text) in
    let again = ap (λ t. fitting len_utf8 (floor_of t at) l.content) (are.1.whole ∙ append_assoc l.content l.ending rest) ∙ content_again l.content (l.ending ++ rest) at in
    ap (λ b. if b then place_of n (sum_by weight (fitting len_utf8 (floor_of text at) l.content)) else position_in len_utf8 weight (n + 1) (floor_of text at - line_size len_utf8 l) (m ∷ ls)) (lt-ltb _ _ low)
    ∙ ap (λ (cs : List ℕ). place_of n (sum_by weight cs)) again
    ∙ sym (ap (λ b. if b then place_of n (sum_by weight (fitting len_utf8 at l.content)) else position_in len_utf8 weight (n + 1) (at - line_size len_utf8 l) (m ∷ ls)) (lt-ltb _ _ lt)))
    (λ (le : line_size len_utf8 l ≤ at).
    let after = floor_after (l.content ++ l.ending) rest at (omega (arith, size, le)) in
    let same : floor_of text at - line_size len_utf8 l ≡ floor_of rest (at - line_size len_utf8 l) =
    ap (λ k. floor_of text at - k) (sym size) ∙ ap (λ k. k - byte_len (l.content ++ l.ending)) (floor ∙ after) ∙ omega arith ∙ ap (λ k. floor_of rest (at - k)) size in
    let high : line_size len_utf8 l ≤ floor_of text at = omega (arith, floor, after, size) in
    ap (λ b. if b then place_of n (sum_by weight (fitting len_utf8 (floor_of text at) l.content)) else position_in len_utf8 weight (n + 1) (floor_of text at - line_size len_utf8 l) (m ∷ ls)) (le-ltb _ _ high)
    ∙ ap (λ k. position_in len_utf8 weight (n + 1) k (m ∷ ls)) same
    ∙ position_again weight (m ∷ ls) rest (n + 1) (at - line_size len_utf8 l) are.2
    ∙ sym (ap (λ b. if b then place_of n (sum_by weight (fitting len_utf8 at l.content)) else position_in len_utf8 weight (n + 1) (at - line_size len_utf8 l) (m ∷ ls)) (le-ltb _ _ le)))
    (cases_lt at (line_size len_utf8 l))

-- the place that is found where the cut is made is a start, and the last one
floor_is_start : (text : List ℕ) (at : ℕ) → IsStart text (floor_of text at)
floor_is_start text at =
    let front = fitting len_utf8 at text in
    ap (λ t. byte_len (fitting len_utf8 (byte_len front) t)) (sym (fitting_split len_utf8 at text)) ∙ sum_by-fitting-front len_utf8 front (drop (length front) text)

floor_found : (text bytes : List ℕ) (at start : ℕ) → StartsAreBoundaries → bytes ≡ encode_utf8_all text → start ≤ at → IsCharBoundary bytes start
    → ((i : ℕ) → start < i → i ≤ at → ¬ (IsCharBoundary bytes i)) → start ≡ floor_of text at
floor_found text bytes at start law spells bound boundary nearest =
    let cut = subst (λ b. IsCharBoundary b start) spells boundary in
    let is_start : floor_of text start ≡ start = (law text start).1 cut in
    let low : floor_of text start ≤ floor_of text at = fitting_rises len_utf8 start at text bound in
    let most : floor_of text at ≤ at = sum_by-fitting-le len_utf8 at text in
    let floor_cut : IsCharBoundary bytes (floor_of text at) = subst (λ b. IsCharBoundary b (floor_of text at)) (sym spells) ((law text (floor_of text at)).0 (floor_is_start text at)) in
    ⊎_elim
    (λ (lt : start < floor_of text at). absurd (nearest (floor_of text at) lt most floor_cut))
    (λ (le : floor_of text at ≤ start). omega (arith, is_start, low, le))
    (cases_lt start (floor_of text at))

pub position_found : (weight : ℕ → ℕ) (text bytes : List ℕ) (at start : ℕ) → StartsAreBoundaries → bytes ≡ encode_utf8_all text → start ≤ at → IsCharBoundary bytes start
    → ((i : ℕ) → start < i → i ≤ at → ¬ (IsCharBoundary bytes i)) → position_of weight text start ≡ position_of weight text at
position_found weight text bytes at start law spells bound boundary nearest =
    ap (position_of weight text) (floor_found text bytes at start law spells bound boundary nearest)
    ∙ position_again weight (lines text) text 0 at (AreLines-lines text)
