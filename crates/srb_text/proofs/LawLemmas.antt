-- The proofs of the laws.
use Rattle.std.proofs.Common.{◌≡◌, ℕ, zero, suc, ◌+◌, ◌-◌, ◌<◌, ◌≤◌, ◌⊎◌, Bool, true, false, nat_lt, if◌then◌else◌, List, [], ◌∷◌, ◌++◌, length, drop, refl, sym, subst, ap, ap₂, ◌∙◌, inl, inr, ⊎_elim, arith, append_assoc, append-nil}
use Rattle.std.proofs.lemmas.Bool.{lt-ltb, le-ltb, cases_lt}
use Rattle.std.proofs.lemmas.List.Sums.{sum_by-cons, sum_by-append}
use Rattle.std.specs.List.{sum_by}
use Rattle.std.specs.Char.{len_utf8}
use Rattle.srb_text.specs.Edits.{before, after, replaced}
use Rattle.srb_text.specs.Laws.{LinesAreUnique, StartsEndFronts, IsInsideLineEnd, IsWeight, EncodingsWeigh, OffsetsComeBack, PositionsRise, OffsetsRise, OffsetsAreStarts, EmptyEditsKeep, EditsHaveSizes}
use Rattle.srb_text.specs.Lines.{Line, LINE_FEED, CARRIAGE_RETURN, begins_with_line_feed, lines, IsLineEnding, IsLastLine, IsFirstLine, AreLines}
use Rattle.srb_text.specs.Positions.{fitting, line_size, byte_len, position_in, offset_in, position_of, offset_of, IsStart, IsAtMost}
use Rattle.srb_text.specs.declared.Encoding.TheVariants.{Utf8, Utf16, Utf32}
use Rattle.srb_text.specs.declared.Pos.{Pos}
use Rattle.srb_text.proofs.FittingLemmas.{fitting_more, fitting_none, fitting_split, fitting_whole, fitting-append_all, sum_by-fitting-front}
use Rattle.srb_text.proofs.LineLemmas.{AreLines-lines}
use Rattle.srb_text.proofs.SpellingLemmas.{lines-front, with_front}
use Rattle.srb_text.proofs.TransferLemmas.{offset_start, start_in_rest, start_in_line}

-- lines
lines-ending : (end rest : List ℕ) → IsLineEnding end rest → lines (end ++ rest) ≡ record { content = []; ending = end } ∷ lines rest
lines-ending end rest h =
    ⊎_elim (λ (e : end ≡ LINE_FEED ∷ []). subst (λ (v : List ℕ). lines (v ++ rest) ≡ record { content = []; ending = v } ∷ lines rest) (sym e) refl)
    (λ other. ⊎_elim (λ (e : end ≡ CARRIAGE_RETURN ∷ LINE_FEED ∷ []). subst (λ (v : List ℕ). lines (v ++ rest) ≡ record { content = []; ending = v } ∷ lines rest) (sym e) refl)
    (λ (p : (end ≡ CARRIAGE_RETURN ∷ []) × (begins_with_line_feed rest ≡ false)).
    let no = p.1 in
    subst (λ (v : List ℕ). lines (v ++ rest) ≡ record { content = []; ending = v } ∷ lines rest) (sym p.0) (rw no)) other)
    h

abbrev line_of : List ℕ → List ℕ → Line
line_of content ending = record { content = content; ending = ending }

lines-first : (text rest : List ℕ) (l : Line) → IsFirstLine text l rest → lines text ≡ l ∷ lines rest
lines-first text rest l h =
    ap lines (h.whole ∙ append_assoc l.content l.ending rest)
    ∙ lines-front l.content (l.ending ++ rest) h.plain
    ∙ ap (with_front l.content) (lines-ending l.ending rest h.ended)
    ∙ ap (λ (v : List ℕ). line_of v l.ending ∷ lines rest) (append-nil l.content)

lines-last : (text : List ℕ) (l : Line) → IsLastLine text l → lines text ≡ l ∷ []
lines-last text l h =
    ap lines (h.whole ∙ sym (append-nil l.content))
    ∙ lines-front l.content [] h.plain
    ∙ ap₂ (λ (v w : List ℕ). line_of v w ∷ []) (append-nil l.content) (sym h.endless)

lines_same : (ls : List Line) (text : List ℕ) → AreLines text ls → ls ≡ lines text
lines_same [] text h = absurd h
lines_same (l ∷ []) text h = sym (lines-last text l h)
lines_same (l ∷ m ∷ ls) text h = ap (λ (v : List Line). l ∷ v) (lines_same (m ∷ ls) h.0 h.2) ∙ sym (lines-first text h.0 l h.1)

pub lines_are_unique : LinesAreUnique
lines_are_unique = λ text ls. (lines_same ls text, λ e. subst (AreLines text) (sym e) (AreLines-lines text))

pub starts_end_fronts : StartsEndFronts
starts_end_fronts = λ text at. (
  λ h. record { front = fitting len_utf8 at text; rest = after at text; whole = sym (fitting_split len_utf8 at text); len = h },
  λ f. subst (IsStart text) f.len (subst (λ (v : List ℕ). IsStart v (byte_len f.front)) (sym f.whole) (sum_by-fitting-front len_utf8 f.front f.rest)),
)

pub offsets_are_starts : OffsetsAreStarts
offsets_are_starts = offset_start

pub empty_edits_keep : EmptyEditsKeep
empty_edits_keep = λ weight text p. ap (λ (v : List ℕ). v ++ after (offset_of weight text p) text) (append-nil (before (offset_of weight text p) text)) ∙ fitting_split len_utf8 (offset_of weight text p) text

-- more fits into more
sum_by-fitting-rises : (f w : ℕ → ℕ) (k m : ℕ) (xs : List ℕ) → k ≤ m → sum_by w (fitting f k xs) ≤ sum_by w (fitting f m xs)
sum_by-fitting-rises f w k m [] h = omega arith
sum_by-fitting-rises f w k m (x ∷ xs) h =
    ⊎_elim (λ (g : k < f x). let e : sum_by w (fitting f k (x ∷ xs)) ≡ 0 = ap (sum_by w) (fitting_none f k x xs g) in omega (arith, e))
    (λ (g : f x ≤ k).
    let e = ap (sum_by w) (fitting_more f k x xs g) ∙ sum_by-cons w x (fitting f (k - f x) xs) in
    let i = ap (sum_by w) (fitting_more f m x xs (omega arith)) ∙ sum_by-cons w x (fitting f (m - f x) xs) in
    omega (arith, e, i, sum_by-fitting-rises f w (k - f x) (m - f x) xs (omega arith)))
    (cases_lt k (f x))

-- each character counts something
some_of : (t : Bool) (m n : ℕ) → 0 < m → 0 < n → 0 < (if t then m else n)
some_of true m n h g = h
some_of false m n h g = g

pub encodings_weigh : EncodingsWeigh
encodings_weigh Utf8 c = some_of (nat_lt c 0x80) 1 _ (omega arith) (some_of (nat_lt c 0x800) 2 _ (omega arith) (some_of (nat_lt c 0x1_0000) 3 4 (omega arith) (omega arith)))
encodings_weigh Utf16 c = some_of (nat_lt c 0x1_0000) 1 2 (omega arith) (omega arith)
encodings_weigh Utf32 c = omega arith

fitting-zero : (w : ℕ → ℕ) (xs : List ℕ) → IsWeight w → fitting w 0 xs ≡ []
fitting-zero w [] h = refl
fitting-zero w (x ∷ xs) h = fitting_none w 0 x xs (h x)

-- what a front weighs is what it takes to reach its end
fitting-weight : (f w : ℕ → ℕ) (k : ℕ) (xs : List ℕ) → IsWeight w → fitting w (sum_by w (fitting f k xs)) xs ≡ fitting f k xs
fitting-weight f w k xs h =
    let front : List ℕ = fitting f k xs in
    let rest : List ℕ = drop (length (fitting f k xs)) xs in
    let none : sum_by w front - sum_by w front ≡ 0 = omega arith in
    ap (fitting w (sum_by w front)) (sym (fitting_split f k xs))
    ∙ fitting-append_all w (sum_by w front) front rest (omega arith)
    ∙ ap (λ (v : List ℕ). front ++ v) (ap (λ (n : ℕ). fitting w n rest) none ∙ fitting-zero w rest h)
    ∙ append-nil front

-- how a position leads back to its offset
record LeadsBack (weight : ℕ → ℕ) (ls : List Line) (number at : ℕ) (p : Pos) : Type 0 where
  index : ℕ
  line : p.line ≡ number + index
  back : offset_in len_utf8 weight index p.unit ls ≡ at

back_here : (weight : ℕ → ℕ) (l : Line) (ls : List Line) (number at : ℕ) → IsWeight weight → byte_len (fitting len_utf8 at l.content) ≡ at → LeadsBack weight (l ∷ ls) number at (record { line = number; unit = sum_by weight (fitting len_utf8 at l.content) })
back_here weight l ls number at w e = record {
  index = 0;
  line = omega arith;
  back = ap byte_len (fitting-weight len_utf8 weight at l.content w) ∙ e;
}

back_later : (weight : ℕ → ℕ) (l : Line) (ls : List Line) (number at : ℕ) (p : Pos) → line_size len_utf8 l ≤ at → LeadsBack weight ls (number + 1) (at - line_size len_utf8 l) p → LeadsBack weight (l ∷ ls) number at p
back_later weight l ls number at p ge b = record { index = suc b.index; line = b.line ∙ omega arith; back = omega (arith, b.back) }

inside_rest : (text rest : List ℕ) (l : Line) (at : ℕ) → IsFirstLine text l rest → line_size len_utf8 l ≤ at → IsInsideLineEnd rest (at - line_size len_utf8 l) → IsInsideLineEnd text at
inside_rest text rest l at h ge i =
    let start : List ℕ = l.content ++ l.ending in
    record {
      front = start ++ i.front;
      rest = i.rest;
      whole = h.whole ∙ ap (λ (v : List ℕ). start ++ v) i.whole ∙ sym (append_assoc start i.front (CARRIAGE_RETURN ∷ LINE_FEED ∷ i.rest));
      len = omega (arith, i.len, sum_by-append len_utf8 start i.front, sum_by-append len_utf8 l.content l.ending);
    }

-- an offset in a line's end, and not inside it, is where the end begins
at_end : (text rest : List ℕ) (l : Line) (at : ℕ) → IsFirstLine text l rest → ¬ IsInsideLineEnd text at → byte_len l.content ≤ at → at < line_size len_utf8 l → byte_len l.content ≡ at
at_end text rest l at h outside low high =
    ⊎_elim (λ (e : l.ending ≡ LINE_FEED ∷ []). omega (arith, ap byte_len e))
    (λ other. ⊎_elim (λ (e : l.ending ≡ CARRIAGE_RETURN ∷ LINE_FEED ∷ []).
    ⊎_elim (λ (past : byte_len l.content < at).
    absurd (outside (record {
      front = l.content;
      rest = rest;
      whole = h.whole ∙ append_assoc l.content l.ending rest ∙ ap (λ (v : List ℕ). l.content ++ (v ++ rest)) e;
      len = omega (arith, ap byte_len e);
    })))
    (λ (here : at ≤ byte_len l.content). omega arith)
    (cases_lt (byte_len l.content) at))
    (λ (p : (l.ending ≡ CARRIAGE_RETURN ∷ []) × (begins_with_line_feed rest ≡ false)). omega (arith, ap byte_len p.0)) other)
    h.ended

in_first_line : (text rest : List ℕ) (l : Line) (at : ℕ) → IsFirstLine text l rest → IsStart text at → ¬ IsInsideLineEnd text at → at < line_size len_utf8 l → byte_len (fitting len_utf8 at l.content) ≡ at
in_first_line text rest l at h s outside high =
    ⊎_elim (λ (i : IsStart l.content at). i)
    (λ (low : byte_len l.content ≤ at). ap byte_len (fitting_whole len_utf8 at l.content low) ∙ at_end text rest l at h outside low high)
    (start_in_line text rest l at h s)

leads_back : (weight : ℕ → ℕ) (ls : List Line) (text : List ℕ) (number at : ℕ) → IsWeight weight → AreLines text ls → IsStart text at → ¬ IsInsideLineEnd text at → LeadsBack weight ls number at (position_in len_utf8 weight number at ls)
leads_back weight [] text number at w h s outside = absurd h
leads_back weight (l ∷ []) text number at w h s outside = back_here weight l [] number at w (subst (λ (v : List ℕ). IsStart v at) h.whole s)
leads_back weight (l ∷ m ∷ ls) text number at w h s outside =
    ⊎_elim (λ (lt : at < line_size len_utf8 l).
    let here : nat_lt at (line_size len_utf8 l) ≡ true = lt-ltb at (line_size len_utf8 l) lt in
    rw here (back_here weight l (m ∷ ls) number at w (in_first_line text h.0 l at h.1 s outside lt)))
    (λ (ge : line_size len_utf8 l ≤ at).
    let later : nat_lt at (line_size len_utf8 l) ≡ false = le-ltb at (line_size len_utf8 l) ge in
    rw later (back_later weight l (m ∷ ls) number at _ ge
    (leads_back weight (m ∷ ls) h.0 (number + 1) (at - line_size len_utf8 l) w h.2 (start_in_rest text h.0 l at h.1 ge s) (λ i. outside (inside_rest text h.0 l at h.1 ge i)))))
    (cases_lt at (line_size len_utf8 l))

pub offsets_come_back : OffsetsComeBack
offsets_come_back = λ weight text at w s outside.
    let b : LeadsBack weight (lines text) 0 at (position_of weight text at) = leads_back weight (lines text) text 0 at w (AreLines-lines text) s outside in
    let same : (position_of weight text at).line ≡ b.index = b.line ∙ omega arith in
    ap (λ (n : ℕ). offset_in len_utf8 weight n (position_of weight text at).unit (lines text)) same ∙ b.back

-- positions rise
line_from : (weight : ℕ → ℕ) (ls : List Line) (number at : ℕ) → number ≤ (position_in len_utf8 weight number at ls).line
line_from weight [] number at = omega arith
line_from weight (l ∷ []) number at = omega arith
line_from weight (l ∷ m ∷ ls) number at =
    ⊎_elim (λ (lt : at < line_size len_utf8 l). let here : nat_lt at (line_size len_utf8 l) ≡ true = lt-ltb at (line_size len_utf8 l) lt in rw here (omega arith))
    (λ (ge : line_size len_utf8 l ≤ at). let later : nat_lt at (line_size len_utf8 l) ≡ false = le-ltb at (line_size len_utf8 l) ge in rw later (omega (arith, line_from weight (m ∷ ls) (number + 1) (at - line_size len_utf8 l))))
    (cases_lt at (line_size len_utf8 l))

rises : (weight : ℕ → ℕ) (ls : List Line) (number at to : ℕ) → at ≤ to → IsAtMost (position_in len_utf8 weight number at ls) (position_in len_utf8 weight number to ls)
rises weight [] number at to h = inr (refl, omega arith)
rises weight (l ∷ []) number at to h = inr (refl, sum_by-fitting-rises len_utf8 weight at to l.content h)
rises weight (l ∷ m ∷ ls) number at to h =
    ⊎_elim (λ (lt : at < line_size len_utf8 l).
    let at_here : nat_lt at (line_size len_utf8 l) ≡ true = lt-ltb at (line_size len_utf8 l) lt in
    ⊎_elim (λ (to_lt : to < line_size len_utf8 l).
    let to_here : nat_lt to (line_size len_utf8 l) ≡ true = lt-ltb to (line_size len_utf8 l) to_lt in
    rw (at_here, to_here) (inr (refl, sum_by-fitting-rises len_utf8 weight at to l.content h)))
    (λ (to_ge : line_size len_utf8 l ≤ to).
    let to_later : nat_lt to (line_size len_utf8 l) ≡ false = le-ltb to (line_size len_utf8 l) to_ge in
    rw (at_here, to_later) (inl (omega (arith, line_from weight (m ∷ ls) (number + 1) (to - line_size len_utf8 l)))))
    (cases_lt to (line_size len_utf8 l)))
    (λ (ge : line_size len_utf8 l ≤ at).
    let at_later : nat_lt at (line_size len_utf8 l) ≡ false = le-ltb at (line_size len_utf8 l) ge in
    let to_later : nat_lt to (line_size len_utf8 l) ≡ false = le-ltb to (line_size len_utf8 l) (omega arith) in
    rw (at_later, to_later) (rises weight (m ∷ ls) (number + 1) (at - line_size len_utf8 l) (to - line_size len_utf8 l) (omega arith)))
    (cases_lt at (line_size len_utf8 l))

pub positions_rise : PositionsRise
positions_rise = λ weight text at to h. rises weight (lines text) 0 at to h

-- offsets rise
fitting-le-content : (weight : ℕ → ℕ) (unit : ℕ) (l : Line) → byte_len (fitting weight unit l.content) ≤ byte_len l.content
fitting-le-content weight unit l =
    omega (arith, ap byte_len (fitting_split weight unit l.content), sum_by-append len_utf8 (fitting weight unit l.content) (drop (length (fitting weight unit l.content)) l.content))

offset_rises : (weight : ℕ → ℕ) (ls : List Line) (m n u v : ℕ) → (m < n) ⊎ ((m ≡ n) × (u ≤ v)) → offset_in len_utf8 weight m u ls ≤ offset_in len_utf8 weight n v ls
offset_rises weight [] m n u v h = omega arith
offset_rises weight (l ∷ ls) zero zero u v h =
    sum_by-fitting-rises weight len_utf8 u v l.content (⊎_elim (λ (p : 0 < 0). absurd (omega arith)) (λ (p : (0 ≡ 0) × (u ≤ v)). p.1) h)
offset_rises weight (l ∷ ls) zero (suc n) u v h = omega (arith, fitting-le-content weight u l)
offset_rises weight (l ∷ ls) (suc m) zero u v h = absurd (⊎_elim (λ (p : suc m < 0). omega arith) (λ (p : (suc m ≡ 0) × (u ≤ v)). omega (arith, p.0)) h)
offset_rises weight (l ∷ ls) (suc m) (suc n) u v h =
    let more : offset_in len_utf8 weight m u ls ≤ offset_in len_utf8 weight n v ls = offset_rises weight ls m n u v (⊎_elim (λ (p : suc m < suc n). inl (omega arith)) (λ (p : (suc m ≡ suc n) × (u ≤ v)). inr (omega (arith, p.0), p.1)) h) in
    omega (arith, more)

pub offsets_rise : OffsetsRise
offsets_rise = λ weight text p q h. offset_rises weight (lines text) p.line q.line p.unit q.unit h

-- sizes
replaced_size : (text new : List ℕ) (start end : ℕ) → IsStart text start → IsStart text end → start ≤ end → byte_len (replaced text start end new) + (end - start) ≡ byte_len text + byte_len new
replaced_size text new start end s e ordered =
    omega (
      arith,
      s,
      e,
      sum_by-append len_utf8 (before start text ++ new) (after end text),
      sum_by-append len_utf8 (before start text) new,
      ap byte_len (fitting_split len_utf8 end text),
      sum_by-append len_utf8 (before end text) (after end text),
    )

pub edits_have_sizes : EditsHaveSizes
edits_have_sizes = λ weight text from to new ordered.
    replaced_size text new (offset_of weight text from) (offset_of weight text to) (offset_start weight text from) (offset_start weight text to) ordered
