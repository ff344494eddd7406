-- Places in a text by the table of line starts, where each character has the size 1.
use Rattle.std.proofs.Common.{◌≡◌, ℕ, zero, suc, ◌+◌, ◌-◌, ◌<◌, ◌≤◌, Bool, true, false, nat_le, nat_lt, ◌==◌, if◌then◌else◌, List, [], ◌∷◌, ◌++◌, length, get_or, take, drop, refl, sym, ap, ap₂, ◌∙◌, ⊎_elim, arith, append-nil, length-append}
use Rattle.std.proofs.lemmas.Bool.{le-leb, lt-leb, lt-ltb, le-ltb, cases_lt}
use Rattle.std.proofs.lemmas.List.{drop-drop, drop_at}
use Rattle.std.proofs.lemmas.List.Sums.{sum_by-cons, prefix_len-le-length}
use Rattle.std.specs.List.{sum_by, prefix_len}
use Rattle.srb_text.specs.Lines.{Line, CARRIAGE_RETURN, ends_line, lines, with_content, with_ending, IsFirstLine, AreLines}
use Rattle.srb_text.specs.LineStarts.{first_content, starts_after, line_starts}
use Rattle.srb_text.specs.Positions.{fitting, line_size, position_in, offset_in, one}
use Rattle.srb_text.specs.declared.Pos.{Pos}
use Rattle.srb_text.proofs.LineLemmas.{AreLines-lines, first_content_last, first_content_first, first_content_take}

-- where each of the lines starts, the first at `at`
abbrev pub starts_of : ℕ → List Line → List ℕ
starts_of at [] = []
starts_of at (l ∷ ls) = at ∷ starts_of (at + line_size one l) ls

pub sum_by-one : (xs : List ℕ) → sum_by one xs ≡ length xs
sum_by-one [] = refl
sum_by-one (x ∷ xs) = sum_by-cons one x xs ∙ omega (arith, sum_by-one xs)

start_step : (t s : Bool) (a b : ℕ) (ls : List Line) (starts : List ℕ) → starts_of (a + 1) ls ≡ (a + 1) ∷ starts → starts_of a (if t then record { content = []; ending = b ∷ [] } ∷ ls else (if s then with_ending b ls else with_content b ls)) ≡ a ∷ (if t then (a + 1) ∷ starts else starts)
start_step true s a b ls starts e = ap (λ (v : List ℕ). a ∷ v) e
start_step false s a b [] starts e = cc
start_step false true a b (l ∷ ls) starts e =
    let same : a + (sum_by one l.content + sum_by one (b ∷ l.ending)) ≡ a + 1 + line_size one l = omega (arith, sum_by-cons one b l.ending) in
    ap (λ (v : List ℕ). a ∷ v) (ap (λ (k : ℕ). starts_of k ls) same ∙ ap (drop 1) e)
start_step false false a b (l ∷ ls) starts e =
    let same : a + (sum_by one (b ∷ l.content) + sum_by one l.ending) ≡ a + 1 + line_size one l = omega (arith, sum_by-cons one b l.content) in
    ap (λ (v : List ℕ). a ∷ v) (ap (λ (k : ℕ). starts_of k ls) same ∙ ap (drop 1) e)

pub starts_of-lines : (a : ℕ) (text : List ℕ) → starts_of a (lines text) ≡ a ∷ starts_after a text []
starts_of-lines a [] = refl
starts_of-lines a (b ∷ bs) =
    let none : bs ++ [] ≡ bs = append-nil bs in
    rw none (start_step (ends_line b bs) (b == CARRIAGE_RETURN) a b (lines bs) (starts_after (a + 1) bs []) (starts_of-lines (a + 1) bs))

pub line_starts-lines : (text : List ℕ) → starts_of 0 (lines text) ≡ line_starts text
line_starts-lines text = starts_of-lines 0 text

-- the front by a budget at one each
pub fitting-one : (at : ℕ) (xs : List ℕ) → fitting one at xs ≡ take at xs
fitting-one zero [] = refl
fitting-one (suc n) [] = refl
fitting-one zero (x ∷ xs) = refl
fitting-one (suc n) (x ∷ xs) =
    let fits : nat_le 1 (suc n) ≡ true = le-leb 1 (suc n) (omega arith) in
    let less : suc n - 1 ≡ n = omega arith in
    rw (fits, less) (ap (λ (v : List ℕ). x ∷ v) (fitting-one n xs))

-- how a position is found: the line is the last that starts at the offset or before it
pub record Found (weight : ℕ → ℕ) (starts bytes : List ℕ) (a number at : ℕ) (p : Pos) : Type 0 where
  pub index : ℕ
  pub start : ℕ
  pub count : prefix_len (λ s. nat_le s (a + at)) starts ≡ suc index
  pub starts_at : get_or starts index 0 ≡ a + start
  pub before : start ≤ at
  pub place : p ≡ record { line = number + index; unit = sum_by weight (first_content (take (at - start) (drop start bytes))) }

-- what a line weighs up to an offset in it
units_to : (weight : ℕ → ℕ) (at : ℕ) (bytes content : List ℕ) → first_content bytes ≡ content → sum_by weight (fitting one at content) ≡ sum_by weight (first_content (take at bytes))
units_to weight at bytes content e = ap (sum_by weight) (fitting-one at content ∙ ap (take at) (sym e) ∙ sym (first_content_take at bytes))

abbrev place_at : ℕ → ℕ → Pos
place_at line unit = record { line = line; unit = unit }

-- in the first line
found_here : (weight : ℕ → ℕ) (starts bytes content : List ℕ) (a number at : ℕ) → prefix_len (λ s. nat_le s (a + at)) starts ≡ 1 → get_or starts 0 0 ≡ a → first_content bytes ≡ content → Found weight starts bytes a number at (place_at number (sum_by weight (fitting one at content)))
found_here weight starts bytes content a number at count first same =
    let none : at ≡ at - 0 = omega arith in
    record {
      index = 0;
      start = 0;
      count = count;
      starts_at = first ∙ omega arith;
      before = omega arith;
      place = ap₂ place_at (omega arith) (units_to weight at bytes content same ∙ ap (λ (k : ℕ). sum_by weight (first_content (take k bytes))) none);
    }

-- in a later line
found_later : (weight : ℕ → ℕ) (starts bytes rest : List ℕ) (a number at n : ℕ) (p : Pos) → n ≤ at → drop n bytes ≡ rest → Found weight starts rest (a + n) (number + 1) (at - n) p → Found weight (a ∷ starts) bytes a number at p
found_later weight starts bytes rest a number at n p h same f =
    let sum : a + n + (at - n) ≡ a + at = omega arith in
    let yes_first : nat_le a (a + at) ≡ true = le-leb a (a + at) (omega arith) in
    let more : prefix_len (λ s. nat_le s (a + at)) starts ≡ suc f.index = ap (λ (k : ℕ). prefix_len (λ s. nat_le s k) starts) (sym sum) ∙ f.count in
    let left : at - n - f.start ≡ at - (n + f.start) = omega arith in
    let there : drop f.start rest ≡ drop (n + f.start) bytes = ap (drop f.start) (sym same) ∙ drop-drop f.start n bytes in
    record {
      index = suc f.index;
      start = n + f.start;
      count = rw yes_first (omega (arith, more));
      starts_at = f.starts_at ∙ omega arith;
      before = omega (arith, f.before);
      place = f.place ∙ ap₂ place_at (omega arith) (ap₂ (λ (k : ℕ) (v : List ℕ). sum_by weight (first_content (take k v))) left there);
    }

rest_of : (bytes rest : List ℕ) (l : Line) → IsFirstLine bytes l rest → drop (line_size one l) bytes ≡ rest
rest_of bytes rest l h =
    let len : length (l.content ++ l.ending) ≡ line_size one l = omega (arith, length-append l.content l.ending, sum_by-one l.content, sum_by-one l.ending) in
    ap (drop (line_size one l)) h.whole ∙ drop_at (l.content ++ l.ending) rest (line_size one l) len

pub found : (weight : ℕ → ℕ) (ls : List Line) (bytes : List ℕ) (a number at : ℕ) → AreLines bytes ls → Found weight (starts_of a ls) bytes a number at (position_in one weight number at ls)
found weight [] bytes a number at h = absurd h
found weight (l ∷ []) bytes a number at h =
    let up : nat_le a (a + at) ≡ true = le-leb a (a + at) (omega arith) in
    found_here weight (a ∷ []) bytes l.content a number at (rw up) refl (first_content_last bytes l h)
found weight (l ∷ m ∷ ls) bytes a number at h =
    let up : nat_le a (a + at) ≡ true = le-leb a (a + at) (omega arith) in
    ⊎_elim
    (λ (lt : at < line_size one l).
    let before : nat_lt at (line_size one l) ≡ true = lt-ltb at (line_size one l) lt in
    let past : nat_le (a + line_size one l) (a + at) ≡ false = lt-leb (a + line_size one l) (a + at) (omega arith) in
    rw before (found_here weight (starts_of a (l ∷ m ∷ ls)) bytes l.content a number at (rw (up, past)) refl (first_content_first bytes h.0 l h.1)))
    (λ (ge : line_size one l ≤ at).
    let after : nat_lt at (line_size one l) ≡ false = le-ltb at (line_size one l) ge in
    rw after (found_later weight (starts_of (a + line_size one l) (m ∷ ls)) bytes h.0 a number at (line_size one l) _ ge (rest_of bytes h.0 l h.1)
    (found weight (m ∷ ls) h.0 (a + line_size one l) (number + 1) (at - line_size one l) h.2)))
    (cases_lt at (line_size one l))

-- how an offset is found, for a line that there is
pub record Reached (weight : ℕ → ℕ) (starts bytes : List ℕ) (a number unit offset : ℕ) : Type 0 where
  pub start : ℕ
  pub starts_at : get_or starts number 0 ≡ a + start
  pub within : start ≤ length bytes
  pub reaches : offset ≡ start + length (fitting weight unit (first_content (drop start bytes)))

reached_here : (weight : ℕ → ℕ) (starts bytes content : List ℕ) (a unit : ℕ) → get_or starts 0 0 ≡ a → first_content bytes ≡ content → Reached weight starts bytes a 0 unit (sum_by one (fitting weight unit content))
reached_here weight starts bytes content a unit first same = record {
  start = 0;
  starts_at = first ∙ omega arith;
  within = omega arith;
  reaches = sum_by-one (fitting weight unit content) ∙ ap (λ (v : List ℕ). length (fitting weight unit v)) (sym same) ∙ omega arith;
}

reached_later : (weight : ℕ → ℕ) (starts bytes rest : List ℕ) (a number unit n offset : ℕ) → n + length rest ≡ length bytes → drop n bytes ≡ rest → Reached weight starts rest (a + n) number unit offset → Reached weight (a ∷ starts) bytes a (suc number) unit (n + offset)
reached_later weight starts bytes rest a number unit n offset long same r =
    let there : drop r.start rest ≡ drop (n + r.start) bytes = ap (drop r.start) (sym same) ∙ drop-drop r.start n bytes in
    let front : length (fitting weight unit (first_content (drop r.start rest))) ≡ length (fitting weight unit (first_content (drop (n + r.start) bytes))) = ap (λ (v : List ℕ). length (fitting weight unit (first_content v))) there in
    record {
      start = n + r.start;
      starts_at = r.starts_at ∙ omega arith;
      within = omega (arith, r.within);
      reaches = omega (arith, r.reaches, front);
    }

size_of_first : (bytes rest : List ℕ) (l : Line) → IsFirstLine bytes l rest → line_size one l + length rest ≡ length bytes
size_of_first bytes rest l h = omega (arith, ap length h.whole, length-append (l.content ++ l.ending) rest, length-append l.content l.ending, sum_by-one l.content, sum_by-one l.ending)

pub reached : (weight : ℕ → ℕ) (ls : List Line) (bytes : List ℕ) (a number unit : ℕ) → AreLines bytes ls → number < length (starts_of a ls) → Reached weight (starts_of a ls) bytes a number unit (offset_in one weight number unit ls)
reached weight [] bytes a number unit h few = absurd h
reached weight (l ∷ []) bytes a zero unit h few = reached_here weight (a ∷ []) bytes l.content a unit refl (first_content_last bytes l h)
reached weight (l ∷ []) bytes a (suc number) unit h few = absurd (omega arith)
reached weight (l ∷ m ∷ ls) bytes a zero unit h few = reached_here weight (starts_of a (l ∷ m ∷ ls)) bytes l.content a unit refl (first_content_first bytes h.0 l h.1)
reached weight (l ∷ m ∷ ls) bytes a (suc number) unit h few =
    reached_later weight (starts_of (a + line_size one l) (m ∷ ls)) bytes h.0 a number unit (line_size one l) _ (size_of_first bytes h.0 l h.1) (rest_of bytes h.0 l h.1)
    (reached weight (m ∷ ls) h.0 (a + line_size one l) number unit h.2 (omega arith))

-- a line after the last is the end
pub past_last : (weight : ℕ → ℕ) (ls : List Line) (bytes : List ℕ) (a number unit : ℕ) → AreLines bytes ls → length (starts_of a ls) ≤ number → offset_in one weight number unit ls ≡ length bytes
past_last weight [] bytes a number unit h many = absurd h
past_last weight (l ∷ []) bytes a zero unit h many = absurd (omega arith)
past_last weight (l ∷ []) bytes a (suc number) unit h many =
    let end : sum_by one l.ending ≡ 0 = ap (sum_by one) h.endless in
    omega (arith, end, sum_by-one l.content, ap length h.whole)
past_last weight (l ∷ m ∷ ls) bytes a zero unit h many = absurd (omega arith)
past_last weight (l ∷ m ∷ ls) bytes a (suc number) unit h many =
    omega (arith, size_of_first bytes h.0 l h.1, past_last weight (m ∷ ls) h.0 (a + line_size one l) number unit h.2 (omega arith))

-- the same by the table itself
pub record Reaches (weight : ℕ → ℕ) (starts text : List ℕ) (number unit : ℕ) : Type 0 where
  pub within : get_or starts number 0 ≤ length text
  pub reaches : get_or starts number 0 + length (fitting weight unit (first_content (drop (get_or starts number 0) text))) ≡ offset_in one weight number unit (lines text)

reaches_at : (weight : ℕ → ℕ) (starts text : List ℕ) (number unit s : ℕ) → get_or starts number 0 ≡ s → s ≤ length text → offset_in one weight number unit (lines text) ≡ s + length (fitting weight unit (first_content (drop s text))) → Reaches weight starts text number unit
reaches_at weight starts text number unit s at within e =
    record {
      within = rw at within;
      reaches = ap (λ (k : ℕ). k + length (fitting weight unit (first_content (drop k text)))) at ∙ sym e;
    }

pub reached_in : (weight : ℕ → ℕ) (starts text : List ℕ) (number unit : ℕ) → starts ≡ line_starts text → number < length starts → Reaches weight starts text number unit
reached_in weight starts text number unit table few =
    let same : starts ≡ starts_of 0 (lines text) = table ∙ sym (line_starts-lines text) in
    let r : Reached weight (starts_of 0 (lines text)) text 0 number unit (offset_in one weight number unit (lines text)) = reached weight (lines text) text 0 number unit (AreLines-lines text) (omega (arith, ap length same)) in
    reaches_at weight starts text number unit r.start (ap (λ (v : List ℕ). get_or v number 0) same ∙ r.starts_at ∙ omega arith) r.within r.reaches

pub past_last_in : (weight : ℕ → ℕ) (starts text : List ℕ) (number unit : ℕ) → starts ≡ line_starts text → length starts ≤ number → length text ≡ offset_in one weight number unit (lines text)
past_last_in weight starts text number unit table many =
    let same : starts ≡ starts_of 0 (lines text) = table ∙ sym (line_starts-lines text) in
    sym (past_last weight (lines text) text 0 number unit (AreLines-lines text) (omega (arith, ap length same)))

pub record Finds (weight : ℕ → ℕ) (starts text : List ℕ) (at count : ℕ) : Type 0 where
  pub some : 0 < count
  pub few : count ≤ length starts
  pub before : get_or starts (count - 1) 0 ≤ at
  pub place : record { line = count - 1; unit = sum_by weight (first_content (take (at - get_or starts (count - 1) 0) (drop (get_or starts (count - 1) 0) text))) } ≡ position_in one weight 0 at (lines text)

finds_at : (weight : ℕ → ℕ) (starts text : List ℕ) (at count i s : ℕ) → count ≡ suc i → count ≤ length starts → get_or starts i 0 ≡ s → s ≤ at → position_in one weight 0 at (lines text) ≡ place_at (0 + i) (sum_by weight (first_content (take (at - s) (drop s text)))) → Finds weight starts text at count
finds_at weight starts text at count i s n few e before p =
    let less : count - 1 ≡ i = omega arith in
    let here : get_or starts (count - 1) 0 ≡ s = ap (λ (k : ℕ). get_or starts k 0) less ∙ e in
    record {
      some = omega arith;
      few = few;
      before = rw here before;
      place = ap₂ place_at (omega arith) (ap (λ (k : ℕ). sum_by weight (first_content (take (at - k) (drop k text)))) here) ∙ sym p;
    }

pub found_in : (weight : ℕ → ℕ) (starts text : List ℕ) (at count : ℕ) → starts ≡ line_starts text → count ≡ prefix_len (λ s. nat_le s at) starts → Finds weight starts text at count
found_in weight starts text at count table e =
    let same : starts ≡ starts_of 0 (lines text) = table ∙ sym (line_starts-lines text) in
    let f : Found weight (starts_of 0 (lines text)) text 0 0 at (position_in one weight 0 at (lines text)) = found weight (lines text) text 0 0 at (AreLines-lines text) in
    let none : 0 + at ≡ at = omega arith in
    let counted : prefix_len (λ s. nat_le s at) starts ≡ suc f.index = ap (prefix_len (λ s. nat_le s at)) same ∙ ap (λ (k : ℕ). prefix_len (λ s. nat_le s k) (starts_of 0 (lines text))) (sym none) ∙ f.count in
    finds_at weight starts text at count f.index f.start (e ∙ counted) (omega (arith, e, prefix_len-le-length (λ s. nat_le s at) starts))
    (ap (λ (v : List ℕ). get_or v f.index 0) same ∙ f.starts_at ∙ omega arith) f.before f.place

length_step : (t : Bool) (a n : ℕ) (x : List ℕ) → length x ≤ n → length (if t then a ∷ x else x) ≤ suc n
length_step true a n x h = omega arith
length_step false a n x h = omega arith

length-starts_after : (at : ℕ) (xs rest : List ℕ) → length (starts_after at xs rest) ≤ length xs
length-starts_after at [] rest = omega arith
length-starts_after at (x ∷ xs) rest = length_step (ends_line x (xs ++ rest)) (at + 1) (length xs) _ (length-starts_after (at + 1) xs rest)

-- no text has more lines than one for each byte, and one
pub length-line_starts : (text : List ℕ) → length (line_starts text) ≤ length text + 1
length-line_starts text = omega (arith, length-starts_after 0 text [])
