-- The place of an offset is its position, where each character counts one.
use Rattle.std.proofs.Common.{◌≡◌, ℕ, zero, suc, ◌+◌, ◌-◌, ◌<◌, ◌≤◌, ◌⊎◌, ◌&&◌, ◌||◌, ◌==◌, Bool, true, false, not, nat_lt, nat_le, if◌then◌else◌, List, [], ◌∷◌, map, refl, sym, subst, ap, ap₂, ◌∙◌, inl, ⊎_elim, arith, add-zero}
use Rattle.std.specs.Str.{IsUtf8, chars}
use Rattle.std.proofs.lemmas.Bool.{lt-ltb, le-ltb, cases_lt}
use Rattle.std.proofs.lemmas.Bool.Decides.{nat_tests}
use Rattle.std.proofs.lemmas.List.{take_all}
use Rattle.std.proofs.lemmas.List.Sums.{sum_by-append, sum_by-cons}
use Rattle.std.specs.List.{sum_by, AllByRecursion}
use Rattle.std.specs.Char.{len_utf8}
use borrow.Author.Tests.{leb-true}
use lib.Utf8.{encode, encodes}
use Rattle.srb_text.specs.Lines.{Line, lines, AreLines, ends_line, with_content, with_ending, begins_with_line_feed, LINE_FEED, CARRIAGE_RETURN}
use Rattle.srb_text.specs.Positions.{fitting, line_size, byte_len, position_in, position_of, IsStart, one}
use Rattle.srb_text.specs.Units.{weight_at}
use Rattle.srb_text.specs.declared.Encoding.TheVariants.{Utf32}
use Rattle.srb_text.specs.declared.Pos.{Pos}
use Rattle.srb_text.proofs.SpellingLemmas.{Spelled, spelled, weight_following, length-encodes, lines-encodes, encoded}
use Rattle.srb_text.proofs.FittingLemmas.{fitting_whole, fitting_more}
use Rattle.srb_text.proofs.PlaceLemmas.{sum_by-one, fitting-one}
use Rattle.srb_text.proofs.LineLemmas.{AreLines-lines}
use Rattle.srb_text.proofs.TransferLemmas.{take-encodes, start_in_rest, start_in_line, view_spells}
use Rattle.srb_check.specs.declared.place.Place.{Place}
use Rattle.srb_check.specs.Characters.{continues}
use Rattle.srb_check.specs.Reports.{moved, place_after, place_of, position_at, start}

-- ---- characters, by the bytes that begin them

-- 1 for a byte that begins a character
abbrev begins : ℕ → ℕ
begins byte = if continues byte then 0 else 1

begins-following : (b : ℕ) → 128 ≤ b → b < 192 → begins b ≡ 0
begins-following b low high = grind (arith, nat_tests)

begins-more : (more : List ℕ) → AllByRecursion (λ b. (128 ≤ b) × (b < 192)) more → sum_by begins more ≡ 0
begins-more [] h = refl
begins-more (b ∷ bs) h = omega (arith, sum_by-cons begins b bs, begins-following b h.0.0 h.0.1, begins-more bs h.1)

-- a byte that counts something begins a character
abbrev count : Bool → ℕ
count follows = if follows then 0 else 1

begins-lead : (b : ℕ) → 0 < weight_at Utf32 b → begins b ≡ 1
begins-lead b h = by_test (nat_le 128 b) (nat_le b 191) refl refl
  where
    by_test : (low high : Bool) → nat_le 128 b ≡ low → nat_le b 191 ≡ high → count (low && high) ≡ 1
    by_test true true e f = absurd (omega (arith, weight_following Utf32 b (leb-true 128 b e) (omega (arith, leb-true b 191 f))))
    by_test true false e f = refl
    by_test false high e f = refl

begins-encode : (c : ℕ) → sum_by begins (encode c) ≡ 1
begins-encode c =
    let s : Spelled c = spelled c in
    ap (sum_by begins) s.bytes ∙ sum_by-cons begins s.lead s.more ∙ omega (arith, begins-lead s.lead (omega (arith, s.units Utf32)), begins-more s.more s.follow)

begins-encodes : (cs : List ℕ) → sum_by begins (encodes cs) ≡ sum_by one cs
begins-encodes [] = refl
begins-encodes (c ∷ cs) = omega (arith, sum_by-append begins (encode c) (encodes cs), begins-encode c, begins-encodes cs, sum_by-cons one c cs)

-- ---- positions in the characters are positions in the bytes

begins-before : (content : List ℕ) (at : ℕ) → IsStart content at ⊎ (byte_len content ≤ at) → sum_by begins (fitting one at (encodes content)) ≡ sum_by one (fitting len_utf8 at content)
begins-before content at h =
    ap (sum_by begins) (fitting-one at (encodes content)
    ∙ ⊎_elim (λ (s : IsStart content at). take-encodes content at s)
    (λ (b : byte_len content ≤ at). take_all at (encodes content) (omega (arith, length-encodes content, b)) ∙ ap encodes (sym (fitting_whole len_utf8 at content b)))
    h)
    ∙ begins-encodes (fitting len_utf8 at content)

size-encoded : (l : Line) → line_size one (encoded l) ≡ line_size len_utf8 l
size-encoded l =
    ap₂ (λ (x y : ℕ). x + y) (sum_by-one (encodes l.content) ∙ length-encodes l.content) (sum_by-one (encodes l.ending) ∙ length-encodes l.ending)

abbrev place_at : ℕ → ℕ → Pos
place_at line unit = record { line = line; unit = unit }

chosen : {A : Type 0} (at m n : ℕ) (p q r t : A) → m ≡ n → (at < n → p ≡ q) → (n ≤ at → r ≡ t) → (if nat_lt at m then p else r) ≡ (if nat_lt at n then q else t)
chosen at m n p q r t e before after =
    ⊎_elim (λ (lt : at < n). let yes_m : nat_lt at m ≡ true = lt-ltb at m (omega arith) in let yes_n : nat_lt at n ≡ true = lt-ltb at n lt in rw (yes_m, yes_n) (before lt))
    (λ (ge : n ≤ at). let no_m : nat_lt at m ≡ false = le-ltb at m (omega arith) in let no_n : nat_lt at n ≡ false = le-ltb at n ge in rw (no_m, no_n) (after ge))
    (cases_lt at n)

position-encodes : (ls : List Line) (text : List ℕ) (number at : ℕ) → AreLines text ls → IsStart text at → position_in one begins number at (map encoded ls) ≡ position_in len_utf8 one number at ls
position-encodes [] text number at h s = absurd h
position-encodes (l ∷ []) text number at h s = ap (place_at number) (begins-before l.content at (inl (subst (λ (v : List ℕ). IsStart v at) h.whole s)))
position-encodes (l ∷ m ∷ ls) text number at h s =
    let size = size-encoded l in
    chosen at (line_size one (encoded l)) (line_size len_utf8 l) _ _ _ _ size
    (λ lt. ap (place_at number) (begins-before l.content at (start_in_line text h.0 l at h.1 s)))
    (λ ge. ap (λ (k : ℕ). position_in one begins (number + 1) (at - k) (map encoded (m ∷ ls))) size
    ∙ position-encodes (m ∷ ls) h.0 (number + 1) (at - line_size len_utf8 l) h.2 (start_in_rest text h.0 l at h.1 ge s))

position-bytes : (text bytes : List ℕ) (at : ℕ) → encodes text ≡ bytes → IsStart text at → position_in one begins 0 at (lines bytes) ≡ position_of one text at
position-bytes text bytes at e s =
    ap (λ (v : List ℕ). position_in one begins 0 at (lines v)) (sym e)
    ∙ ap (position_in one begins 0 at) (lines-encodes text)
    ∙ position-encodes (lines text) text 0 at (AreLines-lines text) s

-- ---- the place after some bytes is the position in them

-- the position of an offset from a column of the first of the lines on
abbrev position_from : ℕ → ℕ → ℕ → List Line → Pos
position_from column number at [] = place_at number column
position_from column number at (l ∷ []) = place_at number (column + sum_by begins (fitting one at l.content))
position_from column number at (l ∷ m ∷ ls) =
    if nat_lt at (line_size one l) then place_at number (column + sum_by begins (fitting one at l.content))
    else position_in one begins (number + 1) (at - line_size one l) (m ∷ ls)

-- a text has a line
record HasLines (ls : List Line) : Type 0 where
  first : Line
  more : List Line
  are : ls ≡ first ∷ more

lines-some : (bytes : List ℕ) → HasLines (lines bytes)
lines-some [] = record { first = record { content = []; ending = [] }; more = []; are = refl }
lines-some (b ∷ bs) = by_end (ends_line b bs) (b == CARRIAGE_RETURN) (lines-some bs)
  where
    by_lines : (r : Bool) (ls : List Line) → HasLines ls → HasLines (if r then with_ending b ls else with_content b ls)
    by_lines true ls h = record { first = record { content = h.first.content; ending = b ∷ h.first.ending }; more = h.more; are = ap (with_ending b) h.are }
    by_lines false ls h = record { first = record { content = b ∷ h.first.content; ending = h.first.ending }; more = h.more; are = ap (with_content b) h.are }

    by_end : (e r : Bool) → HasLines (lines bs) → HasLines (if e then record { content = []; ending = b ∷ [] } ∷ lines bs else (if r then with_ending b (lines bs) else with_content b (lines bs)))
    by_end true r h = record { first = record { content = []; ending = b ∷ [] }; more = lines bs; are = refl }
    by_end false r h = by_lines r (lines bs) h

-- from the first column on it is the position
position_from-start : (number at : ℕ) (ls : List Line) → HasLines ls → position_from 0 number at ls ≡ position_in one begins number at ls
position_from-start number at [] h = absurd cc
position_from-start number at (l ∷ []) h = ap (place_at number) (omega arith)
position_from-start number at (l ∷ m ∷ ls) h =
    chosen at (line_size one l) (line_size one l) _ _ _ _ refl (λ lt. ap (place_at number) (omega arith)) (λ ge. refl)

-- nothing fits in no byte
fitting-none : (cs : List ℕ) → fitting one 0 cs ≡ []
fitting-none [] = refl
fitting-none (c ∷ cs) = refl

first_place : (column number : ℕ) (cs : List ℕ) → place_at number (column + sum_by begins (fitting one 0 cs)) ≡ place_at number column
first_place column number cs = ap (place_at number) (ap (λ (v : List ℕ). column + sum_by begins v) (fitting-none cs) ∙ add-zero column)

-- at a line's start no byte was passed
start_place : (column number : ℕ) (l : Line) (ls : List Line) → 0 < line_size one l → position_from column number 0 (l ∷ ls) ≡ place_at number column
start_place column number l [] h = first_place column number l.content
start_place column number l (m ∷ ls) h = rw (lt-ltb 0 (line_size one l) h) (first_place column number l.content)

chosen_next : {A : Type 0} (at m n : ℕ) (p q r t : A) → m ≡ suc n → (at < n → p ≡ q) → (n ≤ at → r ≡ t) → (if nat_lt (suc at) m then p else r) ≡ (if nat_lt at n then q else t)
chosen_next at m n p q r t e before after =
    ⊎_elim (λ (lt : at < n). let yes_m : nat_lt (suc at) m ≡ true = lt-ltb (suc at) m (omega arith) in let yes_n : nat_lt at n ≡ true = lt-ltb at n lt in rw (yes_m, yes_n) (before lt))
    (λ (ge : n ≤ at). let no_m : nat_lt (suc at) m ≡ false = le-ltb (suc at) m (omega arith) in let no_n : nat_lt at n ≡ false = le-ltb at n ge in rw (no_m, no_n) (after ge))
    (cases_lt at n)

one_more : (column at b : ℕ) (cs : List ℕ) → column + sum_by begins (fitting one (suc at) (b ∷ cs)) ≡ column + begins b + sum_by begins (fitting one at cs)
one_more column at b cs =
    let fits : fitting one (suc at) (b ∷ cs) ≡ b ∷ fitting one at cs = fitting_more one (suc at) b cs (omega arith) ∙ ap (λ (k : ℕ). b ∷ fitting one k cs) (omega arith) in
    ap (λ (v : List ℕ). column + sum_by begins v) fits ∙ omega (arith, sum_by-cons begins b (fitting one at cs))

-- a byte that is a line's end of its own
pass_end : (column number at b : ℕ) (ls : List Line) → HasLines ls → position_from column number (suc at) (record { content = []; ending = b ∷ [] } ∷ ls) ≡ position_from 0 (number + 1) at ls
pass_end column number at b [] h = absurd cc
pass_end column number at b (m ∷ ls) h =
    rw (le-ltb (suc at) 1 (omega arith))
    (ap (λ (k : ℕ). position_in one begins (number + 1) k (m ∷ ls)) (omega arith) ∙ sym (position_from-start (number + 1) at (m ∷ ls) h))

-- the first byte of an end of two
pass_return : (column number at b : ℕ) (l : Line) (ls : List Line) → l.content ≡ [] → position_from column number (suc at) (record { content = l.content; ending = b ∷ l.ending } ∷ ls) ≡ position_from column number at (l ∷ ls)
pass_return column number at b l [] h = rw h refl
pass_return column number at b l (m ∷ ls) h =
    let size : line_size one (record { content = l.content; ending = b ∷ l.ending }) ≡ suc (line_size one l) = omega (arith, sum_by-cons one b l.ending) in
    let no : (k : ℕ) → fitting one k l.content ≡ [] = λ k. ap (fitting one k) h in
    chosen_next at (line_size one (record { content = l.content; ending = b ∷ l.ending })) (line_size one l) _ _ _ _ size
    (λ lt. ap (λ (v : List ℕ). place_at number (column + sum_by begins v)) (no (suc at) ∙ sym (no at)))
    (λ ge. ap (λ (k : ℕ). position_in one begins (number + 1) k (m ∷ ls)) (omega (arith, size)))

-- a byte of a line's content
pass_content : (column number at b : ℕ) (l : Line) (ls : List Line) → position_from column number (suc at) (record { content = b ∷ l.content; ending = l.ending } ∷ ls) ≡ position_from (column + begins b) number at (l ∷ ls)
pass_content column number at b l [] = ap (place_at number) (one_more column at b l.content)
pass_content column number at b l (m ∷ ls) =
    let size : line_size one (record { content = b ∷ l.content; ending = l.ending }) ≡ suc (line_size one l) = omega (arith, sum_by-cons one b l.content) in
    chosen_next at (line_size one (record { content = b ∷ l.content; ending = l.ending })) (line_size one l) _ _ _ _ size
    (λ lt. ap (place_at number) (one_more column at b l.content))
    (λ ge. ap (λ (k : ℕ). position_in one begins (number + 1) k (m ∷ ls)) (omega (arith, size)))

same_column : (place : Place) (follows : Bool) → (if follows then place else record { line = place.line; column = place.column + 1 }) ≡ record { line = place.line; column = place.column + count follows }
same_column place true = ap (λ (k : ℕ). record { line = place.line; column = k }) (sym (add-zero place.column))
same_column place false = refl

-- where a text begins with a line feed, its first line is empty
lines-feed : (bytes : List ℕ) → begins_with_line_feed bytes ≡ true → (l : Line) × ((ls : List Line) × (lines bytes ≡ l ∷ ls) × (l.content ≡ []))
lines-feed [] h = absurd cc
lines-feed (c ∷ cs) h = by_feed (c == LINE_FEED) h
  where
    by_feed : (feed : Bool) → feed ≡ true → (l : Line) × ((ls : List Line) × ((if feed || (c == CARRIAGE_RETURN && not (begins_with_line_feed cs)) then record { content = []; ending = c ∷ [] } ∷ lines cs else (if c == CARRIAGE_RETURN then with_ending c (lines cs) else with_content c (lines cs))) ≡ l ∷ ls) × (l.content ≡ []))
    by_feed true e = (record { content = []; ending = c ∷ [] }, (lines cs, refl, refl))
    by_feed false e = absurd cc

-- a carriage return that ends no line stands before a line feed
return-feed : (c : ℕ) (rest : List ℕ) → ends_line c rest ≡ false → (c == CARRIAGE_RETURN) ≡ true → begins_with_line_feed rest ≡ true
return-feed c rest e r = by_test (c == LINE_FEED) (c == CARRIAGE_RETURN) (begins_with_line_feed rest) e r
  where
    by_test : (feed return next : Bool) → (feed || (return && not next)) ≡ false → return ≡ true → next ≡ true
    by_test feed return true e r = refl
    by_test true return false e r = absurd cc
    by_test false true false e r = absurd cc
    by_test false false false e r = absurd cc

place_after-position : (bytes : List ℕ) (place : Place) (at : ℕ) → position_at (place_after place at bytes) ≡ position_from place.column place.line at (lines bytes)
place_after-position [] place zero = sym (first_place place.column place.line [])
place_after-position [] place (suc at) = sym (first_place place.column place.line [])
place_after-position (b ∷ bs) place at = by_test (ends_line b bs) (b == CARRIAGE_RETURN) at refl refl (place_after-position bs) (lines-some bs)
  where
    passed : (e r : Bool) → ends_line b bs ≡ e → (b == CARRIAGE_RETURN) ≡ r → moved place b bs ≡ (if e then record { line = place.line + 1; column = 0 } else (if r || continues b then place else record { line = place.line; column = place.column + 1 }))
    passed e r ended return = ap (λ v. if v then record { line = place.line + 1; column = 0 } else (if b == CARRIAGE_RETURN || continues b then place else record { line = place.line; column = place.column + 1 })) ended ∙ ap (λ v. if e then record { line = place.line + 1; column = 0 } else (if v || continues b then place else record { line = place.line; column = place.column + 1 })) return

    by_test : (e r : Bool) (at : ℕ) → ends_line b bs ≡ e → (b == CARRIAGE_RETURN) ≡ r → ((p : Place) (k : ℕ) → position_at (place_after p k bs) ≡ position_from p.column p.line k (lines bs)) → HasLines (lines bs) → position_at (place_after place at (b ∷ bs)) ≡ position_from place.column place.line at (if e then record { content = []; ending = b ∷ [] } ∷ lines bs else (if r then with_ending b (lines bs) else with_content b (lines bs)))
    by_test true r zero ended return later some = sym (start_place place.column place.line (record { content = []; ending = b ∷ [] }) (lines bs) (omega arith))
    by_test true r (suc at) ended return later some =
        ap (λ p. position_at (place_after p at bs)) (passed true r ended return)
        ∙ later (record { line = place.line + 1; column = 0 }) at
        ∙ sym (pass_end place.column place.line at b (lines bs) some)
    by_test false true zero ended return later some =
        let feed = lines-feed bs (return-feed b bs ended return) in
        sym (ap (λ v. position_from place.column place.line 0 (with_ending b v)) feed.1.1
        ∙ start_place place.column place.line (record { content = feed.0.content; ending = b ∷ feed.0.ending }) feed.1.0 (omega (arith, sum_by-cons one b feed.0.ending)))
    by_test false true (suc at) ended return later some =
        let feed = lines-feed bs (return-feed b bs ended return) in
        ap (λ p. position_at (place_after p at bs)) (passed false true ended return)
        ∙ later place at
        ∙ ap (position_from place.column place.line at) feed.1.1
        ∙ sym (pass_return place.column place.line at b feed.0 feed.1.0 feed.1.2)
        ∙ ap (λ v. position_from place.column place.line (suc at) (with_ending b v)) (sym feed.1.1)
    by_test false false zero ended return later some =
        sym (ap (λ v. position_from place.column place.line 0 (with_content b v)) some.are
        ∙ start_place place.column place.line (record { content = b ∷ some.first.content; ending = some.first.ending }) some.more (omega (arith, sum_by-cons one b some.first.content)))
    by_test false false (suc at) ended return later some =
        ap (λ p. position_at (place_after p at bs)) (passed false false ended return ∙ same_column place (continues b))
        ∙ later (record { line = place.line; column = place.column + begins b }) at
        ∙ ap (position_from (place.column + begins b) place.line at) some.are
        ∙ sym (pass_content place.column place.line at b some.first some.more)
        ∙ ap (λ v. position_from place.column place.line (suc at) (with_content b v)) (sym some.are)

pub place_of-position : (bytes : List ℕ) (at : ℕ) → IsUtf8 bytes → IsStart (chars bytes) at → position_at (place_of bytes at) ≡ position_of one (chars bytes) at
place_of-position bytes at utf8 s =
    place_after-position bytes start at
    ∙ position_from-start 0 at (lines bytes) (lines-some bytes)
    ∙ position-bytes (chars bytes) bytes at (view_spells bytes (chars bytes) utf8 refl).0 s
