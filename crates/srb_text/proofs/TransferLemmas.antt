-- Places in a text's characters are the places in its bytes.
use Rattle.std.proofs.Common.{◌≡◌, ℕ, zero, suc, ◌+◌, ◌-◌, ◌<◌, ◌≤◌, ◌⊎◌, true, false, nat_lt, if◌then◌else◌, List, [], ◌∷◌, ◌++◌, map, length, take, drop, refl, sym, subst, ap, ap₂, ◌∙◌, inl, inr, ⊎_elim, arith, append_assoc, length-append, append-nil}
use Rattle.std.proofs.lemmas.Str.{encodes-append, chars-encodes, encodes-chars, scalars-chars, IsCharBoundary-from_drop}
use Rattle.std.specs.Str.{IsUtf8, chars, all_scalars}
use Rattle.std.proofs.lemmas.Bool.{and_parts, and_from}
use Rattle.std.proofs.lemmas.Bool.{lt-ltb, le-ltb, cases_lt}
use Rattle.std.proofs.lemmas.List.{drop_at, take_at, take_all, length-take-le, length-drop}
use Rattle.std.proofs.lemmas.List.Sums.{sum_by-append}
use Rattle.std.specs.List.{sum_by}
use Rattle.std.specs.Char.{len_utf8}
use lib.Utf8.{encodes}
use Rattle.srb_text.specs.Lines.{Line, lines, IsFirstLine, AreLines}
use Rattle.srb_text.specs.Positions.{weight_of, fitting, line_size, byte_len, position_in, offset_in, position_of, offset_of, IsStart, one}
use Rattle.srb_text.specs.Edits.{before, after, replaced, edited}
use Rattle.std.specs.String.Boundary.{IsSplitPoint}
use Rattle.srb_text.specs.Units.{weight_at}
use Rattle.srb_text.specs.declared.Encoding.{Encoding}
use Rattle.srb_text.specs.declared.Pos.{Pos}
use Rattle.srb_text.proofs.FittingLemmas.{fitting_split, fitting_whole, sum_by-fitting-front, start_past, start_before, start_after}
use Rattle.srb_text.proofs.LineLemmas.{AreLines-lines}
use Rattle.srb_text.proofs.PlaceLemmas.{sum_by-one, fitting-one}
use Rattle.srb_text.proofs.SpellingLemmas.{encoded, lines-encodes, length-encodes, fitting-encodes, sum_by-units-encodes}

-- the size of a line in bytes
size-encoded : (l : Line) → line_size one (encoded l) ≡ line_size len_utf8 l
size-encoded l = omega (arith, sum_by-one (encodes l.content), sum_by-one (encodes l.ending), length-encodes l.content, length-encodes l.ending)

-- the bytes before a start, and those from it on
pub take-encodes : (text : List ℕ) (at : ℕ) → IsStart text at → take at (encodes text) ≡ encodes (fitting len_utf8 at text)
take-encodes text at h =
    let front : List ℕ = fitting len_utf8 at text in
    let rest : List ℕ = drop (length (fitting len_utf8 at text)) text in
    let parts : encodes text ≡ encodes front ++ encodes rest = ap encodes (sym (fitting_split len_utf8 at text)) ∙ encodes-append front rest in
    ap (take at) parts ∙ take_at (encodes front) (encodes rest) at (length-encodes front ∙ h)

pub drop-encodes : (text : List ℕ) (at : ℕ) → IsStart text at → drop at (encodes text) ≡ encodes (drop (length (fitting len_utf8 at text)) text)
drop-encodes text at h =
    let front : List ℕ = fitting len_utf8 at text in
    let rest : List ℕ = drop (length (fitting len_utf8 at text)) text in
    let parts : encodes text ≡ encodes front ++ encodes rest = ap encodes (sym (fitting_split len_utf8 at text)) ∙ encodes-append front rest in
    ap (drop at) parts ∙ drop_at (encodes front) (encodes rest) at (length-encodes front ∙ h)

-- the units before an offset in a line, which is a start or after the line's characters
units_before : (enc : Encoding) (content : List ℕ) (at : ℕ) → IsStart content at ⊎ (byte_len content ≤ at) → sum_by (weight_at enc) (fitting one at (encodes content)) ≡ sum_by (weight_of enc) (fitting len_utf8 at content)
units_before enc content at h =
    ap (sum_by (weight_at enc)) (fitting-one at (encodes content)
    ∙ ⊎_elim (λ (s : IsStart content at). take-encodes content at s)
    (λ (b : byte_len content ≤ at). take_all at (encodes content) (omega (arith, length-encodes content, b)) ∙ ap encodes (sym (fitting_whole len_utf8 at content b)))
    h)
    ∙ sum_by-units-encodes enc (fitting len_utf8 at content)

-- a start is no further than the text's end
pub start_within : (text : List ℕ) (at : ℕ) → IsStart text at → at ≤ byte_len text
start_within text at h =
    omega (arith, h, ap (sum_by len_utf8) (fitting_split len_utf8 at text), sum_by-append len_utf8 (fitting len_utf8 at text) (drop (length (fitting len_utf8 at text)) text))

abbrev place_at : ℕ → ℕ → Pos
place_at line unit = record { line = line; unit = unit }

-- in which way an offset lies in the first of two parts
in_first : (content rest : List ℕ) (at : ℕ) → IsStart (content ++ rest) at → IsStart content at ⊎ (byte_len content ≤ at)
in_first content rest at h =
    ⊎_elim (λ (lt : at < byte_len content). inl (start_before len_utf8 at content rest lt h)) (λ (ge : byte_len content ≤ at). inr ge) (cases_lt at (byte_len content))

place_step : (at m n : ℕ) (p q r t : Pos) → m ≡ n → (at < n → p ≡ q) → (n ≤ at → r ≡ t) → (if nat_lt at m then p else r) ≡ (if nat_lt at n then q else t)
place_step at m n p q r t e before after =
    ⊎_elim (λ (lt : at < n). let yes_m : nat_lt at m ≡ true = lt-ltb at m (omega arith) in let yes_n : nat_lt at n ≡ true = lt-ltb at n lt in rw (yes_m, yes_n) (before lt))
    (λ (ge : n ≤ at). let no_m : nat_lt at m ≡ false = le-ltb at m (omega arith) in let no_n : nat_lt at n ≡ false = le-ltb at n ge in rw (no_m, no_n) (after ge))
    (cases_lt at n)

pub start_in_rest : (text rest : List ℕ) (l : Line) (at : ℕ) → IsFirstLine text l rest → line_size len_utf8 l ≤ at → IsStart text at → IsStart rest (at - line_size len_utf8 l)
start_in_rest text rest l at h ge s =
    let size : byte_len (l.content ++ l.ending) ≡ line_size len_utf8 l = sum_by-append len_utf8 l.content l.ending in
    let there : IsStart rest (at - byte_len (l.content ++ l.ending)) = start_past len_utf8 at (l.content ++ l.ending) rest (omega arith) (subst (λ (v : List ℕ). IsStart v at) h.whole s) in
    subst (λ (k : ℕ). IsStart rest (at - k)) size there

pub start_in_line : (text rest : List ℕ) (l : Line) (at : ℕ) → IsFirstLine text l rest → IsStart text at → IsStart l.content at ⊎ (byte_len l.content ≤ at)
start_in_line text rest l at h s =
    in_first l.content (l.ending ++ rest) at (subst (λ (v : List ℕ). IsStart v at) (h.whole ∙ append_assoc l.content l.ending rest) s)

pub position-encodes : (enc : Encoding) (ls : List Line) (text : List ℕ) (number at : ℕ) → AreLines text ls → IsStart text at → position_in one (weight_at enc) number at (map encoded ls) ≡ position_in len_utf8 (weight_of enc) number at ls
position-encodes enc [] text number at h s = absurd h
position-encodes enc (l ∷ []) text number at h s = ap (place_at number) (units_before enc l.content at (inl (subst (λ (v : List ℕ). IsStart v at) h.whole s)))
position-encodes enc (l ∷ m ∷ ls) text number at h s =
    let size = size-encoded l in
    place_step at (line_size one (encoded l)) (line_size len_utf8 l) _ _ _ _ size
    (λ lt. ap (place_at number) (units_before enc l.content at (start_in_line text h.0 l at h.1 s)))
    (λ ge. ap (λ (k : ℕ). position_in one (weight_at enc) (number + 1) (at - k) (map encoded (m ∷ ls))) size
    ∙ position-encodes enc (m ∷ ls) h.0 (number + 1) (at - line_size len_utf8 l) h.2 (start_in_rest text h.0 l at h.1 ge s))

pub offset-encodes : (enc : Encoding) (ls : List Line) (number unit : ℕ) → offset_in one (weight_at enc) number unit (map encoded ls) ≡ offset_in len_utf8 (weight_of enc) number unit ls
offset-encodes enc [] number unit = refl
offset-encodes enc (l ∷ ls) zero unit =
    ap (sum_by one) (fitting-encodes enc unit l.content) ∙ sum_by-one (encodes (fitting (weight_of enc) unit l.content)) ∙ length-encodes (fitting (weight_of enc) unit l.content)
offset-encodes enc (l ∷ ls) (suc number) unit = ap₂ (λ (x y : ℕ). x + y) (size-encoded l) (offset-encodes enc ls number unit)

-- places in a text by the bytes that spell it
pub position_is : (enc : Encoding) (text bytes : List ℕ) (at : ℕ) → encodes text ≡ bytes → IsStart text at → position_in one (weight_at enc) 0 at (lines bytes) ≡ position_of (weight_of enc) text at
position_is enc text bytes at e s =
    ap (λ (v : List ℕ). position_in one (weight_at enc) 0 at (lines v)) (sym e)
    ∙ ap (position_in one (weight_at enc) 0 at) (lines-encodes text)
    ∙ position-encodes enc (lines text) text 0 at (AreLines-lines text) s

pub offset_is : (enc : Encoding) (text bytes : List ℕ) (p : Pos) → encodes text ≡ bytes → offset_in one (weight_at enc) p.line p.unit (lines bytes) ≡ offset_of (weight_of enc) text p
offset_is enc text bytes p e =
    ap (λ (v : List ℕ). offset_in one (weight_at enc) p.line p.unit (lines v)) (sym e)
    ∙ ap (offset_in one (weight_at enc) p.line p.unit) (lines-encodes text)
    ∙ offset-encodes enc (lines text) p.line p.unit

-- an offset that a position names is a start
front_start : (weight : ℕ → ℕ) (unit : ℕ) (text content rest : List ℕ) → text ≡ content ++ rest → IsStart text (byte_len (fitting weight unit content))
front_start weight unit text content rest e =
    let front : List ℕ = fitting weight unit content in
    let more : List ℕ = drop (length (fitting weight unit content)) content in
    let parts : text ≡ front ++ (more ++ rest) = e ∙ ap (λ (v : List ℕ). v ++ rest) (sym (fitting_split weight unit content)) ∙ append_assoc front more rest in
    subst (λ (v : List ℕ). IsStart v (byte_len front)) (sym parts) (sum_by-fitting-front len_utf8 front (more ++ rest))

offset_start_in : (weight : ℕ → ℕ) (ls : List Line) (text : List ℕ) (number unit : ℕ) → AreLines text ls → IsStart text (offset_in len_utf8 weight number unit ls)
offset_start_in weight [] text number unit h = absurd h
offset_start_in weight (l ∷ []) text zero unit h = front_start weight unit text l.content [] (h.whole ∙ sym (append-nil l.content))
offset_start_in weight (l ∷ []) text (suc number) unit h =
    let end : byte_len l.ending ≡ 0 = ap byte_len h.endless in
    let same : byte_len text ≡ line_size len_utf8 l + 0 = omega (arith, ap byte_len h.whole, end) in
    subst (IsStart text) same (ap byte_len (fitting_whole len_utf8 (byte_len text) text (omega arith)))
offset_start_in weight (l ∷ m ∷ ls) text zero unit h = front_start weight unit text l.content (l.ending ++ h.0) (h.1.whole ∙ append_assoc l.content l.ending h.0)
offset_start_in weight (l ∷ m ∷ ls) text (suc number) unit h =
    let size : byte_len (l.content ++ l.ending) ≡ line_size len_utf8 l = sum_by-append len_utf8 l.content l.ending in
    let there : IsStart (l.content ++ l.ending ++ h.0) (byte_len (l.content ++ l.ending) + offset_in len_utf8 weight number unit (m ∷ ls)) = start_after len_utf8 (offset_in len_utf8 weight number unit (m ∷ ls)) (l.content ++ l.ending) h.0 (offset_start_in weight (m ∷ ls) h.0 number unit h.2) in
    subst (λ (k : ℕ). IsStart text (k + offset_in len_utf8 weight number unit (m ∷ ls))) size (subst (λ (v : List ℕ). IsStart v (byte_len (l.content ++ l.ending) + offset_in len_utf8 weight number unit (m ∷ ls))) (sym h.1.whole) there)

pub offset_start : (weight : ℕ → ℕ) (text : List ℕ) (p : Pos) → IsStart text (offset_of weight text p)
offset_start weight text p = offset_start_in weight (lines text) text p.line p.unit (AreLines-lines text)

-- edits
all_scalars-parts : (xs ys : List ℕ) → all_scalars (xs ++ ys) ≡ true → (all_scalars xs ≡ true) × (all_scalars ys ≡ true)
all_scalars-parts [] ys h = (refl, h)
all_scalars-parts (x ∷ xs) ys h =
    let parts = and_parts _ _ h in
    let more = all_scalars-parts xs ys parts.1 in (and_from _ _ parts.0 more.0, more.1)

all_scalars-append : (xs ys : List ℕ) → all_scalars xs ≡ true → all_scalars ys ≡ true → all_scalars (xs ++ ys) ≡ true
all_scalars-append [] ys h k = k
all_scalars-append (x ∷ xs) ys h k = let parts = and_parts _ _ h in and_from _ _ parts.0 (all_scalars-append xs ys parts.1 k)

scalars_around : (text : List ℕ) (at : ℕ) → all_scalars text ≡ true → (all_scalars (before at text) ≡ true) × (all_scalars (after at text) ≡ true)
scalars_around text at h = all_scalars-parts (before at text) (after at text) (ap all_scalars (fitting_split len_utf8 at text) ∙ h)

pub replaced-encodes : (text new : List ℕ) (start end : ℕ) → IsStart text start → IsStart text end → take start (encodes text) ++ encodes new ++ drop end (encodes text) ≡ encodes (replaced text start end new)
replaced-encodes text new start end s e =
    ap₂ (λ (v w : List ℕ). v ++ encodes new ++ w) (take-encodes text start s) (drop-encodes text end e)
    ∙ ap (λ (v : List ℕ). v ++ encodes (after end text)) (sym (encodes-append (before start text) new))
    ∙ sym (encodes-append (before start text ++ new) (after end text))

pub replaced-scalars : (text new : List ℕ) (start end : ℕ) → all_scalars text ≡ true → all_scalars new ≡ true → all_scalars (replaced text start end new) ≡ true
replaced-scalars text new start end t n =
    all_scalars-append (before start text ++ new) (after end text) (all_scalars-append (before start text) new (scalars_around text start t).0 n) (scalars_around text end t).1

-- a start is where the bytes may be cut
pub cut_at_start : (text bytes : List ℕ) (at : ℕ) → all_scalars text ≡ true → encodes text ≡ bytes → IsStart text at → IsSplitPoint bytes at
cut_at_start text bytes at t e s =
    let long : at ≤ length bytes = omega (arith, ap length e, length-encodes text, start_within text at s) in
    let rest : encodes (after at text) ≡ drop at bytes = sym (drop-encodes text at s) ∙ ap (drop at) e in
    let place = IsCharBoundary-from_drop bytes at long (after at text, ((scalars_around text at t).1, rest)) in
    (place.0, λ _. place.1)

-- what a text is seen as spells it
pub view_spells : (bytes text : List ℕ) → IsUtf8 bytes → chars bytes ≡ text → (encodes text ≡ bytes) × (all_scalars text ≡ true)
view_spells bytes text u e = (ap encodes (sym e) ∙ encodes-chars bytes u, ap all_scalars (sym e) ∙ scalars-chars bytes u)

-- the bytes of an edited text, their number, and its characters
pub edited_spells : (text bytes fresh : List ℕ) (start end : ℕ) → encodes text ≡ bytes → IsUtf8 fresh → IsStart text start → IsStart text end → take start bytes ++ fresh ++ drop end bytes ≡ encodes (replaced text start end (chars fresh))
edited_spells text bytes fresh start end e u s t =
    ap₂ (λ (v w : List ℕ). take start v ++ w ++ drop end v) (sym e) (sym (encodes-chars fresh u)) ∙ replaced-encodes text (chars fresh) start end s t

pub edited_chars : (text bytes fresh : List ℕ) (start end : ℕ) → encodes text ≡ bytes → all_scalars text ≡ true → IsUtf8 fresh → IsStart text start → IsStart text end → chars (take start bytes ++ fresh ++ drop end bytes) ≡ replaced text start end (chars fresh)
edited_chars text bytes fresh start end e t u s f =
    ap chars (edited_spells text bytes fresh start end e u s f) ∙ chars-encodes (replaced text start end (chars fresh)) (replaced-scalars text (chars fresh) start end t (scalars-chars fresh u))

pub edited_len : (text bytes fresh : List ℕ) (start end : ℕ) → encodes text ≡ bytes → IsUtf8 fresh → IsStart text start → IsStart text end → length (take start bytes ++ fresh ++ drop end bytes) ≡ byte_len (replaced text start end (chars fresh))
edited_len text bytes fresh start end e u s f =
    ap length (edited_spells text bytes fresh start end e u s f) ∙ length-encodes (replaced text start end (chars fresh))

-- what an edit of the text's bytes comes to
pub record Edits (enc : Encoding) (text bytes fresh : List ℕ) (from to : Pos) (start end : ℕ) : Type 0 where
  pub start_cut : IsSplitPoint bytes start
  pub end_cut : IsSplitPoint bytes end
  pub len : length (take start bytes ++ fresh ++ drop end bytes) ≡ byte_len (edited (weight_of enc) text from to (chars fresh))
  pub characters : chars (take start bytes ++ fresh ++ drop end bytes) ≡ edited (weight_of enc) text from to (chars fresh)

pub edits : (enc : Encoding) (text bytes fresh : List ℕ) (from to : Pos) (start end : ℕ) → encodes text ≡ bytes → all_scalars text ≡ true → IsUtf8 fresh → start ≡ offset_of (weight_of enc) text from → end ≡ offset_of (weight_of enc) text to → Edits enc text bytes fresh from to start end
edits enc text bytes fresh from to start end e t u s f =
    let at_start : IsStart text start = subst (IsStart text) (sym s) (offset_start (weight_of enc) text from) in
    let at_end : IsStart text end = subst (IsStart text) (sym f) (offset_start (weight_of enc) text to) in
    let same : replaced text start end (chars fresh) ≡ edited (weight_of enc) text from to (chars fresh) = ap₂ (λ (x y : ℕ). replaced text x y (chars fresh)) s f in
    record {
      start_cut = cut_at_start text bytes start t e at_start;
      end_cut = cut_at_start text bytes end t e at_end;
      len = edited_len text bytes fresh start end e u at_start at_end ∙ ap byte_len same;
      characters = edited_chars text bytes fresh start end e t u at_start at_end ∙ same;
    }

-- the number of bytes of an edited text
pub length-edit : (bytes fresh : List ℕ) (start end : ℕ) → start ≤ end → end ≤ length bytes → length (take start bytes ++ fresh ++ drop end bytes) ≡ (length bytes - (end - start)) + length fresh
length-edit bytes fresh start end ordered within =
    omega (arith, length-append (take start bytes ++ fresh) (drop end bytes), length-append (take start bytes) fresh, length-take-le start bytes (omega arith), length-drop end bytes)
