-- The table of line starts: of a text in two parts, of a part that moves, and of a text that is edited.
use Rattle.std.proofs.Common.{◌≡◌, ℕ, zero, suc, ◌+◌, ◌-◌, ◌<◌, ◌≤◌, Bool, true, false, nat_le, if◌then◌else◌, List, [], ◌∷◌, ◌++◌, map, length, get_or, take, drop, refl, sym, subst, ap, ap₂, ◌∙◌, arith, add-zero, append_assoc, append-nil, length-append, length-drop}
use Rattle.std.proofs.lemmas.List.Elements.{All-from_recursion}
use Rattle.std.proofs.lemmas.Bool.{le-leb, lt-leb, and_from}
use Rattle.std.proofs.lemmas.List.{take-append-drop, length-take-le, take_at, drop_at, drop_more, take_rest}
use Rattle.std.proofs.Math.Seq.{take-add}
use Rattle.std.specs.List.{AllByRecursion, All, prefix_len, list_all, list_any}
use Rattle.std.specs.List.Sorted.{IsStrictlyIncreasing}
use Rattle.srb_text.specs.Lines.{begins_with_line_feed, ends_line}
use Rattle.srb_text.specs.LineStarts.{starts_after, line_starts}
use Rattle.srb_text.proofs.SortedLemmas.{increasing_cons, prefix_len-split}

append_step : (s t : Bool) (a : ℕ) (x y x' y' z : List ℕ) → s ≡ t → x ≡ x' ++ z → y ≡ y' ++ z → (if s then a ∷ x else y) ≡ (if t then a ∷ x' else y') ++ z
append_step true true a x y x' y' z b e f = ap (λ (v : List ℕ). a ∷ v) e
append_step true false a x y x' y' z b e f = cc
append_step false true a x y x' y' z b e f = cc
append_step false false a x y x' y' z b e f = f

-- of a text in two parts
pub starts_after-append : (at : ℕ) (xs ys rest : List ℕ) → starts_after at (xs ++ ys) rest ≡ starts_after at xs (ys ++ rest) ++ starts_after (at + length xs) ys rest
starts_after-append at [] ys rest = rw add-zero
starts_after-append at (x ∷ xs) ys rest =
    let more : starts_after (at + 1) (xs ++ ys) rest ≡ starts_after (at + 1) xs (ys ++ rest) ++ starts_after (at + 1 + length xs) ys rest = starts_after-append (at + 1) xs ys rest in
    let same : at + 1 + length xs ≡ at + suc (length xs) = omega arith in
    let here = rw same at more in
    append_step _ _ (at + 1) _ _ _ _ _ (ap (ends_line x) (append_assoc xs ys rest)) here here

begins-append : (xs r s : List ℕ) → begins_with_line_feed r ≡ begins_with_line_feed s → begins_with_line_feed (xs ++ r) ≡ begins_with_line_feed (xs ++ s)
begins-append [] r s e = e
begins-append (x ∷ xs) r s e = refl

ends_line-same : (c : ℕ) (r s : List ℕ) → begins_with_line_feed r ≡ begins_with_line_feed s → ends_line c r ≡ ends_line c s
ends_line-same c r s e = rw e

same_step : (s t : Bool) (a : ℕ) (x y : List ℕ) → s ≡ t → x ≡ y → (if s then a ∷ x else x) ≡ (if t then a ∷ y else y)
same_step s t a x y e f = rw (e, f)

-- of what follows the bytes only its first character matters
pub starts_after-same : (at : ℕ) (xs r s : List ℕ) → begins_with_line_feed r ≡ begins_with_line_feed s → starts_after at xs r ≡ starts_after at xs s
starts_after-same at [] r s e = refl
starts_after-same at (x ∷ xs) r s e =
    same_step _ _ (at + 1) _ _ (ends_line-same x (xs ++ r) (xs ++ s) (begins-append xs r s e)) (starts_after-same (at + 1) xs r s e)

all_step : (t : Bool) (a m : ℕ) (x : List ℕ) → a ≤ m → list_all (λ s. nat_le s m) x ≡ true → list_all (λ s. nat_le s m) (if t then a ∷ x else x) ≡ true
all_step true a m x h e = rw (le-leb a m h) e
all_step false a m x h e = e

-- the starts lie after `at` and up to the end of the bytes
pub starts_up_to_end : (at m : ℕ) (xs rest : List ℕ) → at + length xs ≤ m → list_all (λ s. nat_le s m) (starts_after at xs rest) ≡ true
starts_up_to_end at m [] rest h = refl
starts_up_to_end at m (x ∷ xs) rest h = all_step _ (at + 1) m _ (omega arith) (starts_up_to_end (at + 1) m xs rest (omega arith))

none_step : (t : Bool) (a m : ℕ) (x : List ℕ) → m < a → list_any (λ s. nat_le s m) x ≡ false → list_any (λ s. nat_le s m) (if t then a ∷ x else x) ≡ false
none_step true a m x h e = rw (lt-leb a m h) e
none_step false a m x h e = e

pub starts_past : (at m : ℕ) (xs rest : List ℕ) → m ≤ at → list_any (λ s. nat_le s m) (starts_after at xs rest) ≡ false
starts_past at m [] rest h = refl
starts_past at m (x ∷ xs) rest h = none_step _ (at + 1) m _ (omega arith) (starts_past (at + 1) m xs rest (omega arith))

map_step : (t : Bool) (f : ℕ → ℕ) (a b : ℕ) (x y : List ℕ) → f a ≡ b → map f x ≡ y → map f (if t then a ∷ x else x) ≡ (if t then b ∷ y else y)
map_step true f a b x y e h = ap₂ (λ (v : ℕ) (w : List ℕ). v ∷ w) e h
map_step false f a b x y e h = h

-- of bytes that are moved
pub map-starts_after : (from to k : ℕ) (xs rest : List ℕ) → map (λ s. (s - from) + to) (starts_after (from + k) xs rest) ≡ starts_after (to + k) xs rest
map-starts_after from to k [] rest = refl
map-starts_after from to k (x ∷ xs) rest =
    let more : map (λ s. (s - from) + to) (starts_after (from + (k + 1)) xs rest) ≡ starts_after (to + (k + 1)) xs rest = map-starts_after from to (k + 1) xs rest in
    let first : from + (k + 1) ≡ from + k + 1 = omega arith in
    let second : to + (k + 1) ≡ to + k + 1 = omega arith in
    map_step _ (λ s. (s - from) + to) (from + k + 1) (to + k + 1) _ _ (omega arith) (rw (first, second) at more)

increasing_step : (t : Bool) (x a : ℕ) (ys : List ℕ) → x < a → IsStrictlyIncreasing (a ∷ ys) → IsStrictlyIncreasing (x ∷ ys) → IsStrictlyIncreasing (x ∷ (if t then a ∷ ys else ys))
increasing_step true x a ys h e f = increasing_cons x a ys h e
increasing_step false x a ys h e f = f

pub starts_after-increasing : (x at : ℕ) (xs rest : List ℕ) → x ≤ at → IsStrictlyIncreasing (x ∷ starts_after at xs rest)
starts_after-increasing x at [] rest h = λ k l. absurd (omega arith)
starts_after-increasing x at (b ∷ bs) rest h =
    increasing_step _ x (at + 1) _ (omega arith) (starts_after-increasing (at + 1) (at + 1) bs rest (omega arith)) (starts_after-increasing x (at + 1) bs rest (omega arith))

pub line_starts-increasing : (bytes : List ℕ) → IsStrictlyIncreasing (line_starts bytes)
line_starts-increasing bytes = starts_after-increasing 0 0 bytes [] (omega arith)

-- the table in two parts, at any place of the text
table_at : (text : List ℕ) (m : ℕ) → m ≤ length text → line_starts text ≡ (0 ∷ starts_after 0 (take m text) (drop m text)) ++ starts_after m (drop m text) []
table_at text m h =
    let parts : starts_after 0 (take m text ++ drop m text) [] ≡ starts_after 0 (take m text) (drop m text ++ []) ++ starts_after (0 + length (take m text)) (drop m text) [] = starts_after-append 0 (take m text) (drop m text) [] in
    let whole : take m text ++ drop m text ≡ text = take-append-drop m text in
    let none : drop m text ++ [] ≡ drop m text = append-nil (drop m text) in
    let len : 0 + length (take m text) ≡ m = omega (arith, length-take-le m text h) in
    ap (λ (v : List ℕ). 0 ∷ v) (rw (whole, none, len) at parts)

kept_len : (text : List ℕ) (m : ℕ) → m ≤ length text → prefix_len (λ s. nat_le s m) (line_starts text) ≡ length (0 ∷ starts_after 0 (take m text) (drop m text))
kept_len text m h =
    let len : 0 + length (take m text) ≤ m = omega (arith, length-take-le m text h) in
    let first : nat_le 0 m ≡ true = le-leb 0 m (omega arith) in
    let front : list_all (λ s. nat_le s m) (0 ∷ starts_after 0 (take m text) (drop m text)) ≡ true = and_from _ _ first (starts_up_to_end 0 m (take m text) (drop m text) len) in
    ap (prefix_len (λ s. nat_le s m)) (table_at text m h)
    ∙ prefix_len-split (λ s. nat_le s m) (0 ∷ starts_after 0 (take m text) (drop m text)) (starts_after m (drop m text) []) front (starts_past m m (drop m text) [] (omega arith))

-- the starts up to a place of the text, and those past it
pub kept_is : (text : List ℕ) (m : ℕ) → m ≤ length text → take (prefix_len (λ s. nat_le s m) (line_starts text)) (line_starts text) ≡ 0 ∷ starts_after 0 (take m text) (drop m text)
kept_is text m h =
    ap (λ (v : List ℕ). take (prefix_len (λ s. nat_le s m) (line_starts text)) v) (table_at text m h)
    ∙ take_at (0 ∷ starts_after 0 (take m text) (drop m text)) (starts_after m (drop m text) []) _ (sym (kept_len text m h))

pub passed_is : (text : List ℕ) (m : ℕ) → m ≤ length text → drop (prefix_len (λ s. nat_le s m) (line_starts text)) (line_starts text) ≡ starts_after m (drop m text) []
passed_is text m h =
    ap (λ (v : List ℕ). drop (prefix_len (λ s. nat_le s m) (line_starts text)) v) (table_at text m h)
    ∙ drop_at (0 ∷ starts_after 0 (take m text) (drop m text)) (starts_after m (drop m text) []) _ (sym (kept_len text m h))

-- the starts before the byte in front of a place don't depend on what follows the place
kept_same : (text more : List ℕ) (start : ℕ) → start ≤ length text → starts_after 0 (take (start - 1) text) (drop (start - 1) text) ≡ starts_after 0 (take (start - 1) text) (take (start - (start - 1)) (drop (start - 1) text) ++ more)
kept_same text more zero h = refl
kept_same text more (suc k) h =
    let back : suc k - 1 ≡ k = omega arith in
    let one : suc k - k ≡ 1 = omega arith in
    let next : drop k text ≡ get_or text k 0 ∷ drop (k + 1) text = drop_more text k 0 (omega arith) in
    rw (back, one) (starts_after-same 0 (take k text) (drop k text) (take 1 (drop k text) ++ more) (rw next refl))

-- the table of the text in parts that an edit makes of it
edited_parts : (before new tail : List ℕ) (at : ℕ) → length before ≡ at → starts_after 0 (before ++ new ++ tail) [] ≡ starts_after 0 before (new ++ tail) ++ starts_after at new tail ++ starts_after (at + length new) tail []
edited_parts before new tail at len =
    let last : starts_after 0 (before ++ new ++ tail) [] ≡ starts_after 0 (before ++ new) (tail ++ []) ++ starts_after (0 + length (before ++ new)) tail [] = starts_after-append 0 (before ++ new) tail [] in
    let none : tail ++ [] ≡ tail = append-nil tail in
    let end : 0 + length (before ++ new) ≡ at + length new = omega (arith, length-append before new) in
    let front : starts_after 0 (before ++ new) tail ≡ starts_after 0 before (new ++ tail) ++ starts_after (0 + length before) new tail = starts_after-append 0 before new tail in
    let start : 0 + length before ≡ at = omega arith in
    rw (none, end) at last ∙ ap (λ (v : List ℕ). v ++ starts_after (at + length new) tail []) (rw start at front)

join : (kept read moved front last new back all part : List ℕ) → kept ≡ 0 ∷ front → read ≡ last → moved ≡ back → all ≡ part ++ new ++ back → part ≡ front ++ last → kept ++ read ++ new ++ moved ≡ 0 ∷ all
join kept read moved front last new back all part e f g h i = rw (e, f, g, h, i)

-- the table of an edited text, from that of the text
renewed_is : (text new follows : List ℕ) (start end : ℕ) → start ≤ end → end ≤ length text → begins_with_line_feed follows ≡ begins_with_line_feed (new ++ drop end text) →
    take (prefix_len (λ s. nat_le s (start - 1)) (line_starts text)) (line_starts text)
    ++ starts_after (start - 1) (take (start - (start - 1)) (drop (start - 1) text)) follows
    ++ starts_after start new (drop end text)
    ++ map (λ s. (s - end) + (start + length new)) (drop (prefix_len (λ s. nat_le s end) (line_starts text)) (line_starts text))
    ≡ line_starts (take start text ++ new ++ drop end text)
renewed_is text new follows start end ordered within next =
    let tail : List ℕ = drop end text in
    let front : List ℕ = take (start - 1) text in
    let last : List ℕ = take (start - (start - 1)) (drop (start - 1) text) in
    let sum : (start - 1) + (start - (start - 1)) ≡ start = omega arith in
    let split : take start text ≡ front ++ last = rw sum at (take-add (start - 1) (start - (start - 1)) text) in
    let long : length front ≡ start - 1 = length-take-le (start - 1) text (omega arith) in
    let kept : take (prefix_len (λ s. nat_le s (start - 1)) (line_starts text)) (line_starts text) ≡ 0 ∷ starts_after 0 front (last ++ (new ++ tail)) = kept_is text (start - 1) (omega arith) ∙ ap (λ (v : List ℕ). 0 ∷ v) (kept_same text (new ++ tail) start (omega arith)) in
    let read : starts_after (start - 1) last follows ≡ starts_after (start - 1) last (new ++ tail) = starts_after-same (start - 1) last follows (new ++ tail) next in
    let none : end + 0 ≡ end = omega arith in
    let same : start + length new + 0 ≡ start + length new = omega arith in
    let moved : map (λ s. (s - end) + (start + length new)) (drop (prefix_len (λ s. nat_le s end) (line_starts text)) (line_starts text)) ≡ starts_after (start + length new) tail [] = ap (map (λ s. (s - end) + (start + length new))) (passed_is text end within) ∙ rw (none, same) at (map-starts_after end (start + length new) 0 tail []) in
    let whole : starts_after 0 (take start text ++ new ++ tail) [] ≡ starts_after 0 (take start text) (new ++ tail) ++ starts_after start new tail ++ starts_after (start + length new) tail [] = edited_parts (take start text) new tail start (length-take-le start text (omega arith)) in
    let inner : starts_after 0 (take start text) (new ++ tail) ≡ starts_after 0 front (last ++ (new ++ tail)) ++ starts_after (start - 1) last (new ++ tail) = ap (λ (v : List ℕ). starts_after 0 v (new ++ tail)) split ∙ (let parts = starts_after-append 0 front last (new ++ tail) in let len : 0 + length front ≡ start - 1 = omega arith in rw len at parts) in
    join _ _ _ _ _ _ _ _ _ kept read moved whole inner

pub renewed_at : (text new follows : List ℕ) (first start end : ℕ) → first ≡ start - 1 → start ≤ end → end ≤ length text → begins_with_line_feed follows ≡ begins_with_line_feed (new ++ drop end text) →
    take (prefix_len (λ s. nat_le s first) (line_starts text)) (line_starts text)
    ++ starts_after first (take (start - first) (drop first text)) follows
    ++ starts_after start new (drop end text)
    ++ map (λ s. (s - end) + (start + length new)) (drop (prefix_len (λ s. nat_le s end) (line_starts text)) (line_starts text))
    ≡ line_starts (take start text ++ new ++ drop end text)
renewed_at text new follows first start end e ordered within next =
    subst (λ (f : ℕ). take (prefix_len (λ s. nat_le s f) (line_starts text)) (line_starts text)
    ++ starts_after f (take (start - f) (drop f text)) follows
    ++ starts_after start new (drop end text)
    ++ map (λ s. (s - end) + (start + length new)) (drop (prefix_len (λ s. nat_le s end) (line_starts text)) (line_starts text))
    ≡ line_starts (take start text ++ new ++ drop end text)) (sym e) (renewed_is text new follows start end ordered within next)

within_step : (t : Bool) (a m n : ℕ) (x : List ℕ) → m ≤ a → a ≤ n → AllByRecursion (λ s. (m ≤ s) × (s ≤ n)) x → AllByRecursion (λ s. (m ≤ s) × (s ≤ n)) (if t then a ∷ x else x)
within_step true a m n x low high e = ((low, high), e)
within_step false a m n x low high e = e

starts_within : (at m n : ℕ) (xs rest : List ℕ) → m ≤ at → at + length xs ≤ n → AllByRecursion (λ s. (m ≤ s) × (s ≤ n)) (starts_after at xs rest)
starts_within at m n [] rest low high = tt
starts_within at m n (x ∷ xs) rest low high = within_step _ (at + 1) m n _ (omega arith) (omega arith) (starts_within (at + 1) m n xs rest (omega arith) (omega arith))

-- the starts past a place of the text lie between it and the text's end
pub passed_within : (text : List ℕ) (m : ℕ) → m ≤ length text → All (λ s. (m ≤ s) × (s ≤ length text)) (drop (prefix_len (λ s. nat_le s m) (line_starts text)) (line_starts text))
passed_within text m h =
    let long : m + length (drop m text) ≤ length text = omega (arith, length-drop m text) in
    rw (passed_is text m h) (All-from_recursion _ _ (starts_within m m (length text) (drop m text) [] (omega arith) long))

-- the same parts of a table that is the text's
pub passed_part : (text starts : List ℕ) (m n : ℕ) → starts ≡ line_starts text → n ≡ prefix_len (λ s. nat_le s m) starts → take (length starts - n) (drop n starts) ≡ drop (prefix_len (λ s. nat_le s m) (line_starts text)) (line_starts text)
passed_part text starts m n table count =
    let same : n ≡ prefix_len (λ s. nat_le s m) (line_starts text) = count ∙ ap (prefix_len (λ s. nat_le s m)) table in
    take_rest starts n ∙ ap₂ drop same table

pub kept_part : (text starts : List ℕ) (m n : ℕ) → starts ≡ line_starts text → n ≡ prefix_len (λ s. nat_le s m) starts → take n starts ≡ take (prefix_len (λ s. nat_le s m) (line_starts text)) (line_starts text)
kept_part text starts m n table count =
    let same : n ≡ prefix_len (λ s. nat_le s m) (line_starts text) = count ∙ ap (prefix_len (λ s. nat_le s m)) table in
    ap₂ take same table

pub four_parts : (none one two three four kept read new moved : List ℕ) → none ≡ [] → one ≡ none ++ kept → two ≡ one ++ read → three ≡ two ++ new → four ≡ three ++ moved → four ≡ kept ++ read ++ new ++ moved
four_parts none one two three four kept read new moved e f g h i = rw (i, h, g, f, e) refl
