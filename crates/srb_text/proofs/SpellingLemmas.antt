-- The bytes of characters in UTF-8: their lines, their units and their number are those of the characters.
use Rattle.std.proofs.Common.{◌≡◌, ℕ, ◌+◌, ◌-◌, ◌/◌, ◌<◌, ◌≤◌, ◌⊎◌, Bool, true, false, nat_lt, ◌==◌, ltb, if◌then◌else◌, List, [], ◌∷◌, ◌++◌, map, length, refl, sym, subst, ap, ◌∙◌, inl, inr, ⊎_elim, arith, length-append}
use Rattle.std.proofs.lemmas.Bool.{lt-ltb, le-ltb, cases_lt, ne_eqb, or_from, or_parts}
use Rattle.std.proofs.lemmas.List.Sums.{sum_by-cons, sum_by-append}
use Rattle.std.proofs.lemmas.Str.{length-encode, encode_ascii}
use Rattle.std.specs.List.{sum_by, AllByRecursion, list_any}
use Rattle.std.specs.Char.{len_utf8}
use lib.Utf8.{encode, encodes, next}
use Rattle.srb_text.specs.Lines.{Line, LINE_FEED, CARRIAGE_RETURN, is_line_end, begins_with_line_feed, ends_line, lines, with_content, with_ending, HasNoLineEnd}
use Rattle.srb_text.specs.Positions.{weight_of, fitting, byte_len}
use Rattle.srb_text.specs.Units.{lead_weight, weight_at}
use Rattle.srb_text.specs.declared.Encoding.{Encoding}
use Rattle.srb_text.specs.declared.Encoding.TheVariants.{Utf8, Utf16, Utf32}
use Rattle.srb_text.proofs.FittingLemmas.{fitting_more, fitting_none}

IsFollowing : ℕ → Type 0
IsFollowing b = (128 ≤ b) × (b < 192)

-- how a character is spelled: by itself, or by a byte that begins it and bytes that follow
pub record Spelled (c : ℕ) : Type 0 where
  pub lead : ℕ
  pub more : List ℕ
  pub bytes : encode c ≡ lead ∷ more
  pub units : (enc : Encoding) → weight_at enc lead ≡ weight_of enc c
  pub follow : AllByRecursion (λ b. (128 ≤ b) × (b < 192)) more
  pub high : (lead ≡ c) ⊎ ((128 ≤ lead) × (128 ≤ c))

following : (x : ℕ) → (128 ≤ next x) × (next x < 192)
following x = (omega arith, omega arith)

-- what the first byte of a character counts
weight_low : (enc : Encoding) (b : ℕ) → b < 128 → weight_at enc b ≡ 1
weight_low enc b h = let e : nat_lt b 128 ≡ true = lt-ltb b 128 h in rw e

weight_lead : (enc : Encoding) (b : ℕ) → 192 ≤ b → weight_at enc b ≡ lead_weight enc b
weight_lead enc b low =
    let e : nat_lt b 128 ≡ false = le-ltb b 128 (omega arith) in
    let f : nat_lt b 192 ≡ false = le-ltb b 192 low in rw (e, f)

pub weight_following : (enc : Encoding) (b : ℕ) → 128 ≤ b → b < 192 → weight_at enc b ≡ 0
weight_following enc b low high =
    let e : nat_lt b 128 ≡ false = le-ltb b 128 low in
    let f : nat_lt b 192 ≡ true = lt-ltb b 192 high in rw (e, f)

-- the same for a character of one, two, three or four bytes
of_one : (enc : Encoding) (c : ℕ) → c < 128 → weight_of enc c ≡ 1
of_one Utf8 c h = let e : nat_lt c 128 ≡ true = lt-ltb c 128 h in rw e
of_one Utf16 c h = let e : nat_lt c 65536 ≡ true = lt-ltb c 65536 (omega arith) in rw e
of_one Utf32 c h = refl

of_two : (enc : Encoding) (b c : ℕ) → b < 224 → 128 ≤ c → c < 2048 → lead_weight enc b ≡ weight_of enc c
of_two Utf8 b c h low high =
    let e : nat_lt b 224 ≡ true = lt-ltb b 224 h in
    let f : nat_lt c 128 ≡ false = le-ltb c 128 low in
    let g : nat_lt c 2048 ≡ true = lt-ltb c 2048 high in rw (e, f, g)
of_two Utf16 b c h low high =
    let e : nat_lt b 240 ≡ true = lt-ltb b 240 (omega arith) in
    let f : nat_lt c 65536 ≡ true = lt-ltb c 65536 (omega arith) in rw (e, f)
of_two Utf32 b c h low high = refl

of_three : (enc : Encoding) (b c : ℕ) → 224 ≤ b → b < 240 → 2048 ≤ c → c < 65536 → lead_weight enc b ≡ weight_of enc c
of_three Utf8 b c g h low high =
    let e : nat_lt b 224 ≡ false = le-ltb b 224 g in
    let f : nat_lt b 240 ≡ true = lt-ltb b 240 h in
    let k : nat_lt c 128 ≡ false = le-ltb c 128 (omega arith) in
    let l : nat_lt c 2048 ≡ false = le-ltb c 2048 low in
    let m : nat_lt c 65536 ≡ true = lt-ltb c 65536 high in rw (e, f, k, l, m)
of_three Utf16 b c g h low high =
    let e : nat_lt b 240 ≡ true = lt-ltb b 240 h in
    let f : nat_lt c 65536 ≡ true = lt-ltb c 65536 high in rw (e, f)
of_three Utf32 b c g h low high = refl

of_four : (enc : Encoding) (b c : ℕ) → 240 ≤ b → 65536 ≤ c → lead_weight enc b ≡ weight_of enc c
of_four Utf8 b c h low =
    let e : nat_lt b 224 ≡ false = le-ltb b 224 (omega arith) in
    let f : nat_lt b 240 ≡ false = le-ltb b 240 h in
    let k : nat_lt c 128 ≡ false = le-ltb c 128 (omega arith) in
    let l : nat_lt c 2048 ≡ false = le-ltb c 2048 (omega arith) in
    let m : nat_lt c 65536 ≡ false = le-ltb c 65536 low in rw (e, f, k, l, m)
of_four Utf16 b c h low =
    let e : nat_lt b 240 ≡ false = le-ltb b 240 h in
    let f : nat_lt c 65536 ≡ false = le-ltb c 65536 low in rw (e, f)
of_four Utf32 b c h low = refl

encode_two : (c : ℕ) → 128 ≤ c → c < 2048 → encode c ≡ (192 + c / 64) ∷ next c ∷ []
unfolding encode
encode_two c low high =
    let e : ltb c 128 ≡ false = le-ltb c 128 low in
    let f : ltb c 2048 ≡ true = lt-ltb c 2048 high in rw (e, f)

encode_three : (c : ℕ) → 2048 ≤ c → c < 65536 → encode c ≡ (224 + c / 4096) ∷ next (c / 64) ∷ next c ∷ []
unfolding encode
encode_three c low high =
    let e : ltb c 128 ≡ false = le-ltb c 128 (omega arith) in
    let f : ltb c 2048 ≡ false = le-ltb c 2048 low in
    let g : ltb c 65536 ≡ true = lt-ltb c 65536 high in rw (e, f, g)

encode_four : (c : ℕ) → 65536 ≤ c → encode c ≡ (240 + c / 262144) ∷ next (c / 4096) ∷ next (c / 64) ∷ next c ∷ []
unfolding encode
encode_four c low =
    let e : ltb c 128 ≡ false = le-ltb c 128 (omega arith) in
    let f : ltb c 2048 ≡ false = le-ltb c 2048 (omega arith) in
    let g : ltb c 65536 ≡ false = le-ltb c 65536 low in rw (e, f, g)

spelled_one : (c : ℕ) → c < 128 → Spelled c
spelled_one c h = record {
  lead = c;
  more = [];
  bytes = encode_ascii c h;
  units = λ enc. weight_low enc c h ∙ sym (of_one enc c h);
  follow = tt;
  high = inl refl;
}

spelled_two : (c : ℕ) → 128 ≤ c → c < 2048 → Spelled c
spelled_two c low high = record {
  lead = 192 + c / 64;
  more = next c ∷ [];
  bytes = encode_two c low high;
  units = λ enc. weight_lead enc (192 + c / 64) (omega arith) ∙ of_two enc (192 + c / 64) c (omega arith) low high;
  follow = (following c, tt);
  high = inr (omega arith, low);
}

spelled_three : (c : ℕ) → 2048 ≤ c → c < 65536 → Spelled c
spelled_three c low high = record {
  lead = 224 + c / 4096;
  more = next (c / 64) ∷ next c ∷ [];
  bytes = encode_three c low high;
  units = λ enc. weight_lead enc (224 + c / 4096) (omega arith) ∙ of_three enc (224 + c / 4096) c (omega arith) (omega arith) low high;
  follow = (following (c / 64), (following c, tt));
  high = inr (omega arith, omega arith);
}

spelled_four : (c : ℕ) → 65536 ≤ c → Spelled c
spelled_four c low = record {
  lead = 240 + c / 262144;
  more = next (c / 4096) ∷ next (c / 64) ∷ next c ∷ [];
  bytes = encode_four c low;
  units = λ enc. weight_lead enc (240 + c / 262144) (omega arith) ∙ of_four enc (240 + c / 262144) c (omega arith) low;
  follow = (following (c / 4096), (following (c / 64), (following c, tt)));
  high = inr (omega arith, omega arith);
}

pub spelled : (c : ℕ) → Spelled c
spelled c =
    ⊎_elim (λ (h : c < 128). spelled_one c h)
    (λ (g : 128 ≤ c). ⊎_elim (λ (h : c < 2048). spelled_two c g h)
    (λ (f : 2048 ≤ c). ⊎_elim (λ (h : c < 65536). spelled_three c f h) (λ (h : 65536 ≤ c). spelled_four c h) (cases_lt c 65536))
    (cases_lt c 2048))
    (cases_lt c 128)

-- bytes that follow a first one have no units of their own, and end no line
units_none : (enc : Encoding) (more : List ℕ) → AllByRecursion (λ b. (128 ≤ b) × (b < 192)) more → sum_by (weight_at enc) more ≡ 0
units_none enc [] h = refl
units_none enc (b ∷ bs) h = omega (arith, sum_by-cons (weight_at enc) b bs, weight_following enc b h.0.0 h.0.1, units_none enc bs h.1)

fitting_following : (enc : Encoding) (k : ℕ) (more ys : List ℕ) → AllByRecursion (λ b. (128 ≤ b) × (b < 192)) more → fitting (weight_at enc) k (more ++ ys) ≡ more ++ fitting (weight_at enc) k ys
fitting_following enc k [] ys h = refl
fitting_following enc k (b ∷ bs) ys h =
    let none = weight_following enc b h.0.0 h.0.1 in
    let same : k - weight_at enc b ≡ k = omega (arith, none) in
    fitting_more (weight_at enc) k b (bs ++ ys) (omega (arith, none))
    ∙ ap (λ (v : List ℕ). b ∷ v) (ap (λ (n : ℕ). fitting (weight_at enc) n (bs ++ ys)) same ∙ fitting_following enc k bs ys h.1)

no_end_high : (b : ℕ) → 128 ≤ b → is_line_end b ≡ false
no_end_high b h = or_from _ _ (ne_eqb b LINE_FEED (λ e. absurd (omega arith))) (ne_eqb b CARRIAGE_RETURN (λ e. absurd (omega arith)))

no_end_following : (more : List ℕ) → AllByRecursion (λ b. (128 ≤ b) × (b < 192)) more → HasNoLineEnd more
no_end_following [] h = refl
no_end_following (b ∷ bs) h = or_from _ _ (no_end_high b h.0.0) (no_end_following bs h.1)

-- units
pub sum_by-units-encodes : (enc : Encoding) (cs : List ℕ) → sum_by (weight_at enc) (encodes cs) ≡ sum_by (weight_of enc) cs
sum_by-units-encodes enc [] = refl
sum_by-units-encodes enc (c ∷ cs) =
    let s = spelled c in
    let first : sum_by (weight_at enc) (encode c) ≡ weight_of enc c = ap (sum_by (weight_at enc)) s.bytes ∙ sum_by-cons (weight_at enc) s.lead s.more ∙ omega (arith, s.units enc, units_none enc s.more s.follow) in
    omega (arith, sum_by-append (weight_at enc) (encode c) (encodes cs), first, sum_by-units-encodes enc cs, sum_by-cons (weight_of enc) c cs)

pub length-encodes : (cs : List ℕ) → length (encodes cs) ≡ byte_len cs
length-encodes [] = refl
length-encodes (c ∷ cs) = omega (arith, length-append (encode c) (encodes cs), length-encode c, length-encodes cs, sum_by-cons len_utf8 c cs)

fitting_spelled : (enc : Encoding) (k c : ℕ) (ys : List ℕ) → weight_of enc c ≤ k → fitting (weight_at enc) k (encode c ++ ys) ≡ encode c ++ fitting (weight_at enc) (k - weight_of enc c) ys
fitting_spelled enc k c ys h =
    let s = spelled c in
    let same : k - weight_at enc s.lead ≡ k - weight_of enc c = ap (λ (n : ℕ). k - n) (s.units enc) in
    ap (λ (v : List ℕ). fitting (weight_at enc) k (v ++ ys)) s.bytes
    ∙ fitting_more (weight_at enc) k s.lead (s.more ++ ys) (omega (arith, s.units enc))
    ∙ ap (λ (v : List ℕ). s.lead ∷ v) (fitting_following enc (k - weight_at enc s.lead) s.more ys s.follow ∙ ap (λ (n : ℕ). s.more ++ fitting (weight_at enc) n ys) same)
    ∙ ap (λ (v : List ℕ). v ++ fitting (weight_at enc) (k - weight_of enc c) ys) (sym s.bytes)

fitting_unspelled : (enc : Encoding) (k c : ℕ) (ys : List ℕ) → k < weight_of enc c → fitting (weight_at enc) k (encode c ++ ys) ≡ []
fitting_unspelled enc k c ys h =
    let s = spelled c in
    ap (λ (v : List ℕ). fitting (weight_at enc) k (v ++ ys)) s.bytes ∙ fitting_none (weight_at enc) k s.lead (s.more ++ ys) (omega (arith, s.units enc))

-- the bytes of what fits are what fits of the bytes
pub fitting-encodes : (enc : Encoding) (k : ℕ) (cs : List ℕ) → fitting (weight_at enc) k (encodes cs) ≡ encodes (fitting (weight_of enc) k cs)
fitting-encodes enc k [] = refl
fitting-encodes enc k (c ∷ cs) =
    ⊎_elim (λ (h : k < weight_of enc c). fitting_unspelled enc k c (encodes cs) h ∙ sym (ap encodes (fitting_none (weight_of enc) k c cs h)))
    (λ (h : weight_of enc c ≤ k). fitting_spelled enc k c (encodes cs) h ∙ ap (λ (v : List ℕ). encode c ++ v) (fitting-encodes enc (k - weight_of enc c) cs) ∙ sym (ap encodes (fitting_more (weight_of enc) k c cs h)))
    (cases_lt k (weight_of enc c))

-- lines
abbrev pub encoded : Line → Line
encoded l = record { content = encodes l.content; ending = encodes l.ending }

begins_high : (b : ℕ) (bs : List ℕ) → 128 ≤ b → begins_with_line_feed (b ∷ bs) ≡ false
begins_high b bs h = ne_eqb b LINE_FEED (λ e. absurd (omega arith))

begins-encodes : (cs : List ℕ) → begins_with_line_feed (encodes cs) ≡ begins_with_line_feed cs
begins-encodes [] = refl
begins-encodes (c ∷ cs) =
    let s = spelled c in
    ap (λ (v : List ℕ). begins_with_line_feed (v ++ encodes cs)) s.bytes
    ∙ ⊎_elim (λ (e : s.lead ≡ c). ap (λ (x : ℕ). x == LINE_FEED) e)
    (λ (h : (128 ≤ s.lead) × (128 ≤ c)). begins_high s.lead (s.more ++ encodes cs) h.0 ∙ sym (begins_high c cs h.1))
    s.high

abbrev pub with_front : List ℕ → List Line → List Line
with_front xs [] = []
with_front xs (l ∷ ls) = record { content = xs ++ l.content; ending = l.ending } ∷ ls

-- characters that end no line, before a text
lines-no_end : (c : ℕ) (cs : List ℕ) → is_line_end c ≡ false → lines (c ∷ cs) ≡ with_content c (lines cs)
lines-no_end c cs h =
    let parts = or_parts (c == LINE_FEED) (c == CARRIAGE_RETURN) h in
    let no_feed = parts.0 in
    let no_return = parts.1 in rw (no_feed, no_return)

with_content-front : (x : ℕ) (xs : List ℕ) (ls : List Line) → with_content x (with_front xs ls) ≡ with_front (x ∷ xs) ls
with_content-front x xs [] = refl
with_content-front x xs (l ∷ ls) = refl

with_front-nil : (ls : List Line) → ls ≡ with_front [] ls
with_front-nil [] = refl
with_front-nil (l ∷ ls) = refl

pub lines-front : (xs ys : List ℕ) → HasNoLineEnd xs → lines (xs ++ ys) ≡ with_front xs (lines ys)
lines-front [] ys h = with_front-nil (lines ys)
lines-front (x ∷ xs) ys h =
    let parts = or_parts (is_line_end x) (list_any is_line_end xs) h in
    lines-no_end x (xs ++ ys) parts.0 ∙ ap (with_content x) (lines-front xs ys parts.1) ∙ with_content-front x xs (lines ys)

encoded-front : (c : ℕ) (ls : List Line) → with_front (encode c) (map encoded ls) ≡ map encoded (with_content c ls)
encoded-front c [] = refl
encoded-front c (l ∷ ls) = refl

-- a character that is one byte
encoded_step : (t s : Bool) (c : ℕ) (ls : List Line) → encode c ≡ c ∷ [] →
    (if t then record { content = []; ending = c ∷ [] } ∷ map encoded ls else (if s then with_ending c (map encoded ls) else with_content c (map encoded ls)))
    ≡ map encoded (if t then record { content = []; ending = c ∷ [] } ∷ ls else (if s then with_ending c ls else with_content c ls))
encoded_step true s c ls e = rw e
encoded_step false true c [] e = refl
encoded_step false true c (l ∷ ls) e = rw e
encoded_step false false c [] e = refl
encoded_step false false c (l ∷ ls) e = rw e

ends_line-encodes : (c : ℕ) (cs : List ℕ) → ends_line c (encodes cs) ≡ ends_line c cs
ends_line-encodes c cs = let e = begins-encodes cs in rw e

lines_one : (c : ℕ) (cs : List ℕ) → encode c ≡ c ∷ [] → lines (encodes cs) ≡ map encoded (lines cs) → lines (encodes (c ∷ cs)) ≡ map encoded (lines (c ∷ cs))
lines_one c cs e more =
    let same = ends_line-encodes c cs in
    ap (λ (v : List ℕ). lines (v ++ encodes cs)) e
    ∙ rw (same, more) (encoded_step (ends_line c cs) (c == CARRIAGE_RETURN) c (lines cs) e)

no_end-encode : (c : ℕ) → 128 ≤ c → HasNoLineEnd (encode c)
no_end-encode c h =
    let s = spelled c in
    let lead : 128 ≤ s.lead = ⊎_elim (λ (e : s.lead ≡ c). omega (arith, e)) (λ (p : (128 ≤ s.lead) × (128 ≤ c)). p.0) s.high in
    subst HasNoLineEnd (sym s.bytes) (or_from _ _ (no_end_high s.lead lead) (no_end_following s.more s.follow))

lines_more : (c : ℕ) (cs : List ℕ) → 128 ≤ c → lines (encodes cs) ≡ map encoded (lines cs) → lines (encodes (c ∷ cs)) ≡ map encoded (lines (c ∷ cs))
lines_more c cs h more =
    lines-front (encode c) (encodes cs) (no_end-encode c h) ∙ ap (with_front (encode c)) more ∙ encoded-front c (lines cs) ∙ ap (map encoded) (sym (lines-no_end c cs (no_end_high c h)))

pub lines-encodes : (cs : List ℕ) → lines (encodes cs) ≡ map encoded (lines cs)
lines-encodes [] = refl
lines-encodes (c ∷ cs) =
    ⊎_elim (λ (h : c < 128). lines_one c cs (encode_ascii c h) (lines-encodes cs))
    (λ (h : 128 ≤ c). lines_more c cs h (lines-encodes cs))
    (cases_lt c 128)
