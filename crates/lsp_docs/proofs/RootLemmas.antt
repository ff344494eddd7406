-- Roots without their slashes, and what stands after a front.
use Rattle.std.proofs.Common.{◌≡◌, ℕ, zero, suc, ◌+◌, ◌-◌, ◌<◌, ◌≤◌, Bool, true, false, not, ◌&&◌, ◌==◌, List, [], ◌∷◌, ◌++◌, length, take, drop, get_or, refl, sym, ap, ◌∙◌, subst, arith}
use Rattle.std.specs.Prelude.{Some, None, bytes_eq, position, nat_lt, if◌then◌else◌}
use Rattle.std.specs.List.{prefix_len}
use Rattle.std.specs.Str.{IsUtf8, IsCharBoundary}
use Rattle.std.proofs.lemmas.Bool.{ltb-true, ltb-false}
use Rattle.std.proofs.lemmas.Bool.Decides.{nat_tests}
use Rattle.std.proofs.lemmas.List.{append_assoc, drop-drop, length-take-le}
use Rattle.std.proofs.Math.Seq.{take-add}
use Rattle.std.proofs.lemmas.Option.{same_Some}
use Rattle.std.proofs.lemmas.Slice.Eq.{bytes_eq-Decides}
use Rattle.std.proofs.lemmas.Str.{IsCharBoundary-after_ascii}
use Rattle.lsp_docs.specs.Uris.{SLASH, COLON, is_empty, without_slashes, after_colon, trimmed, ends_in_rb, ruby_after}

-- ---- the first colon
abbrev no_colon : ℕ → Bool
no_colon c = not (c == COLON)

same_byte : (c b : ℕ) → (c == b) ≡ true → c ≡ b
same_byte c b e = grind (arith, nat_tests)

-- how many bytes stand before the first colon
abbrev before_colon : List ℕ → ℕ
before_colon xs = prefix_len no_colon xs

without_colon : (xs : List ℕ) → length xs ≤ before_colon xs → trimmed xs ≡ without_slashes xs
without_colon [] le = refl
without_colon (x ∷ xs) le = by (x == COLON) refl (without_colon xs)
  where
    by : (b : Bool) → (x == COLON) ≡ b → (length xs ≤ before_colon xs → trimmed xs ≡ without_slashes xs)
        → trimmed (x ∷ xs) ≡ without_slashes (x ∷ xs)
    by true is rest = absurd (let long : prefix_len no_colon (x ∷ xs) ≡ 0 = rw is refl in omega (arith, le, long))
    by false is rest =
        let long : prefix_len no_colon (x ∷ xs) ≡ 1 + before_colon xs = rw is refl in
        ap (λ b. if b then COLON ∷ after_colon xs else (if x == SLASH && is_empty (trimmed xs) then [] else x ∷ trimmed xs)) is
        ∙ ap (λ t. if x == SLASH && is_empty t then [] else x ∷ t) (rest (omega (arith, le, long)))

not_empty : (x : ℕ) (t : List ℕ) (y : ℕ) (ys : List ℕ) → t ≡ y ∷ ys → (if x == SLASH && is_empty t then [] else x ∷ t) ≡ x ∷ t
not_empty x t y ys is = grind (arith, nat_tests, ap is_empty is)

first_taken : (n : ℕ) (xs tail : List ℕ) → n < length xs → (y : ℕ) × (ys : List ℕ) × (take (n + 1) xs ++ tail ≡ y ∷ ys)
first_taken n [] tail within = absurd (omega (arith, within))
first_taken n (x ∷ xs) tail within =
    (x, take n xs ++ tail, ap (λ k. take k (x ∷ xs) ++ tail) (next_is n))
  where
    next_is : (k : ℕ) → k + 1 ≡ suc k
    next_is k = omega arith

at_colon : (xs : List ℕ) → before_colon xs < length xs → trimmed xs ≡ take (before_colon xs + 1) xs ++ after_colon (drop (before_colon xs + 1) xs)
at_colon [] within = absurd (omega (arith, within))
at_colon (x ∷ xs) within = by (x == COLON) refl (at_colon xs)
  where
    by : (b : Bool) → (x == COLON) ≡ b → (before_colon xs < length xs → trimmed xs ≡ take (before_colon xs + 1) xs ++ after_colon (drop (before_colon xs + 1) xs))
        → trimmed (x ∷ xs) ≡ take (before_colon (x ∷ xs) + 1) (x ∷ xs) ++ after_colon (drop (before_colon (x ∷ xs) + 1) (x ∷ xs))
    by true is rest =
        let long : prefix_len no_colon (x ∷ xs) + 1 ≡ suc 0 = rw is refl in
        ap (λ b. if b then COLON ∷ after_colon xs else (if x == SLASH && is_empty (trimmed xs) then [] else x ∷ trimmed xs)) is
        ∙ ap (λ c. c ∷ after_colon xs) (sym (same_byte x COLON is))
        ∙ sym (ap (λ n. take n (x ∷ xs) ++ after_colon (drop n (x ∷ xs))) long)
    by false is rest =
        let long : prefix_len no_colon (x ∷ xs) ≡ 1 + before_colon xs = rw is refl in
        let more : prefix_len no_colon (x ∷ xs) + 1 ≡ suc (before_colon xs + 1) = omega (arith, long) in
        let within' : before_colon xs < length xs = omega (arith, within, long) in
        let tail = rest within' in
        let head = first_taken (before_colon xs) xs (after_colon (drop (before_colon xs + 1) xs)) within' in
        ap (λ b. if b then COLON ∷ after_colon xs else (if x == SLASH && is_empty (trimmed xs) then [] else x ∷ trimmed xs)) is
        ∙ not_empty x (trimmed xs) head.0 head.1 (tail ∙ head.2)
        ∙ ap (λ t. x ∷ t) tail
        ∙ sym (ap (λ n. take n (x ∷ xs) ++ after_colon (drop n (x ∷ xs))) more)

position_none : (n len : ℕ) (b : Bool) → nat_lt n len ≡ b → (if b then Some n else None) ≡ None → len ≤ n
position_none n len true is none = cc
position_none n len false is none = ltb-false n len is

position_some : (n len i : ℕ) (b : Bool) → nat_lt n len ≡ b → (if b then Some n else None) ≡ Some i → (n < len) × (n ≡ i)
position_some n len i true is some = (ltb-true n len is, same_Some n i some)
position_some n len i false is some = cc

pub no_colon_kept : (xs : List ℕ) → position (λ byte. byte == COLON) xs ≡ None → trimmed xs ≡ without_slashes xs
no_colon_kept xs none = without_colon xs (position_none (before_colon xs) (length xs) (nat_lt (before_colon xs) (length xs)) refl none)

pub colon_kept : (xs : List ℕ) (i : ℕ) → position (λ byte. byte == COLON) xs ≡ Some i
    → trimmed xs ≡ take (i + 1) xs ++ after_colon (drop (i + 1) xs)
colon_kept xs i some =
    let at = position_some (before_colon xs) (length xs) i (nat_lt (before_colon xs) (length xs)) refl some in
    subst (λ n. trimmed xs ≡ take (n + 1) xs ++ after_colon (drop (n + 1) xs)) at.1 (at_colon xs at.0)

-- two texts are compared alike in both ways
two_ways : (xs ys : List ℕ) (b : Bool) → bytes_eq ys xs ≡ b → bytes_eq xs ys ≡ b
two_ways xs ys true is = let d = bytes_eq-Decides xs ys in let same = sym ((bytes_eq-Decides ys xs).0 is) in grind (arith, d, same)
two_ways xs ys false is = by (bytes_eq xs ys) refl
  where
    by : (t : Bool) → bytes_eq xs ys ≡ t → t ≡ false
    by false other = refl
    by true same = let e = bytes_eq-Decides ys xs in let eq = (bytes_eq-Decides xs ys).0 same in grind (arith, e, eq, is)

three : (i : ℕ) → i + 3 ≡ (i + 1) + 2
three i = omega arith

pub colon_alone : (xs rest : List ℕ) (i : ℕ) → position (λ byte. byte == COLON) xs ≡ Some i → rest ≡ drop (i + 1) xs
    → bytes_eq (SLASH ∷ SLASH ∷ []) (take 2 rest) ≡ false → trimmed xs ≡ take (i + 1) xs ++ without_slashes (drop (i + 1) xs)
colon_alone xs rest i some is test =
    let turned = two_ways (take 2 rest) (SLASH ∷ SLASH ∷ []) false test in
    colon_kept xs i some ∙ ap (λ t. take (i + 1) xs ++ after_colon t) (sym is)
    ∙ ap (λ b. take (i + 1) xs ++ (if b then SLASH ∷ SLASH ∷ without_slashes (drop 2 rest) else without_slashes rest)) turned
    ∙ ap (λ t. take (i + 1) xs ++ without_slashes t) is

pub colon_slashes : (xs rest : List ℕ) (i : ℕ) → position (λ byte. byte == COLON) xs ≡ Some i → rest ≡ drop (i + 1) xs
    → bytes_eq (SLASH ∷ SLASH ∷ []) (take 2 rest) ≡ true → trimmed xs ≡ take (i + 3) xs ++ without_slashes (drop (i + 3) xs)
colon_slashes xs rest i some is test =
    let turned = two_ways (take 2 rest) (SLASH ∷ SLASH ∷ []) true test in
    let two : take 2 (drop (i + 1) xs) ≡ SLASH ∷ SLASH ∷ [] = ap (take 2) (sym is) ∙ sym ((bytes_eq-Decides (SLASH ∷ SLASH ∷ []) (take 2 rest)).0 test) in
    let front : take (i + 3) xs ≡ take (i + 1) xs ++ SLASH ∷ SLASH ∷ [] = ap (λ n. take n xs) (three i) ∙ take-add (i + 1) 2 xs ∙ ap (λ t. take (i + 1) xs ++ t) two in
    let back : drop 2 (drop (i + 1) xs) ≡ drop (i + 3) xs = drop-drop 2 (i + 1) xs ∙ ap (λ n. drop n xs) (sym (three i)) in
    colon_kept xs i some ∙ ap (λ t. take (i + 1) xs ++ after_colon t) (sym is)
    ∙ ap (λ b. take (i + 1) xs ++ (if b then SLASH ∷ SLASH ∷ without_slashes (drop 2 rest) else without_slashes rest)) turned
    ∙ ap (λ t. take (i + 1) xs ++ SLASH ∷ SLASH ∷ without_slashes t) (ap (drop 2) is ∙ back)
    ∙ sym (append_assoc (take (i + 1) xs) (SLASH ∷ SLASH ∷ []) (without_slashes (drop (i + 3) xs)))
    ∙ ap (λ t. t ++ without_slashes (drop (i + 3) xs)) (sym front)

-- ---- the slashes at the end
slash_dropped : (xs : List ℕ) → without_slashes (xs ++ SLASH ∷ []) ≡ without_slashes xs
slash_dropped [] = refl
slash_dropped (x ∷ xs) = ap (λ t. if x == SLASH && is_empty t then [] else x ∷ t) (slash_dropped xs)

other_kept : (xs : List ℕ) (c : ℕ) → (c == SLASH) ≡ false → without_slashes (xs ++ c ∷ []) ≡ xs ++ c ∷ []
other_kept [] c other = ap (λ b. if b && true then [] else c ∷ []) other
other_kept (x ∷ xs) c other =
    ap (λ t. if x == SLASH && is_empty t then [] else x ∷ t) (other_kept xs c other) ∙ full (xs ++ c ∷ []) (not_nil xs)
  where
    not_nil : (ys : List ℕ) → is_empty (ys ++ c ∷ []) ≡ false
    not_nil [] = refl
    not_nil (y ∷ ys) = refl

    full : (t : List ℕ) → is_empty t ≡ false → (if x == SLASH && is_empty t then [] else x ∷ t) ≡ x ∷ t
    full t some = grind (arith, nat_tests, some)

snoc_at : (xs : List ℕ) (k : ℕ) → k < length xs → take (suc k) xs ≡ take k xs ++ get_or xs k 0 ∷ []
snoc_at [] k within = absurd (omega (arith, within))
snoc_at (x ∷ xs) zero within = refl
snoc_at (x ∷ xs) (suc k) within = ap (λ t. x ∷ t) (snoc_at xs k (omega (arith, within)))

take_last : (xs : List ℕ) (end : ℕ) → 0 < end → end ≤ length xs → take end xs ≡ take (end - 1) xs ++ get_or xs (end - 1) 0 ∷ []
take_last xs end some within =
    let one : end ≡ suc (end - 1) = omega (arith, some) in
    ap (λ n. take n xs) one ∙ snoc_at xs (end - 1) (omega (arith, some, within))

drop_snoc : (k : ℕ) (xs : List ℕ) (c : ℕ) → k ≤ length xs → drop k (xs ++ c ∷ []) ≡ drop k xs ++ c ∷ []
drop_snoc zero xs c within = refl
drop_snoc (suc k) [] c within = absurd (omega (arith, within))
drop_snoc (suc k) (x ∷ xs) c within = drop_snoc k xs c (omega (arith, within))

pub slash_step : (xs : List ℕ) (kept end : ℕ) → kept < end → end ≤ length xs → get_or xs (end - 1) 0 ≡ SLASH
    → without_slashes (drop kept (take end xs)) ≡ without_slashes (drop kept (take (end - 1) xs))
slash_step xs kept end less within is =
    ap (λ t. without_slashes (drop kept t)) (take_last xs end (omega (arith, less)) within ∙ ap (λ c. take (end - 1) xs ++ c ∷ []) is)
    ∙ ap without_slashes (drop_snoc kept (take (end - 1) xs) SLASH (omega (arith, length-take-le (end - 1) xs (omega (arith, within)), less)))
    ∙ slash_dropped (drop kept (take (end - 1) xs))

take_all : (kept end : ℕ) (xs : List ℕ) → kept ≤ end → take kept xs ++ drop kept (take end xs) ≡ take end xs
take_all zero end xs le = refl
take_all (suc kept) zero xs le = absurd (omega (arith, le))
take_all (suc kept) (suc end) [] le = refl
take_all (suc kept) (suc end) (x ∷ xs) le = ap (λ t. x ∷ t) (take_all kept end xs (omega (arith, le)))

pub slashes_done : (xs : List ℕ) (kept end : ℕ) → kept < end → end ≤ length xs → (get_or xs (end - 1) 0 == SLASH) ≡ false
    → take kept xs ++ without_slashes (drop kept (take end xs)) ≡ take end xs
slashes_done xs kept end less within is =
    let last = take_last xs end (omega (arith, less)) within in
    let dropped = drop_snoc kept (take (end - 1) xs) (get_or xs (end - 1) 0) (omega (arith, length-take-le (end - 1) xs (omega (arith, within)), less)) in
    ap (λ t. take kept xs ++ without_slashes (drop kept t)) last
    ∙ ap (λ t. take kept xs ++ without_slashes t) dropped
    ∙ ap (λ t. take kept xs ++ t) (other_kept (drop kept (take (end - 1) xs)) (get_or xs (end - 1) 0) is)
    ∙ ap (λ t. take kept xs ++ t) (sym dropped ∙ ap (drop kept) (sym last))
    ∙ take_all kept end xs (omega (arith, less))

drop_taken : (n : ℕ) (xs : List ℕ) → drop n (take n xs) ≡ []
drop_taken zero xs = refl
drop_taken (suc n) [] = refl
drop_taken (suc n) (x ∷ xs) = drop_taken n xs

append_nil : (xs : List ℕ) → xs ++ [] ≡ xs
append_nil [] = refl
append_nil (x ∷ xs) = ap (λ t. x ∷ t) (append_nil xs)

pub none_left : (xs : List ℕ) (kept end : ℕ) → kept ≤ end → end ≤ kept → take kept xs ++ without_slashes (drop kept (take end xs)) ≡ take end xs
none_left xs kept end le ge =
    let same : end ≡ kept = omega (arith, le, ge) in
    ap (λ n. take kept xs ++ without_slashes (drop kept (take n xs))) same
    ∙ ap (λ t. take kept xs ++ without_slashes t) (drop_taken kept xs) ∙ append_nil (take kept xs) ∙ ap (λ n. take n xs) (sym same)

-- ---- after a front that ends in a slash
nonempty : (front : List ℕ) → get_or front (length front - 1) 0 ≡ 47 → 0 < length front
nonempty [] is = absurd (omega (arith, is))
nonempty (x ∷ xs) is = omega arith

taken_long : (n : ℕ) (xs : List ℕ) → length (take n xs) ≡ n → n ≤ length xs
taken_long zero xs is = omega arith
taken_long (suc n) [] is = absurd (omega (arith, is))
taken_long (suc n) (x ∷ xs) is = omega (arith, taken_long n xs (omega (arith, is)))

get_taken : (n : ℕ) (xs : List ℕ) (i : ℕ) → i < n → get_or (take n xs) i 0 ≡ get_or xs i 0
get_taken zero xs i less = absurd (omega (arith, less))
get_taken (suc n) [] i less = refl
get_taken (suc n) (x ∷ xs) zero less = refl
get_taken (suc n) (x ∷ xs) (suc i) less = get_taken n xs i (omega (arith, less))

pub no_front : (front text : List ℕ) → IsUtf8 text → get_or front (length front - 1) 0 ≡ 47 → ¬ (IsCharBoundary text (length front)) → ruby_after front text ≡ None
no_front front text utf8 slash no_cut = by (bytes_eq (take (length front) text) front) refl
  where
    cut : take (length front) text ≡ front → IsCharBoundary text (length front)
    cut same =
        let some : 0 < length front = nonempty front slash in
        let long : length front ≤ length text = taken_long (length front) text (ap length same) in
        let byte : get_or text (length front - 1) 0 ≡ 47 = sym (get_taken (length front) text (length front - 1) (omega (arith, some))) ∙ ap (λ t. get_or t (length front - 1) 0) same ∙ slash in
        subst (λ n. IsCharBoundary text n) (omega (arith, some)) (IsCharBoundary-after_ascii text (length front - 1) utf8 (omega (arith, some, long)) (omega (arith, byte)))

    by : (b : Bool) → bytes_eq (take (length front) text) front ≡ b → ruby_after front text ≡ None
    by true is = absurd (no_cut (cut ((bytes_eq-Decides (take (length front) text) front).0 is)))
    by false is = ap (λ b. if b && ends_in_rb (drop (length front) text) then Some (drop (length front) text) else None) is

pub other_byte : (c b : ℕ) → ¬ (c ≡ b) → (c == b) ≡ false
other_byte c b other = grind (arith, nat_tests)
