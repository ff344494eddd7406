-- The laws of URIs: a path is read back from the URI that is written for it, and no two paths have one URI.
use Rattle.std.proofs.Common.{◌≡◌, ◌≢◌, ℕ, zero, suc, ◌+◌, ◌*◌, ◌/◌, ◌%◌, ◌<◌, ◌≤◌, Bool, true, false, not, ◌&&◌, ◌||◌, ◌==◌, List, [], ◌∷◌, ◌++◌, length, take, drop, refl, sym, ap, ap₂, ◌∙◌, subst, ⊎_elim, ltb, arith, append_assoc}
use Rattle.std.specs.Prelude.{Option, Some, None, if◌then◌else◌, IsUtf8, ⊤}
use Rattle.std.specs.Int.{bit_at}
use Rattle.std.specs.List.{flat_map}
use Rattle.std.specs.Fmt.{digit_glyph}
use Rattle.std.specs.Char.{digit_value, is_digit}
use Rattle.std.specs.Str.{is_utf8}
use Rattle.std.proofs.lemmas.Bool.{cond-true, cond-false, cond_both, ltb-true, le-ltb, cases_lt, and_parts}
use Rattle.std.proofs.lemmas.Bool.Decides.{nat_tests}
use lib.Utf8.{scalar, scalars, encode, encodes, scalar_cases}
use Rattle.std.proofs.lemmas.Str.{IsUtf8-append, IsUtf8-from_is_utf8, is_utf8-from_IsUtf8}
use Rattle.std.specs.Str.{chars}
use Rattle.percent_encoding.proofs.PercentLemmas.{percent_decode-nil}
use Rattle.percent_encoding.specs.AsciiSet.{should_percent_encode}
use Rattle.percent_encoding.specs.Percent.{percent_decode, percent_encode, percent_encode_byte, encode_byte, is_escape}
use Rattle.lsp_docs.specs.declared.uris.TheConstants.{ESCAPED}
use Rattle.lsp_docs.specs.Paths.{Path}
use Rattle.lsp_docs.specs.Uris.{SLASH, is_plain, escaped, uri_below, ends_in_rb, ruby_after, path_below}
use Rattle.lsp_docs.proofs.PathLemmas.{self_path}

-- ---- no two paths have one URI

is_plain_percent : (b : ℕ) → is_plain b ≡ true → b ≢ 37
is_plain_percent b p e = grind (arith, nat_tests)

glyph_differs : (m n : ℕ) → digit_glyph true m ≡ digit_glyph true n → m ≡ n
glyph_differs m n e = grind (arith, nat_tests)

byte_of_digits : (m n : ℕ) → m / 16 ≡ n / 16 → m % 16 ≡ n % 16 → m ≡ n
byte_of_digits m n p q = omega arith

heads_differ : (b c : ℕ) (bs cs : List ℕ) (p q : Bool) → is_plain b ≡ p → is_plain c ≡ q →
    (if p then b ∷ bs else 37 ∷ digit_glyph true (b / 16) ∷ digit_glyph true (b % 16) ∷ bs)
    ≡ (if q then c ∷ cs else 37 ∷ digit_glyph true (c / 16) ∷ digit_glyph true (c % 16) ∷ cs) → (b ≡ c) × (bs ≡ cs)
heads_differ b c bs cs true true p q e = (cc, cc)
heads_differ b c bs cs true false p q e = absurd (let r : b ≡ 37 = cc in is_plain_percent b p r)
heads_differ b c bs cs false true p q e = absurd (let r : c ≡ 37 = cc in is_plain_percent c q r)
heads_differ b c bs cs false false p q e =
    let high : digit_glyph true (b / 16) ≡ digit_glyph true (c / 16) = cc in
    let low : digit_glyph true (b % 16) ≡ digit_glyph true (c % 16) = cc in
    (byte_of_digits b c (glyph_differs _ _ high) (glyph_differs _ _ low), cc)

starts : (b : ℕ) (bs : List ℕ) (p : Bool) →
    [] ≡ (if p then b ∷ bs else 37 ∷ digit_glyph true (b / 16) ∷ digit_glyph true (b % 16) ∷ bs) → ⊥
starts b bs true e = cc
starts b bs false e = cc

pub escaped_differs : (f g : Path) → escaped f ≡ escaped g → f ≡ g
escaped_differs [] [] e = refl
escaped_differs [] (c ∷ cs) e = absurd (starts c (escaped cs) (is_plain c) e)
escaped_differs (b ∷ bs) [] e = absurd (starts b (escaped bs) (is_plain b) (sym e))
escaped_differs (b ∷ bs) (c ∷ cs) e =
    let h = heads_differ b c (escaped bs) (escaped cs) (is_plain b) (is_plain c) refl refl e in
    let t = escaped_differs bs cs h.1 in
    let k = h.0 in
    cc

same_after : (front xs ys : List ℕ) → front ++ xs ≡ front ++ ys → xs ≡ ys
same_after [] xs ys e = e
same_after (c ∷ cs) xs ys e = same_after cs xs ys cc

-- No two paths have one URI.
pub uri_below_differs : (root : List ℕ) (f g : Path) → uri_below root f ≡ uri_below root g → f ≡ g
uri_below_differs root f g e =
    let t = same_after root (SLASH ∷ escaped f) (SLASH ∷ escaped g) e in
    escaped_differs f g cc

-- ---- decoding

decode_slash : (xs : List ℕ) → percent_decode (SLASH ∷ xs) ≡ SLASH ∷ percent_decode xs
unfolding percent_decode
decode_slash [] = refl
decode_slash (c ∷ []) = refl
decode_slash (c ∷ d ∷ rest) = refl

slash_no_digit : (b c d : ℕ) → is_escape b SLASH d ≡ false
slash_no_digit b c d = grind (arith, nat_tests)

no_escape_plain : (b c d : ℕ) → b ≢ 37 → is_escape b c d ≡ false
no_escape_plain b c d p = grind (arith, nat_tests)

decode_plain : (b : ℕ) (xs : List ℕ) → b ≢ 37 → percent_decode (b ∷ xs) ≡ b ∷ percent_decode xs
unfolding percent_decode
decode_plain b [] p = refl
decode_plain b (c ∷ []) p = refl
decode_plain b (c ∷ d ∷ rest) p = cond-false (is_escape b c d) _ _ (no_escape_plain b c d p)

slash_second : (b d : ℕ) → is_escape b SLASH d ≡ false
slash_second b d = grind (arith, nat_tests)

slash_third : (b c : ℕ) → is_escape b c SLASH ≡ false
slash_third b c = grind (arith, nat_tests)

decode_one : (b : ℕ) (xs : List ℕ) → percent_decode (b ∷ SLASH ∷ xs) ≡ b ∷ percent_decode (SLASH ∷ xs)
unfolding percent_decode
decode_one b [] = refl
decode_one b (d ∷ rest) = cond-false (is_escape b SLASH d) _ _ (slash_second b d)

decode_two : (b c : ℕ) (xs : List ℕ) → percent_decode (b ∷ c ∷ SLASH ∷ xs) ≡ b ∷ percent_decode (c ∷ SLASH ∷ xs)
unfolding percent_decode
decode_two b c xs = cond-false (is_escape b c SLASH) _ _ (slash_third b c)

decode_step : (b c d : ℕ) (xs : List ℕ) → percent_decode (b ∷ c ∷ d ∷ xs) ≡
    (if is_escape b c d then (16 * digit_value c + digit_value d) ∷ percent_decode xs else b ∷ percent_decode (c ∷ d ∷ xs))
unfolding percent_decode
decode_step b c d xs = refl

-- a slash ends what an escape could go on with
decode_front : (root xs : List ℕ) → percent_decode (root ++ SLASH ∷ xs) ≡ percent_decode root ++ percent_decode (SLASH ∷ xs)
unfolding percent_decode
decode_front [] xs = refl
decode_front (b ∷ []) xs = decode_one b xs
decode_front (b ∷ c ∷ []) xs = decode_two b c xs ∙ ap (λ t. b ∷ t) (decode_one c xs)
decode_front (b ∷ c ∷ d ∷ root) xs =
    step_cases (is_escape b c d) (decode_front root xs) (decode_front (c ∷ d ∷ root) xs)
  where
    step_cases : (e : Bool) → percent_decode (root ++ SLASH ∷ xs) ≡ percent_decode root ++ percent_decode (SLASH ∷ xs)
        → percent_decode (c ∷ d ∷ root ++ SLASH ∷ xs) ≡ percent_decode (c ∷ d ∷ root) ++ percent_decode (SLASH ∷ xs)
        → (if e then (16 * digit_value c + digit_value d) ∷ percent_decode (root ++ SLASH ∷ xs) else b ∷ percent_decode (c ∷ d ∷ root ++ SLASH ∷ xs))
        ≡ (if e then (16 * digit_value c + digit_value d) ∷ percent_decode root else b ∷ percent_decode (c ∷ d ∷ root)) ++ percent_decode (SLASH ∷ xs)
    step_cases true p q = ap (λ t. (16 * digit_value c + digit_value d) ∷ t) p
    step_cases false p q = ap (λ t. b ∷ t) q

-- ---- a path is read back

-- each number is a byte
abbrev pub AreBytes : List ℕ → Type 0
AreBytes [] = ⊤
AreBytes (b ∷ bs) = (b < 256) × AreBytes bs

glyph_value : (n : ℕ) → n < 16 → digit_value (digit_glyph true n) ≡ n
glyph_value n small = grind (arith, nat_tests)

glyph_digit : (n : ℕ) → n < 16 → is_digit (digit_glyph true n) 16 ≡ true
glyph_digit n small = grind (arith, nat_tests)

decode_digits : (m n : ℕ) (xs : List ℕ) → m < 16 → n < 16 →
    percent_decode (37 ∷ digit_glyph true m ∷ digit_glyph true n ∷ xs) ≡ (16 * m + n) ∷ percent_decode xs
decode_digits m n xs p q =
    let d = decode_step 37 (digit_glyph true m) (digit_glyph true n) xs in
    let e : is_escape 37 (digit_glyph true m) (digit_glyph true n) ≡ true = let a = glyph_digit m p in let b = glyph_digit n q in grind (arith, nat_tests, a, b) in
    d ∙ cond-true _ _ _ e ∙ ap₂ (λ x y. (16 * x + y) ∷ percent_decode xs) (glyph_value m p) (glyph_value n q)

decode_byte : (b : ℕ) (xs : List ℕ) → b < 256 →
    percent_decode (37 ∷ digit_glyph true (b / 16) ∷ digit_glyph true (b % 16) ∷ xs) ≡ b ∷ percent_decode xs
decode_byte b xs small =
    decode_digits (b / 16) (b % 16) xs (omega arith) (omega arith) ∙ ap (λ n. n ∷ percent_decode xs) (omega arith)

decode_escaped : (f : Path) → AreBytes f → percent_decode (escaped f) ≡ f
decode_escaped [] small = percent_decode-nil
decode_escaped (b ∷ bs) small = byte_cases (is_plain b) refl ∙ ap (λ t. b ∷ t) (decode_escaped bs small.1)
  where
    byte_cases : (p : Bool) → is_plain b ≡ p →
        percent_decode (if p then b ∷ escaped bs else 37 ∷ digit_glyph true (b / 16) ∷ digit_glyph true (b % 16) ∷ escaped bs)
        ≡ b ∷ percent_decode (escaped bs)
    byte_cases true p = decode_plain b (escaped bs) (is_plain_percent b p)
    byte_cases false p = decode_byte b (escaped bs) small.0

decode_uri : (root : List ℕ) (f : Path) → AreBytes f → percent_decode (uri_below root f) ≡ (percent_decode root ++ SLASH ∷ []) ++ f
decode_uri root f small =
    decode_front root (escaped f)
    ∙ ap (λ t. percent_decode root ++ t) (decode_slash (escaped f) ∙ ap (λ t. SLASH ∷ t) (decode_escaped f small))
    ∙ sym (append_assoc (percent_decode root) (SLASH ∷ []) f)

take_front : (xs ys : List ℕ) → take (length xs) (xs ++ ys) ≡ xs
take_front [] ys = refl
take_front (x ∷ xs) ys = ap (λ t. x ∷ t) (take_front xs ys)

drop_front : (xs ys : List ℕ) → drop (length xs) (xs ++ ys) ≡ ys
drop_front [] ys = refl
drop_front (x ∷ xs) ys = drop_front xs ys

ruby_after_front : (front f : List ℕ) → ends_in_rb f ≡ true → ruby_after front (front ++ f) ≡ Some f
ruby_after_front front f rb =
    let s = self_path front in
    rw (take_front front f, drop_front front f) (grind (arith, nat_tests, s, rb))

AreBytes-append : (xs ys : List ℕ) → AreBytes xs → AreBytes ys → AreBytes (xs ++ ys)
AreBytes-append [] ys p q = q
AreBytes-append (x ∷ xs) ys p q = (p.0, AreBytes-append xs ys p.1 q)

-- the bytes of a character are bytes
AreBytes-encode : (c : ℕ) → scalar c ≡ true → AreBytes (encode c)
unfolding encode
AreBytes-encode c s =
    let bound : c < 1114112 = ⊎_elim (λ h. omega arith) (λ h. h.1) (scalar_cases c s) in
    cond_both (ltb c 128) _ _ AreBytes
    (λ e. (omega (arith, ltb-true c 128 e), tt))
    (λ e. cond_both (ltb c 2048) _ _ AreBytes
    (λ d. (omega (arith, ltb-true c 2048 d), (omega arith, tt)))
    (λ d. cond_both (ltb c 65536) _ _ AreBytes
    (λ b. (omega (arith, ltb-true c 65536 b), (omega arith, (omega arith, tt))))
    (λ b. (omega (arith, bound), (omega arith, (omega arith, (omega arith, tt)))))))

AreBytes-encodes : (cs : List ℕ) → scalars cs ≡ true → AreBytes (encodes cs)
AreBytes-encodes [] s = tt
AreBytes-encodes (c ∷ cs) s =
    let parts = and_parts (scalar c) (scalars cs) s in
    AreBytes-append (encode c) (encodes cs) (AreBytes-encode c parts.0) (AreBytes-encodes cs parts.1)

pub AreBytes-IsUtf8 : (bs : List ℕ) → IsUtf8 bs → AreBytes bs
AreBytes-IsUtf8 bs text = subst AreBytes text.1.1 (AreBytes-encodes text.0 text.1.0)

slash_text : IsUtf8 (SLASH ∷ [])
slash_text = IsUtf8-from_is_utf8 (SLASH ∷ []) (unfold is_utf8 chars encode in refl)

-- The path of the URI of a path is that path, where it is a text that ends in `.rb` and the root decodes to a text.
pub path_of_uri : (root : List ℕ) (f : Path) → IsUtf8 (percent_decode root) → IsUtf8 f → ends_in_rb f ≡ true →
    path_below root (uri_below root f) ≡ Some f
path_of_uri root f front text rb =
    let whole : IsUtf8 ((percent_decode root ++ SLASH ∷ []) ++ f) =
    IsUtf8-append _ _ (IsUtf8-append _ _ front slash_text) text in
    rw (decode_uri root f (AreBytes-IsUtf8 f text))
    (cond-true _ _ _ (is_utf8-from_IsUtf8 _ whole) ∙ ruby_after_front (percent_decode root ++ SLASH ∷ []) f rb)

-- ---- what is escaped
-- one of the two holds
abbrev differ : Bool → Bool → Bool
differ true false = true
differ false true = true
differ a b = false

differ_not : (a b : Bool) → differ a b ≡ true → a ≡ not b
differ_not true true d = cc
differ_not true false d = refl
differ_not false true d = refl
differ_not false false d = cc

abbrev differ_below : ℕ → Bool
differ_below zero = true
differ_below (suc n) = differ (should_percent_encode ESCAPED n) (is_plain n) && differ_below n

ascii_checked : differ_below 128 ≡ true
unfolding should_percent_encode
ascii_checked = refl

below_checked : (n b : ℕ) → b < n → differ_below n ≡ true → differ (should_percent_encode ESCAPED b) (is_plain b) ≡ true
below_checked zero b less all = absurd (omega (arith, less))
below_checked (suc n) b less all =
    let parts = and_parts (differ (should_percent_encode ESCAPED n) (is_plain n)) (differ_below n) all in
    ⊎_elim (λ (low : b < n). below_checked n b low parts.1)
    (λ (high : n ≤ b). let same : b ≡ n = omega (arith, less, high) in subst (λ k. differ (should_percent_encode ESCAPED k) (is_plain k) ≡ true) (sym same) parts.0)
    (cases_lt b n)

high_escaped : (b : ℕ) → 128 ≤ b → should_percent_encode ESCAPED b ≡ true
unfolding should_percent_encode
high_escaped b high = ap (λ t. not t || (bit_at ESCAPED.mask b == 1)) (le-ltb b 128 high)

high_plain : (b : ℕ) → 128 ≤ b → is_plain b ≡ false
high_plain b high = grind (arith, nat_tests)

escapes_others : (b : ℕ) → should_percent_encode ESCAPED b ≡ not (is_plain b)
escapes_others b =
    ⊎_elim (λ (low : b < 128). differ_not _ _ (below_checked 128 b low ascii_checked))
    (λ (high : 128 ≤ b). high_escaped b high ∙ sym (ap not (high_plain b high)))
    (cases_lt b 128)

byte_escaped : (b : ℕ) → b < 256 → percent_encode_byte b ≡ 37 ∷ digit_glyph true (b / 16) ∷ digit_glyph true (b % 16) ∷ []
unfolding percent_encode_byte
byte_escaped b small =
    let high : b / 16 % 16 ≡ b / 16 = omega (arith, small) in
    ap (λ n. 37 ∷ digit_glyph true n ∷ digit_glyph true (b % 16) ∷ []) high

pub percent_encode_is : (f : Path) → AreBytes f → percent_encode ESCAPED f ≡ escaped f
unfolding percent_encode
percent_encode_is [] small = refl
percent_encode_is (b ∷ bs) small = by (is_plain b) refl (percent_encode_is bs small.1)
  where
    by : (p : Bool) → is_plain b ≡ p → flat_map (encode_byte ESCAPED) bs ≡ escaped bs
        → encode_byte ESCAPED b ++ flat_map (encode_byte ESCAPED) bs
        ≡ (if p then b ∷ escaped bs else 37 ∷ digit_glyph true (b / 16) ∷ digit_glyph true (b % 16) ∷ escaped bs)
    by true p rest =
        ap (λ t. (if t then percent_encode_byte b else b ∷ []) ++ flat_map (encode_byte ESCAPED) bs) (escapes_others b ∙ ap not p)
        ∙ ap (λ t. b ∷ t) rest
    by false p rest =
        ap (λ t. (if t then percent_encode_byte b else b ∷ []) ++ flat_map (encode_byte ESCAPED) bs) (escapes_others b ∙ ap not p)
        ∙ ap (λ t. t ++ flat_map (encode_byte ESCAPED) bs) (byte_escaped b small.0)
        ∙ ap (λ t. 37 ∷ digit_glyph true (b / 16) ∷ digit_glyph true (b % 16) ∷ t) rest

-- ---- the test of a URI
no_text : (b : Bool) (bytes : List ℕ) → is_utf8 bytes ≡ b → ¬ (IsUtf8 bytes) → b ≡ false
no_text true bytes is not_text = absurd (not_text (IsUtf8-from_is_utf8 bytes is))
no_text false bytes is not_text = refl

abbrev path_if_text : List ℕ → List ℕ → Bool → Option Path
path_if_text front text b = if b then ruby_after front text else None

pub path_none : (root uri : List ℕ) → ¬ (IsUtf8 (percent_decode uri)) → path_below root uri ≡ None
path_none root uri not_text =
    ap (path_if_text (percent_decode root ++ SLASH ∷ []) (percent_decode uri)) (no_text (is_utf8 (percent_decode uri)) (percent_decode uri) refl not_text)

pub path_some : (root uri : List ℕ) → IsUtf8 (percent_decode uri) → path_below root uri ≡ ruby_after (percent_decode root ++ SLASH ∷ []) (percent_decode uri)
path_some root uri text =
    ap (path_if_text (percent_decode root ++ SLASH ∷ []) (percent_decode uri)) (is_utf8-from_IsUtf8 (percent_decode uri) text)
