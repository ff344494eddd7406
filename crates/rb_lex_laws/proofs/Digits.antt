-- Digits, fractions and exponents at the front of a text.
use Rattle.std.proofs.Common.{◌≡◌, ℕ, suc, ◌+◌, ◌<◌, ◌≤◌, ◌⊎◌, Bool, true, false, not, ◌==◌, ◌&&◌, ◌||◌, if◌then◌else◌, List, [], ◌∷◌, ◌++◌, length, drop, inl, inr, refl, sym, ap, ◌∙◌, arith}
use Rattle.std.specs.Prelude.{slice_index}
use Rattle.std.proofs.Math.Seq.{drop-append-add}
use Rattle.std.proofs.lemmas.Bool.Decides.{nat_tests}
use Rattle.rb_lex.specs.Chars.{is_in}
use Rattle.rb_lex.specs.Numbers.{more_digits, digits_len, exponent_end}
use Rattle.rb_lex.specs.declared.chars.Set.{Set}
use Rattle.rb_lex.specs.declared.chars.Set.TheVariants as set
use Rattle.rb_rules.specs.Spellings.{AreDigits, IsExponent}
use Rattle.rb_rules.specs.Spellings.AreDigits.{One, More, Parted}
use Rattle.rb_rules.specs.Spellings.IsExponent.{Missing, Unsigned, Raised, Lowered}
use Rattle.rb_lex_laws.proofs.Lists.{if-true, if-false, and-both, both-and, or-either, left-or, right-or, not-of, no-both, eq-is, tail-at}
use Rattle.rb_lex_laws.proofs.Longest.{digits-longest}
use Rattle.rb_lex_laws.proofs.Runs.{nothing-in}

-- whether digits go on here
abbrev pub goes_on : Set → List ℕ → Bool
goes_on s r = is_in s (slice_index r 0) || (slice_index r 0 == 95 && is_in s (slice_index r 1))

pub record Digits (s : Set) (z : List ℕ) : Type 0 where
  pub digits : List ℕ
  pub rest : List ℕ
  pub whole : digits ++ rest ≡ z
  pub are : AreDigits (is_in s) digits
  pub stops : goes_on s rest ≡ false
  pub more : more_digits s z ≡ length digits

more-on : (s : Set) (b : ℕ) (z : List ℕ) → goes_on s (b ∷ z) ≡ true → more_digits s (b ∷ z) ≡ 1 + more_digits s z
more-on s b z h = if-true (is_in s b || (b == 95 && is_in s (slice_index z 0))) (1 + more_digits s z) 0 (ap (λ c. is_in s b || (b == 95 && is_in s c)) (tail-at (b ∷ z)) ∙ h)

more-not : (s : Set) (z : List ℕ) → goes_on s z ≡ false → more_digits s z ≡ 0
more-not s [] h = refl
more-not s (b ∷ z) h = if-false (is_in s b || (b == 95 && is_in s (slice_index z 0))) (1 + more_digits s z) 0 (ap (λ c. is_in s b || (b == 95 && is_in s c)) (tail-at (b ∷ z)) ∙ h)

-- `_` before a digit
parted-on : (s : Set) (b c : ℕ) (z : List ℕ) → (b == 95) ≡ true → is_in s c ≡ true → goes_on s (b ∷ c ∷ z) ≡ true
parted-on s b c z e h = right-or (is_in s b) (b == 95 && is_in s c) (both-and (b == 95) (is_in s c) e h)

more-first : (s : Set) (d : ℕ) (z : List ℕ) → is_in s d ≡ true → more_digits s (d ∷ z) ≡ 1 + more_digits s z
more-first s d z h = more-on s d z (left-or (is_in s d) (d == 95 && is_in s (slice_index (d ∷ z) 1)) h)

last-digit : (s : Set) (d : ℕ) (z : List ℕ) → is_in s d ≡ true → goes_on s z ≡ false → Digits s (d ∷ z)
last-digit s d z h stops =
    let n : 1 + more_digits s z ≡ 1 = omega (arith, more-not s z stops) in
    record { digits = d ∷ []; rest = z; whole = refl; are = One d h; stops = stops; more = more-first s d z h ∙ n }

next-digit : (s : Set) (d : ℕ) (z : List ℕ) → is_in s d ≡ true → Digits s z → Digits s (d ∷ z)
next-digit s d z h m =
    let n : 1 + more_digits s z ≡ suc (length m.digits) = omega (arith, m.more) in
    record { digits = d ∷ m.digits; rest = m.rest; whole = ap (λ y. d ∷ y) m.whole; are = More d m.digits h m.are; stops = m.stops; more = more-first s d z h ∙ n }

part-digit : (s : Set) (d b c : ℕ) (z : List ℕ) → is_in s d ≡ true → (b == 95) ≡ true → is_in s c ≡ true → Digits s (c ∷ z) → Digits s (d ∷ b ∷ c ∷ z)
part-digit s d b c z h e k m =
    let first = more-first s d (b ∷ c ∷ z) h in
    let bar = more-on s b (c ∷ z) (parted-on s b c z e k) in
    let n : more_digits s (d ∷ b ∷ c ∷ z) ≡ suc (suc (length m.digits)) = omega (arith, m.more) in
    record { digits = d ∷ 95 ∷ m.digits; rest = m.rest; whole = ap (λ y. d ∷ 95 ∷ y) m.whole ∙ ap (λ x. d ∷ x ∷ c ∷ z) (sym (eq-is b 95 e)); are = Parted d m.digits h m.are; stops = m.stops; more = n }

pub digits-from : (s : Set) (d : ℕ) (z : List ℕ) → is_in s d ≡ true → Digits s (d ∷ z)
digits-from s d [] h = last-digit s d [] h (nothing s)
  where
    nothing : (s : Set) → goes_on s [] ≡ false
    nothing set.Word = refl
    nothing set.Blank = refl
    nothing set.Binary = refl
    nothing set.Octal = refl
    nothing set.Decimal = refl
    nothing set.Hexadecimal = refl
digits-from s d (b ∷ []) h = by (is_in s b) refl (digits-from s b [])
  where
    by : (t : Bool) → is_in s b ≡ t → (is_in s b ≡ true → Digits s (b ∷ [])) → Digits s (d ∷ b ∷ [])
    by true e next = next-digit s d (b ∷ []) h (next e)
    by false e next =
        last-digit s d (b ∷ []) h (ap (λ t. t || (b == 95 && is_in s 0)) e ∙ ap (λ t. b == 95 && t) (nothing-in s) ∙ no-right (b == 95))
      where
        no-right : (t : Bool) → (t && false) ≡ false
        no-right true = refl
        no-right false = refl
digits-from s d (b ∷ c ∷ z) h = by (is_in s b) refl (b == 95 && is_in s c) refl (digits-from s b (c ∷ z)) (digits-from s c z)
  where
    by : (t : Bool) → is_in s b ≡ t → (u : Bool) → (b == 95 && is_in s c) ≡ u → (is_in s b ≡ true → Digits s (b ∷ c ∷ z)) → (is_in s c ≡ true → Digits s (c ∷ z)) → Digits s (d ∷ b ∷ c ∷ z)
    by true e u k next far = next-digit s d (b ∷ c ∷ z) h (next e)
    by false e true k next far = let both = and-both (b == 95) (is_in s c) k in part-digit s d b c z h both.0 both.1 (far both.1)
    by false e false k next far = last-digit s d (b ∷ c ∷ z) h (ap (λ t. t || (b == 95 && is_in s c)) e ∙ k)

pub digits_len-more : (s : Set) (z : List ℕ) → is_in s (slice_index z 0) ≡ true → digits_len s z ≡ more_digits s z
digits_len-more s [] h = no-both (is_in s 0) h (nothing-in s)
digits_len-more s (d ∷ z) h =
    let some : (suc (length z) == 0) ≡ false = grind (arith, nat_tests) in
    ap (λ t. if t then more_digits s (d ∷ z) else 0) (both-and (not (length (d ∷ z) == 0)) (is_in s d) (not-of (suc (length z) == 0) some) h)

pub digits-of : (s : Set) (z : List ℕ) → is_in s (slice_index z 0) ≡ true → Digits s z
digits-of s [] h = no-both (is_in s 0) h (nothing-in s)
digits-of s (d ∷ z) h = digits-from s d z h

-- digits end where none go on
pub digits-end : (s : Set) (a r : List ℕ) → AreDigits (is_in s) a → goes_on s r ≡ false → more_digits s (a ++ r) ≡ length a
digits-end s _ r (One d h) stops = let n : 1 + more_digits s r ≡ 1 = omega (arith, more-not s r stops) in more-first s d r h ∙ n
digits-end s _ r (More d w h more) stops =
    let n : 1 + more_digits s (w ++ r) ≡ suc (length w) = omega (arith, digits-end s w r more stops) in more-first s d (w ++ r) h ∙ n
digits-end s _ r (Parted d w h more) stops =
    let first = more-first s d (95 ∷ (w ++ r)) h in
    let bar = more-on s 95 (w ++ r) (right-or (is_in s 95) (95 == 95 && is_in s (slice_index (95 ∷ (w ++ r)) 1)) (ap (λ c. is_in s c) (sym (tail-at (95 ∷ (w ++ r)))) ∙ digits-begin s w r more)) in
    omega (arith, digits-end s w r more stops)
  where
    digits-begin : (s : Set) (w r : List ℕ) → AreDigits (is_in s) w → is_in s (slice_index (w ++ r) 0) ≡ true
    digits-begin s _ r (One d h) = h
    digits-begin s _ r (More d w h more) = h
    digits-begin s _ r (Parted d w h more) = h

pub digits-first : (s : Set) (w r : List ℕ) → AreDigits (is_in s) w → is_in s (slice_index (w ++ r) 0) ≡ true
digits-first s _ r (One d h) = h
digits-first s _ r (More d w h more) = h
digits-first s _ r (Parted d w h more) = h

-- ---- exponents

abbrev pub exponent_len : List ℕ → ℕ
exponent_len q =
    if not (slice_index q 0 == 101) then 0
    else (if is_in set.Decimal (slice_index q 1) then 1 + digits_len set.Decimal (drop 1 q)
    else (if (slice_index q 1 == 43 || slice_index q 1 == 45) && is_in set.Decimal (slice_index q 2) then 2 + digits_len set.Decimal (drop 2 q) else 0))

pub at-add : (p q : List ℕ) (k : ℕ) → slice_index (p ++ q) (length p + k) ≡ slice_index q k
at-add [] q k = let e : 0 + k ≡ k = omega arith in ap (slice_index q) e
at-add (c ∷ p) q k = let e : suc (length p) + k ≡ suc (length p + k) = omega arith in ap (slice_index (c ∷ (p ++ q))) e ∙ at-add p q k

pub exponent-end : (p q : List ℕ) → exponent_end (p ++ q) (length p) ≡ length p + exponent_len q
exponent-end p q =
    let n = length p in
    let z = p ++ q in
    let E : ℕ → ℕ → ℕ → List ℕ → List ℕ → ℕ = λ b c d y x.
    if not (b == 101) then n
    else (if is_in set.Decimal c then n + 1 + digits_len set.Decimal y
    else (if (c == 43 || c == 45) && is_in set.Decimal d then n + 2 + digits_len set.Decimal x else n)) in
    let e0 : slice_index z n ≡ slice_index q 0 = (let k : n ≡ n + 0 = omega arith in ap (slice_index z) k ∙ at-add p q 0) in
    ap (λ b. E b (slice_index z (n + 1)) (slice_index z (n + 2)) (drop (n + 1) z) (drop (n + 2) z)) e0
    ∙ ap (λ c. E (slice_index q 0) c (slice_index z (n + 2)) (drop (n + 1) z) (drop (n + 2) z)) (at-add p q 1)
    ∙ ap (λ d. E (slice_index q 0) (slice_index q 1) d (drop (n + 1) z) (drop (n + 2) z)) (at-add p q 2)
    ∙ ap (λ y. E (slice_index q 0) (slice_index q 1) (slice_index q 2) y (drop (n + 2) z)) (drop-append-add p q 1)
    ∙ ap (λ x. E (slice_index q 0) (slice_index q 1) (slice_index q 2) (drop 1 q) x) (drop-append-add p q 2)
    ∙ outward n (not (slice_index q 0 == 101)) (is_in set.Decimal (slice_index q 1)) ((slice_index q 1 == 43 || slice_index q 1 == 45) && is_in set.Decimal (slice_index q 2)) (digits_len set.Decimal (drop 1 q)) (digits_len set.Decimal (drop 2 q))
  where
    outward : (n : ℕ) (s t u : Bool) (j k : ℕ) → (if s then n else (if t then n + 1 + j else (if u then n + 2 + k else n))) ≡ n + (if s then 0 else (if t then 1 + j else (if u then 2 + k else 0)))
    outward n true t u j k = omega arith
    outward n false true u j k = omega arith
    outward n false false true j k = omega arith
    outward n false false false j k = omega arith

pub record Exponent (q : List ℕ) : Type 0 where
  pub exponent : List ℕ
  pub rest : List ℕ
  pub whole : exponent ++ rest ≡ q
  pub is : IsExponent exponent
  pub len : exponent_len q ≡ length exponent

no-exponent : (q : List ℕ) → exponent_len q ≡ 0 → Exponent q
no-exponent q e = record { exponent = []; rest = q; whole = refl; is = Missing; len = e }

two-parts : (q : List ℕ) (b : ℕ) → (slice_index q 0 == b) ≡ true → 0 < b → q ≡ b ∷ drop 1 q
two-parts [] b h some = let e : 0 ≡ b = eq-is 0 b h in absurd (omega arith)
two-parts (c ∷ q) b h some = ap (λ x. x ∷ q) (eq-is c b h)

drop-two : (q : List ℕ) → drop 1 (drop 1 q) ≡ drop 2 q
drop-two [] = refl
drop-two (c ∷ []) = refl
drop-two (c ∷ d ∷ q) = refl

at-two : (q : List ℕ) → slice_index (drop 2 q) 0 ≡ slice_index q 2
at-two [] = refl
at-two (c ∷ []) = refl
at-two (c ∷ d ∷ q) = refl

pub exponent-of : (q : List ℕ) → Exponent q
exponent-of q = by (slice_index q 0 == 101) refl (is_in set.Decimal (slice_index q 1)) refl ((slice_index q 1 == 43 || slice_index q 1 == 45) && is_in set.Decimal (slice_index q 2)) refl
  where
    L : Bool → Bool → Bool → ℕ
    L s t u = if not s then 0 else (if t then 1 + digits_len set.Decimal (drop 1 q) else (if u then 2 + digits_len set.Decimal (drop 2 q) else 0))

    len : (s t u : Bool) → (slice_index q 0 == 101) ≡ s → is_in set.Decimal (slice_index q 1) ≡ t → ((slice_index q 1 == 43 || slice_index q 1 == 45) && is_in set.Decimal (slice_index q 2)) ≡ u → exponent_len q ≡ L s t u
    len s t u e f g =
        ap (λ x. L x (is_in set.Decimal (slice_index q 1)) ((slice_index q 1 == 43 || slice_index q 1 == 45) && is_in set.Decimal (slice_index q 2))) e
        ∙ ap (λ x. L s x ((slice_index q 1 == 43 || slice_index q 1 == 45) && is_in set.Decimal (slice_index q 2))) f ∙ ap (L s t) g

    signed : (k : ℕ) → 0 < k → ((w : List ℕ) → AreDigits (is_in set.Decimal) w → IsExponent (101 ∷ k ∷ w)) → (slice_index q 0 == 101) ≡ true → (slice_index q 1 == k) ≡ true → is_in set.Decimal (slice_index q 2) ≡ true → exponent_len q ≡ 2 + digits_len set.Decimal (drop 2 q) → Exponent q
    signed k some make e c d n =
        let there : is_in set.Decimal (slice_index (drop 2 q) 0) ≡ true = ap (is_in set.Decimal) (at-two q) ∙ d in
        let m = digits-of set.Decimal (drop 2 q) there in
        let front : q ≡ 101 ∷ k ∷ drop 2 q = two-parts q 101 e (omega arith) ∙ ap (λ z. 101 ∷ z) (two-parts (drop 1 q) k (ap (λ x. x == k) (tail-at q) ∙ c) some) ∙ ap (λ z. 101 ∷ k ∷ z) (drop-two q) in
        let size : 2 + digits_len set.Decimal (drop 2 q) ≡ suc (suc (length m.digits)) = omega (arith, digits_len-more set.Decimal (drop 2 q) there, m.more) in
        record { exponent = 101 ∷ k ∷ m.digits; rest = m.rest; whole = ap (λ z. 101 ∷ k ∷ z) m.whole ∙ sym front; is = make m.digits m.are; len = n ∙ size }

    by : (s : Bool) → (slice_index q 0 == 101) ≡ s → (t : Bool) → is_in set.Decimal (slice_index q 1) ≡ t → (u : Bool) → ((slice_index q 1 == 43 || slice_index q 1 == 45) && is_in set.Decimal (slice_index q 2)) ≡ u → Exponent q
    by false e t f u g = no-exponent q (len false t u e f g)
    by true e true f u g =
        let there : is_in set.Decimal (slice_index (drop 1 q) 0) ≡ true = ap (is_in set.Decimal) (tail-at q) ∙ f in
        let m = digits-of set.Decimal (drop 1 q) there in
        let size : 1 + digits_len set.Decimal (drop 1 q) ≡ suc (length m.digits) = omega (arith, digits_len-more set.Decimal (drop 1 q) there, m.more) in
        record { exponent = 101 ∷ m.digits; rest = m.rest; whole = ap (λ z. 101 ∷ z) m.whole ∙ sym (two-parts q 101 e (omega arith)); is = Unsigned m.digits m.are; len = len true true u e f g ∙ size }
    by true e false f true g =
        let both = and-both (slice_index q 1 == 43 || slice_index q 1 == 45) (is_in set.Decimal (slice_index q 2)) g in
        sign both.1 (or-either (slice_index q 1 == 43) (slice_index q 1 == 45) both.0)
      where
        sign : is_in set.Decimal (slice_index q 2) ≡ true → ((slice_index q 1 == 43) ≡ true) ⊎ ((slice_index q 1 == 45) ≡ true) → Exponent q
        sign d (inl c) = signed 43 (omega arith) Raised e c d (len true false true e f g)
        sign d (inr c) = signed 45 (omega arith) Lowered e c d (len true false true e f g)
    by true e false f false g = no-exponent q (len true false false e f g)

-- no exponent at a place is longer
pub exponent-most : (v more : List ℕ) → IsExponent v → length v ≤ exponent_len (v ++ more)
exponent-most _ more Missing = omega arith
exponent-most _ more (Unsigned w h) =
    let first = digits-first set.Decimal w more h in
    let most = digits-longest set.Decimal w more h in
    let n : exponent_len (101 ∷ (w ++ more)) ≡ 1 + digits_len set.Decimal (w ++ more) = if-true (is_in set.Decimal (slice_index (w ++ more) 0)) (1 + digits_len set.Decimal (w ++ more)) _ first in
    omega arith
exponent-most _ more (Raised w h) =
    let first = digits-first set.Decimal w more h in
    let most = digits-longest set.Decimal w more h in
    let n : exponent_len (101 ∷ 43 ∷ (w ++ more)) ≡ 2 + digits_len set.Decimal (w ++ more) = if-true (is_in set.Decimal (slice_index (w ++ more) 0)) (2 + digits_len set.Decimal (w ++ more)) _ first in
    omega arith
exponent-most _ more (Lowered w h) =
    let first = digits-first set.Decimal w more h in
    let most = digits-longest set.Decimal w more h in
    let n : exponent_len (101 ∷ 45 ∷ (w ++ more)) ≡ 2 + digits_len set.Decimal (w ++ more) = if-true (is_in set.Decimal (slice_index (w ++ more) 0)) (2 + digits_len set.Decimal (w ++ more)) _ first in
    omega arith
