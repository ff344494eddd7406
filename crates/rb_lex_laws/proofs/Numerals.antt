-- Numbers: what is computed is a spelling of a number, and the longest.
use Rattle.std.proofs.Common.{◌≡◌, ◌≢◌, ℕ, suc, ◌+◌, ◌<◌, ◌≤◌, ◌⊎◌, Bool, true, false, not, ◌==◌, ◌&&◌, ◌||◌, if◌then◌else◌, List, [], ◌∷◌, ◌++◌, length, take, drop, inl, inr, refl, sym, ap, subst, ◌∙◌, append_assoc, length-append, arith}
use Rattle.std.specs.Prelude.{slice_index}
use Rattle.std.proofs.Math.Seq.{drop-append-add}
use Rattle.std.proofs.lemmas.Grind.{common_steps}
use Rattle.std.proofs.lemmas.Bool.Decides.{nat_tests}
use Rattle.rb_tree.specs.declared.token.Shape.{Shape}
use Rattle.rb_tree.specs.declared.token.Shape.TheVariants as shape
use Rattle.rb_lex.specs.Chars.{is_in}
use Rattle.rb_lex.specs.Numbers.{more_digits, digits_len, exponent_end, fraction_end, based, decimal, spelling_of, digits_in, base_of}
use Rattle.rb_lex.specs.declared.number.Spelling.{Spelling}
use Rattle.rb_lex.specs.declared.chars.Set.{Set}
use Rattle.rb_lex.specs.declared.chars.Set.TheVariants as set
use Rattle.rb_rules.specs.Spellings.{Holds, AreDigits, IsExponent, IsWhole, IsFloat, FOREIGN_OPERATORS}
use Rattle.rb_rules.specs.Spellings.AreDigits.{One, More, Parted}
use Rattle.rb_rules.specs.Spellings.IsExponent.{Missing, Unsigned, Raised, Lowered}
use Rattle.rb_rules.specs.Spellings.IsWhole.{Zero, Decimal, Hexadecimal, Binary, Octal}
use Rattle.rb_rules.specs.Spellings.IsFloat.{Fraction}
use Rattle.rb_rules.specs.Numerals.{value_of, number_from}
use Rattle.rb_rules.specs.Lexes.{Spells}
use Rattle.rb_lex_laws.proofs.Lists.{split, if-true, if-false, and-both, both-and, not-true, not-false, no-both, eq-is, is-eq, eq-not, tail-at, take-front, front-same, head-same, tail-same}
use Rattle.rb_lex_laws.proofs.Best.{Best, IsSame, below-or, no-foreign}
use Rattle.rb_lex_laws.proofs.Digits.{goes_on, Digits, digits-of, digits_len-more, digits-end, digits-first, exponent_len, exponent-end, exponent-of, exponent-most}
use Rattle.rb_lex_laws.proofs.Longest.{digits-longest}
use Rattle.rb_lex_laws.proofs.Runs.{at-front, on-front}
use Rattle.rb_lex_laws.proofs.Sorts.{Kind, NumberLike, of-kind, kind-digit}

-- ---- fractions

abbrev has_fraction : List ℕ → Bool
has_fraction r = slice_index r 0 == 46 && is_in set.Decimal (slice_index r 1)

fraction-end : (a r : List ℕ) → fraction_end (a ++ r) (length a) ≡ (if has_fraction r then exponent_end (a ++ r) (length a + 1 + digits_len set.Decimal (drop 1 r)) else 0)
fraction-end a r =
    let z = a ++ r in
    let n = length a in
    let F : ℕ → ℕ → List ℕ → ℕ = λ b c y. if (b == 46 && is_in set.Decimal c) then exponent_end z (n + 1 + digits_len set.Decimal y) else 0 in
    ap (λ b. F b (slice_index z (n + 1)) (drop (n + 1) z)) (at-front a r)
    ∙ ap (λ c. F (slice_index r 0) c (drop (n + 1) z)) (on-front a r) ∙ ap (F (slice_index r 0) (slice_index r 1)) (drop-append-add a r 1)

exponent-least : (z : List ℕ) (at : ℕ) → at ≤ exponent_end z at
exponent-least z at = by (not (slice_index z at == 101)) (is_in set.Decimal (slice_index z (at + 1))) ((slice_index z (at + 1) == 43 || slice_index z (at + 1) == 45) && is_in set.Decimal (slice_index z (at + 2))) (digits_len set.Decimal (drop (at + 1) z)) (digits_len set.Decimal (drop (at + 2) z))
  where
    by : (s t u : Bool) (j k : ℕ) → at ≤ (if s then at else (if t then at + 1 + j else (if u then at + 2 + k else at)))
    by true t u j k = omega arith
    by false true u j k = omega arith
    by false false true j k = omega arith
    by false false false j k = omega arith

digits-at : (a r : List ℕ) → AreDigits (is_in set.Decimal) a → goes_on set.Decimal r ≡ false → digits_len set.Decimal (a ++ r) ≡ length a
digits-at a r h stops = digits_len-more set.Decimal (a ++ r) (digits-first set.Decimal a r h) ∙ digits-end set.Decimal a r h stops

-- the length that is computed for a float
abbrev float_len : List ℕ → ℕ
float_len y = fraction_end y (digits_len set.Decimal y)

float-at : (a b x : List ℕ) → AreDigits (is_in set.Decimal) a → AreDigits (is_in set.Decimal) b → float_len (a ++ 46 ∷ (b ++ x)) ≡ exponent_end (a ++ 46 ∷ (b ++ x)) (length a + 1 + digits_len set.Decimal (b ++ x))
float-at a b x ha hb =
    let r = 46 ∷ (b ++ x) in
    ap (fraction_end (a ++ r)) (digits-at a r ha refl) ∙ fraction-end a r
    ∙ if-true (has_fraction r) (exponent_end (a ++ r) (length a + 1 + digits_len set.Decimal (b ++ x))) 0 (both-and (46 == 46) (is_in set.Decimal (slice_index r 1)) refl (ap (is_in set.Decimal) (sym (tail-at r)) ∙ digits-first set.Decimal b x hb))

front-len : (a b : List ℕ) → length (a ++ 46 ∷ b) ≡ length a + 1 + length b
front-len a b = let e = length-append a (46 ∷ b) in omega arith

regroup : (a b x : List ℕ) → (a ++ 46 ∷ b) ++ x ≡ a ++ 46 ∷ (b ++ x)
regroup a b x = append_assoc a (46 ∷ b) x

-- an exponent after the digits that are found
float-exact : (a b x : List ℕ) → AreDigits (is_in set.Decimal) a → AreDigits (is_in set.Decimal) b → goes_on set.Decimal x ≡ false → float_len (a ++ 46 ∷ (b ++ x)) ≡ length (a ++ 46 ∷ b) + exponent_len x
float-exact a b x ha hb stops =
    let z = a ++ 46 ∷ (b ++ x) in
    let n : length a + 1 + digits_len set.Decimal (b ++ x) ≡ length (a ++ 46 ∷ b) = omega (arith, digits-at b x hb stops, front-len a b) in
    float-at a b x ha hb ∙ ap (exponent_end z) n ∙ ap (λ y. exponent_end y (length (a ++ 46 ∷ b))) (sym (regroup a b x)) ∙ exponent-end (a ++ 46 ∷ b) x

float-parts : (a b e : List ℕ) → length ((a ++ 46 ∷ b) ++ e) ≡ length a + 1 + length b + length e
float-parts a b e = let f = length-append (a ++ 46 ∷ b) e in let g = front-len a b in omega arith

-- no float at a place is longer
float-with : (a b e more : List ℕ) → AreDigits (is_in set.Decimal) a → AreDigits (is_in set.Decimal) b → IsExponent e → goes_on set.Decimal (e ++ more) ≡ false → length ((a ++ 46 ∷ b) ++ e) ≤ float_len (a ++ 46 ∷ (b ++ (e ++ more)))
float-with a b e more ha hb he stops =
    let exact = float-exact a b (e ++ more) ha hb stops in
    let most = exponent-most e more he in
    let all = length-append (a ++ 46 ∷ b) e in omega arith

float-most : (v more : List ℕ) → IsFloat v → length v ≤ float_len (v ++ more)
float-most _ more (Fraction a b e ha hb he) = subst (λ z. length ((a ++ 46 ∷ b) ++ e) ≤ float_len z) (sym (append_assoc (a ++ 46 ∷ b) e more ∙ regroup a b (e ++ more))) (by e he)
  where
    by : (e : List ℕ) → IsExponent e → length ((a ++ 46 ∷ b) ++ e) ≤ float_len (a ++ 46 ∷ (b ++ (e ++ more)))
    by _ Missing =
        let at = float-at a b more ha hb in
        let least = exponent-least (a ++ 46 ∷ (b ++ more)) (length a + 1 + digits_len set.Decimal (b ++ more)) in
        let most = digits-longest set.Decimal b more hb in
        let all = float-parts a b [] in omega arith
    by _ (Unsigned w h) = float-with a b (101 ∷ w) more ha hb (Unsigned w h) refl
    by _ (Raised w h) = float-with a b (101 ∷ 43 ∷ w) more ha hb (Raised w h) refl
    by _ (Lowered w h) = float-with a b (101 ∷ 45 ∷ w) more ha hb (Lowered w h) refl

float-some : (v : List ℕ) → IsFloat v → 0 < length v
float-some _ (Fraction a b e ha hb he) = let all = float-parts a b e in omega arith

no-float : {X : Type 0} (y v more : List ℕ) → float_len y ≡ 0 → v ++ more ≡ y → IsFloat v → X
no-float y v more none e h =
    let most = float-most v more h in let some = float-some v h in let same = ap float_len e in absurd (omega arith)

record FloatAt (y : List ℕ) : Type 0 where
  pub float : List ℕ
  pub rest : List ℕ
  pub whole : float ++ rest ≡ y
  pub is : IsFloat float
  pub len : float_len y ≡ length float
  pub longer : digits_len set.Decimal y < length float

float-there : (a r : List ℕ) → AreDigits (is_in set.Decimal) a → goes_on set.Decimal r ≡ false → has_fraction r ≡ true → FloatAt (a ++ r)
float-there a [] ha stops has = absurd (cc)
float-there a (c ∷ r) ha stops has =
    let both = and-both (c == 46) (is_in set.Decimal (slice_index (c ∷ r) 1)) has in
    let m = digits-of set.Decimal r (ap (is_in set.Decimal) (tail-at (c ∷ r)) ∙ both.1) in
    let x = exponent-of m.rest in
    let inner : m.digits ++ m.rest ≡ r = m.whole in
    let z : a ++ 46 ∷ (m.digits ++ m.rest) ≡ a ++ c ∷ r = ap (λ y. a ++ 46 ∷ y) inner ∙ ap (λ k. a ++ k ∷ r) (sym (eq-is c 46 both.0)) in
    let exact = float-exact a m.digits m.rest ha m.are m.stops in
    let all = length-append (a ++ 46 ∷ m.digits) x.exponent in
    let front = front-len a m.digits in
    let size : float_len (a ++ 46 ∷ (m.digits ++ m.rest)) ≡ length ((a ++ 46 ∷ m.digits) ++ x.exponent) = omega (arith, x.len) in
    let digits : digits_len set.Decimal (a ++ c ∷ r) ≡ length a = digits-at a (c ∷ r) ha stops in
    record {
      float = (a ++ 46 ∷ m.digits) ++ x.exponent;
      rest = x.rest;
      whole = append_assoc (a ++ 46 ∷ m.digits) x.exponent x.rest ∙ ap (λ y. (a ++ 46 ∷ m.digits) ++ y) x.whole ∙ regroup a m.digits m.rest ∙ z;
      is = Fraction a m.digits x.exponent ha m.are x.is;
      len = ap float_len (sym z) ∙ size;
      longer = omega arith;
    }

float-of : (y : List ℕ) → is_in set.Decimal (slice_index y 0) ≡ true → (float_len y == 0) ≡ false → FloatAt y
float-of y h some =
    let m = digits-of set.Decimal y h in
    by m (has_fraction m.rest) refl
  where
    by : (m : Digits set.Decimal y) (t : Bool) → has_fraction m.rest ≡ t → FloatAt y
    by m true e = subst FloatAt m.whole (float-there m.digits m.rest m.are m.stops e)
    by m false e =
        let none : float_len (m.digits ++ m.rest) ≡ 0 = ap (fraction_end (m.digits ++ m.rest)) (digits-at m.digits m.rest m.are m.stops) ∙ fraction-end m.digits m.rest ∙ if-false (has_fraction m.rest) _ 0 e in
        absurd (eq-not (float_len y) 0 some (ap float_len (sym m.whole) ∙ none))

-- ---- the number that is found

pub record Numeral (past : List Shape) (y : List ℕ) (n : Spelling) : Type 0 where
  pub number : List ℕ
  pub rest : List ℕ
  pub best : Best past y (if n.is_float then shape.Float else shape.Whole) number number rest
  pub len : n.len ≡ length number
  pub value : n.is_float ≡ false → number_from (base_of n.digits) 0 (digits_in n y) ≡ value_of number

number-like : (past : List Shape) (d : ℕ) (u : List ℕ) → is_in set.Decimal d ≡ true → (t : Shape) (v os more : List ℕ) → v ++ more ≡ d ∷ u → Spells past t v os more → NumberLike t v os more
number-like past d u h t v os more e sp = of-kind past t v os more d u Kind.Digit sp e (kind-digit d h)

number-own : (d : ℕ) (u : List ℕ) → is_in set.Decimal d ≡ true → (n : ℕ) (v more : List ℕ) → v ++ more ≡ d ∷ u → Holds v FOREIGN_OPERATORS → length v < n
number-own d u h n v more e held = no-foreign v more d u Kind.Digit held e (kind-digit d h) (λ k. absurd (cc))

-- after `0x`, `0b` and `0o` there is no fraction
bare : (c : ℕ) (z : List ℕ) → (is_in set.Decimal c || (c == 95 && is_in set.Decimal (slice_index z 0))) ≡ false → (c == 46) ≡ false → float_len (48 ∷ c ∷ z) ≡ 0
bare c z stops dot =
    let more : more_digits set.Decimal (c ∷ z) ≡ 0 = if-false (is_in set.Decimal c || (c == 95 && is_in set.Decimal (slice_index z 0))) (1 + more_digits set.Decimal z) 0 stops in
    let one : digits_len set.Decimal (48 ∷ c ∷ z) ≡ 1 = digits_len-more set.Decimal (48 ∷ c ∷ z) refl ∙ ap (λ k. 1 + k) more in
    ap (fraction_end (48 ∷ c ∷ z)) one ∙ ap (λ t. if t && is_in set.Decimal (slice_index z 0) then exponent_end (48 ∷ c ∷ z) (2 + digits_len set.Decimal z) else 0) dot

float-others : (y w rest : List ℕ) → is_in set.Decimal (slice_index y 0) ≡ true → float_len y ≡ length w → digits_len set.Decimal y < length w → w ++ rest ≡ y → (t : Shape) (v os more : List ℕ) → v ++ more ≡ y → NumberLike t v os more → (length v < length w) ⊎ IsSame shape.Float w w t v os
float-others y w rest first len longer whole _ _ _ more e (NumberLike.Whole v _ h) = inl (by v e h)
  where
    digit : 1 ≤ digits_len set.Decimal y
    digit = let m = digits-of set.Decimal y first in some m.digits m.are (digits_len-more set.Decimal y first ∙ m.more)
      where
        some : (a : List ℕ) → AreDigits (is_in set.Decimal) a → digits_len set.Decimal y ≡ length a → 1 ≤ digits_len set.Decimal y
        some _ (One d h) e = omega arith
        some _ (More d a h more) e = omega arith
        some _ (Parted d a h more) e = omega arith

    no : {X : Type 0} → float_len y ≡ 0 → X
    no none = absurd (omega arith)

    by : (v : List ℕ) → v ++ more ≡ y → IsWhole v → length v < length w
    by _ e Zero = let d = digit in omega arith
    by _ e (Decimal d v free h) = let most = digits-longest set.Decimal (d ∷ v) more h in let same = ap (digits_len set.Decimal) e in omega arith
    by _ e (Hexadecimal v h) = no (ap float_len (sym e) ∙ bare 120 (v ++ more) refl refl)
    by _ e (Binary v h) = no (ap float_len (sym e) ∙ bare 98 (v ++ more) refl refl)
    by _ e (Octal v h) = no (ap float_len (sym e) ∙ bare 111 (v ++ more) refl refl)
float-others y w rest first len longer whole _ _ _ more e (NumberLike.Float v _ h) =
    let most = float-most v more h in let same = ap float_len e in by (below-or (length v) (length w) (omega arith))
  where
    by : (length v < length w) ⊎ (length v ≡ length w) → (length v < length w) ⊎ IsSame shape.Float w w shape.Float v v
    by (inl l) = inl l
    by (inr l) = let same = front-same v more w rest (e ∙ sym whole) l in inr (refl, same, same)

float-numeral : (past : List Shape) (d : ℕ) (u : List ℕ) → is_in set.Decimal d ≡ true → FloatAt (d ∷ u) → Numeral past (d ∷ u) (record { len = float_len (d ∷ u); is_float = true; head = 0; digits = set.Decimal })
float-numeral past d u h f =
    record {
      number = f.float;
      rest = f.rest;
      best = record {
        whole = f.whole;
        spells = Spells.Float f.float f.rest f.is;
        others = λ t v os more e sp. float-others (d ∷ u) f.float f.rest h f.len f.longer f.whole t v os more e (number-like past d u h t v os more e sp);
        own = number-own d u h (length f.float);
      };
      len = f.len;
      value = λ e. absurd (cc);
    }

-- a number to a base
based-numeral : (past : List Shape) (c : ℕ) (s : Set) (x : List ℕ)
    → ((w : List ℕ) → AreDigits (is_in s) w → IsWhole (48 ∷ c ∷ w))
    → ((v more : List ℕ) → v ++ more ≡ 48 ∷ c ∷ x → IsWhole v → (length v ≡ 1) ⊎ ((u : List ℕ) × (v ≡ 48 ∷ c ∷ u) × AreDigits (is_in s) u))
    → ((w : List ℕ) → value_of (48 ∷ c ∷ w) ≡ number_from (base_of s) 0 w)
    → float_len (48 ∷ c ∷ x) ≡ 0
    → is_in s (slice_index x 0) ≡ true
    → Numeral past (48 ∷ c ∷ x) (based s (48 ∷ c ∷ x))
based-numeral past c s x make only value none first =
    let m = digits-of s x first in
    let n : 2 + digits_len s x ≡ suc (suc (length m.digits)) = omega (arith, digits_len-more s x first, m.more) in
    let w = 48 ∷ c ∷ m.digits in
    let whole : w ++ m.rest ≡ 48 ∷ c ∷ x = ap (λ z. 48 ∷ c ∷ z) m.whole in
    record {
      number = w;
      rest = m.rest;
      best = record {
        whole = whole;
        spells = Spells.Whole w m.rest (make m.digits m.are);
        others = λ t v os more e sp. by m.digits m.rest whole (digits_len-more s x first ∙ m.more) t v os more e (number-like past 48 (c ∷ x) refl t v os more e sp);
        own = number-own 48 (c ∷ x) refl (length w);
      };
      len = n;
      value = λ _. ap (λ k. number_from (base_of s) 0 (drop 2 (take k (48 ∷ c ∷ x)))) n ∙ ap (number_from (base_of s) 0) (ap (λ z. take (length m.digits) z) (sym m.whole) ∙ take-front m.digits m.rest) ∙ sym (value m.digits);
    }
  where
    by : (digits rest : List ℕ) → (48 ∷ c ∷ digits) ++ rest ≡ 48 ∷ c ∷ x → digits_len s x ≡ length digits → (t : Shape) (v os more : List ℕ) → v ++ more ≡ 48 ∷ c ∷ x → NumberLike t v os more → (length v < length (48 ∷ c ∷ digits)) ⊎ IsSame shape.Whole (48 ∷ c ∷ digits) (48 ∷ c ∷ digits) t v os
    by digits rest whole len _ _ _ more e (NumberLike.Float v _ h) = no-float (48 ∷ c ∷ x) v more none e h
    by digits rest whole len _ _ _ more e (NumberLike.Whole v _ h) = found (only v more e h)
      where
        alike : (length v < length (48 ∷ c ∷ digits)) ⊎ (length v ≡ length (48 ∷ c ∷ digits)) → (length v < length (48 ∷ c ∷ digits)) ⊎ IsSame shape.Whole (48 ∷ c ∷ digits) (48 ∷ c ∷ digits) shape.Whole v v
        alike (inl l) = inl l
        alike (inr l) = let same = front-same v more (48 ∷ c ∷ digits) rest (e ∙ sym whole) l in inr (refl, same, same)

        found : (length v ≡ 1) ⊎ ((u : List ℕ) × (v ≡ 48 ∷ c ∷ u) × AreDigits (is_in s) u) → (length v < length (48 ∷ c ∷ digits)) ⊎ IsSame shape.Whole (48 ∷ c ∷ digits) (48 ∷ c ∷ digits) shape.Whole v v
        found (inl one) = inl (omega arith)
        found (inr p) =
            let most = digits-longest s p.0 more p.2 in
            let same : p.0 ++ more ≡ x = tail-same c c (p.0 ++ more) x (tail-same 48 48 (c ∷ (p.0 ++ more)) (c ∷ x) (ap (λ z. z ++ more) (sym p.1) ∙ e)) in
            let size = ap (digits_len s) same in
            let long = ap length p.1 in
            alike (below-or (length v) (length (48 ∷ c ∷ digits)) (omega arith))

zero-head : {X : Type 0} (d : ℕ) (y z : List ℕ) → d ≢ 48 → d ∷ y ≡ 48 ∷ z → X
zero-head d y z free e = absurd (free (head-same d 48 y z e))

base-head : {X : Type 0} (b c : ℕ) (y z : List ℕ) → (b == c) ≡ false → 48 ∷ b ∷ y ≡ 48 ∷ c ∷ z → X
base-head b c y z other e = absurd (eq-not b c other (head-same b c y z (tail-same 48 48 (b ∷ y) (c ∷ z) e)))

abbrev IsBased : ℕ → Set → List ℕ → Type 0
IsBased c s v = (length v ≡ 1) ⊎ ((u : List ℕ) × (v ≡ 48 ∷ c ∷ u) × AreDigits (is_in s) u)

only-hexadecimal : (x v more : List ℕ) → v ++ more ≡ 48 ∷ 120 ∷ x → IsWhole v → IsBased 120 set.Hexadecimal v
only-hexadecimal x _ more e Zero = inl refl
only-hexadecimal x _ more e (Decimal d v free h) = zero-head d (v ++ more) (120 ∷ x) free e
only-hexadecimal x _ more e (Hexadecimal v h) = inr (v, refl, h)
only-hexadecimal x _ more e (Binary v h) = base-head 98 120 (v ++ more) x refl e
only-hexadecimal x _ more e (Octal v h) = base-head 111 120 (v ++ more) x refl e

only-binary : (x v more : List ℕ) → v ++ more ≡ 48 ∷ 98 ∷ x → IsWhole v → IsBased 98 set.Binary v
only-binary x _ more e Zero = inl refl
only-binary x _ more e (Decimal d v free h) = zero-head d (v ++ more) (98 ∷ x) free e
only-binary x _ more e (Hexadecimal v h) = base-head 120 98 (v ++ more) x refl e
only-binary x _ more e (Binary v h) = inr (v, refl, h)
only-binary x _ more e (Octal v h) = base-head 111 98 (v ++ more) x refl e

only-octal : (x v more : List ℕ) → v ++ more ≡ 48 ∷ 111 ∷ x → IsWhole v → IsBased 111 set.Octal v
only-octal x _ more e Zero = inl refl
only-octal x _ more e (Decimal d v free h) = zero-head d (v ++ more) (111 ∷ x) free e
only-octal x _ more e (Hexadecimal v h) = base-head 120 111 (v ++ more) x refl e
only-octal x _ more e (Binary v h) = base-head 98 111 (v ++ more) x refl e
only-octal x _ more e (Octal v h) = inr (v, refl, h)

-- ---- decimal numbers

-- no number to a base begins here
pub record Unbased (y : List ℕ) : Type 0 where
  pub no_hexadecimal : (slice_index y 1 == 120 && is_in set.Hexadecimal (slice_index y 2)) ≡ false
  pub no_binary : (slice_index y 1 == 98 && is_in set.Binary (slice_index y 2)) ≡ false
  pub no_octal : (slice_index y 1 == 111 && is_in set.Octal (slice_index y 2)) ≡ false

not-based : {X : Type 0} (c : ℕ) (s : Set) (y v more : List ℕ) → (slice_index y 1 == c && is_in s (slice_index y 2)) ≡ false → 48 ∷ c ∷ (v ++ more) ≡ y → AreDigits (is_in s) v → X
not-based c s y v more none e h =
    no-both (slice_index y 1 == c && is_in s (slice_index y 2))
    (both-and (slice_index y 1 == c) (is_in s (slice_index y 2)) (is-eq (slice_index y 1) c (ap (λ z. slice_index z 1) (sym e))) (ap (λ z. is_in s (slice_index z 2)) (sym e) ∙ ap (is_in s) (second v) ∙ digits-first s v more h))
    none
  where
    second : (v : List ℕ) → slice_index (48 ∷ c ∷ (v ++ more)) 2 ≡ slice_index (v ++ more) 0
    second v = refl

zero-others : (u : List ℕ) → float_len (48 ∷ u) ≡ 0 → Unbased (48 ∷ u) → (t : Shape) (v os more : List ℕ) → v ++ more ≡ 48 ∷ u → NumberLike t v os more → (length v < 1) ⊎ IsSame shape.Whole (48 ∷ []) (48 ∷ []) t v os
zero-others u none free _ _ _ more e (NumberLike.Float v _ h) = no-float (48 ∷ u) v more none e h
zero-others u none free _ _ _ more e (NumberLike.Whole v _ h) = by v e h
  where
    by : (v : List ℕ) → v ++ more ≡ 48 ∷ u → IsWhole v → (length v < 1) ⊎ IsSame shape.Whole (48 ∷ []) (48 ∷ []) shape.Whole v v
    by _ e Zero = inr (refl, refl, refl)
    by _ e (Decimal d v other h) = zero-head d (v ++ more) u other e
    by _ e (Hexadecimal v h) = not-based 120 set.Hexadecimal (48 ∷ u) v more free.no_hexadecimal e h
    by _ e (Binary v h) = not-based 98 set.Binary (48 ∷ u) v more free.no_binary e h
    by _ e (Octal v h) = not-based 111 set.Octal (48 ∷ u) v more free.no_octal e h

zero-numeral : (past : List Shape) (u : List ℕ) → float_len (48 ∷ u) ≡ 0 → Unbased (48 ∷ u) → Numeral past (48 ∷ u) (record { len = 1; is_float = false; head = 0; digits = set.Decimal })
zero-numeral past u none free =
    record {
      number = 48 ∷ [];
      rest = u;
      best = record {
        whole = refl;
        spells = Spells.Whole (48 ∷ []) u Zero;
        others = λ t v os more e sp. zero-others u none free t v os more e (number-like past 48 u refl t v os more e sp);
        own = number-own 48 u refl 1;
      };
      len = refl;
      value = λ _. refl;
    }

is-whole : (w rest : List ℕ) → AreDigits (is_in set.Decimal) w → (slice_index (w ++ rest) 0 == 48) ≡ false → IsWhole w
is-whole _ rest (One d h) free = Decimal d [] (eq-not d 48 free) (One d h)
is-whole _ rest (More d w h more) free = Decimal d w (eq-not d 48 free) (More d w h more)
is-whole _ rest (Parted d w h more) free = Decimal d (95 ∷ w) (eq-not d 48 free) (Parted d w h more)

digit-low : (c k : ℕ) → is_in set.Decimal c ≡ true → 58 ≤ k → (c == k) ≡ false
digit-low c k h high = grind (arith, nat_tests, common_steps)

value-plain : (w : List ℕ) → (slice_index w 1 == 120) ≡ false → (slice_index w 1 == 98) ≡ false → (slice_index w 1 == 111) ≡ false → value_of w ≡ number_from (base_of set.Decimal) 0 w
value-plain w e f g =
    if-false (slice_index w 1 == 120) (number_from (base_of set.Hexadecimal) 0 (drop 2 w)) _ e
    ∙ if-false (slice_index w 1 == 98) (number_from (base_of set.Binary) 0 (drop 2 w)) _ f ∙ if-false (slice_index w 1 == 111) (number_from (base_of set.Octal) 0 (drop 2 w)) _ g

head-digit : (w : List ℕ) → AreDigits (is_in set.Decimal) w → is_in set.Decimal (slice_index w 0) ≡ true
head-digit _ (One d h) = h
head-digit _ (More d w h more) = h
head-digit _ (Parted d w h more) = h

value-decimal : (w : List ℕ) → AreDigits (is_in set.Decimal) w → value_of w ≡ number_from (base_of set.Decimal) 0 w
value-decimal _ (One d h) = refl
value-decimal _ (More d w h more) =
    let k = tail-at (d ∷ w) in
    let digit = head-digit w more in
    value-plain (d ∷ w) (ap (λ c. c == 120) (sym k) ∙ digit-low (slice_index w 0) 120 digit (omega arith)) (ap (λ c. c == 98) (sym k) ∙ digit-low (slice_index w 0) 98 digit (omega arith)) (ap (λ c. c == 111) (sym k) ∙ digit-low (slice_index w 0) 111 digit (omega arith))
value-decimal _ (Parted d w h more) = value-plain (d ∷ 95 ∷ w) refl refl refl

plain-others : (y w rest : List ℕ) → float_len y ≡ 0 → (slice_index y 0 == 48) ≡ false → w ++ rest ≡ y → digits_len set.Decimal y ≡ length w → (t : Shape) (v os more : List ℕ) → v ++ more ≡ y → NumberLike t v os more → (length v < length w) ⊎ IsSame shape.Whole w w t v os
plain-others y w rest none free whole len _ _ _ more e (NumberLike.Float v _ h) = no-float y v more none e h
plain-others y w rest none free whole len _ _ _ more e (NumberLike.Whole v _ h) = by v e h
  where
    no : {X : Type 0} (z : List ℕ) → 48 ∷ z ≡ y → X
    no z e = absurd (eq-not (slice_index y 0) 48 free (ap (λ x. slice_index x 0) (sym e)))

    alike : (v : List ℕ) → v ++ more ≡ y → (length v < length w) ⊎ (length v ≡ length w) → (length v < length w) ⊎ IsSame shape.Whole w w shape.Whole v v
    alike v e (inl l) = inl l
    alike v e (inr l) = let same = front-same v more w rest (e ∙ sym whole) l in inr (refl, same, same)

    by : (v : List ℕ) → v ++ more ≡ y → IsWhole v → (length v < length w) ⊎ IsSame shape.Whole w w shape.Whole v v
    by _ e Zero = no more e
    by _ e (Decimal d v other h) =
        let most = digits-longest set.Decimal (d ∷ v) more h in let same = ap (digits_len set.Decimal) e in alike (d ∷ v) e (below-or (length (d ∷ v)) (length w) (omega arith))
    by _ e (Hexadecimal v h) = no (120 ∷ (v ++ more)) e
    by _ e (Binary v h) = no (98 ∷ (v ++ more)) e
    by _ e (Octal v h) = no (111 ∷ (v ++ more)) e

plain-numeral : (past : List Shape) (d : ℕ) (u : List ℕ) → is_in set.Decimal d ≡ true → float_len (d ∷ u) ≡ 0 → (d == 48) ≡ false → Numeral past (d ∷ u) (record { len = digits_len set.Decimal (d ∷ u); is_float = false; head = 0; digits = set.Decimal })
plain-numeral past d u h none free =
    let m = digits-of set.Decimal (d ∷ u) h in
    let n : digits_len set.Decimal (d ∷ u) ≡ length m.digits = digits_len-more set.Decimal (d ∷ u) h ∙ m.more in
    record {
      number = m.digits;
      rest = m.rest;
      best = record {
        whole = m.whole;
        spells = Spells.Whole m.digits m.rest (is-whole m.digits m.rest m.are (ap (λ z. slice_index z 0 == 48) m.whole ∙ free));
        others = λ t v os more e sp. plain-others (d ∷ u) m.digits m.rest none free m.whole n t v os more e (number-like past d u h t v os more e sp);
        own = number-own d u h (length m.digits);
      };
      len = n;
      value = λ _. ap (λ k. number_from (base_of set.Decimal) 0 (take k (d ∷ u))) n ∙ ap (number_from (base_of set.Decimal) 0) (ap (λ z. take (length m.digits) z) (sym m.whole) ∙ take-front m.digits m.rest) ∙ sym (value-decimal m.digits m.are);
    }

decimal-numeral : (past : List Shape) (d : ℕ) (u : List ℕ) → is_in set.Decimal d ≡ true → ((d == 48) ≡ true → Unbased (d ∷ u)) → Numeral past (d ∷ u) (decimal (d ∷ u))
decimal-numeral past d u h free =
    let y = d ∷ u in
    split (Numeral past y) (not (float_len y == 0)) (record { len = float_len y; is_float = true; head = 0; digits = set.Decimal }) _
    (λ e. float-numeral past d u h (float-of y h (not-true (float_len y == 0) e)))
    (λ e. let none = eq-is (float_len y) 0 (not-false (float_len y == 0) e) in
    split (Numeral past y) (d == 48) (record { len = 1; is_float = false; head = 0; digits = set.Decimal }) _
    (λ z. subst (λ k. Numeral past (k ∷ u) (record { len = 1; is_float = false; head = 0; digits = set.Decimal })) (sym (eq-is d 48 z)) (zero-numeral past u (ap (λ k. float_len (k ∷ u)) (sym (eq-is d 48 z)) ∙ none) (subst (λ k. Unbased (k ∷ u)) (eq-is d 48 z) (free z))))
    (λ z. plain-numeral past d u h none z))

-- two bytes at the front
zero-two : (c : ℕ) (s : Set) (u : List ℕ) → (slice_index (48 ∷ u) 1 == c && is_in s (slice_index (48 ∷ u) 2)) ≡ true → (c == 0) ≡ false → (x : List ℕ) × (u ≡ c ∷ x) × (is_in s (slice_index x 0) ≡ true)
zero-two c s [] h some = let both = and-both (0 == c) (is_in s 0) h in absurd (eq-not c 0 some (sym (eq-is 0 c both.0)))
zero-two c s (b ∷ x) h some =
    let both = and-both (b == c) (is_in s (slice_index (48 ∷ b ∷ x) 2)) h in (x, ap (λ k. k ∷ x) (eq-is b c both.0), both.1)

pub numeral-of : (past : List Shape) (d : ℕ) (u : List ℕ) → is_in set.Decimal d ≡ true → Numeral past (d ∷ u) (spelling_of (d ∷ u))
unfolding spelling_of
numeral-of past d u h =
    let y = d ∷ u in
    let N : Spelling → Type 0 = Numeral past y in
    split N (not (d == 48)) (decimal y) _
    (λ e. decimal-numeral past d u h (λ z. no-both (d == 48) z (not-true (d == 48) e)))
    (λ e. let zero_is = eq-is d 48 (not-false (d == 48) e) in
    split N (slice_index y 1 == 120 && is_in set.Hexadecimal (slice_index y 2)) (based set.Hexadecimal y) _
    (λ t. base d zero_is 120 set.Hexadecimal t refl Hexadecimal only-hexadecimal (λ w. refl) (λ x. bare 120 x refl refl))
    (λ t. split N (slice_index y 1 == 98 && is_in set.Binary (slice_index y 2)) (based set.Binary y) _
    (λ k. base d zero_is 98 set.Binary k refl Binary only-binary (λ w. refl) (λ x. bare 98 x refl refl))
    (λ k. split N (slice_index y 1 == 111 && is_in set.Octal (slice_index y 2)) (based set.Octal y) _
    (λ o. base d zero_is 111 set.Octal o refl Octal only-octal (λ w. refl) (λ x. bare 111 x refl refl))
    (λ o. decimal-numeral past d u h (λ _. record { no_hexadecimal = t; no_binary = k; no_octal = o })))))
  where
    base : (d : ℕ) → d ≡ 48 → (c : ℕ) (s : Set) → (slice_index (d ∷ u) 1 == c && is_in s (slice_index (d ∷ u) 2)) ≡ true → (c == 0) ≡ false
        → ((w : List ℕ) → AreDigits (is_in s) w → IsWhole (48 ∷ c ∷ w))
        → ((x v more : List ℕ) → v ++ more ≡ 48 ∷ c ∷ x → IsWhole v → IsBased c s v)
        → ((w : List ℕ) → value_of (48 ∷ c ∷ w) ≡ number_from (base_of s) 0 w)
        → ((x : List ℕ) → float_len (48 ∷ c ∷ x) ≡ 0)
        → Numeral past (d ∷ u) (based s (d ∷ u))
    base d is c s t some make only value none =
        let p = zero-two c s u (ap (λ k. slice_index (k ∷ u) 1 == c && is_in s (slice_index (k ∷ u) 2)) (sym is) ∙ t) some in
        subst (λ k. Numeral past (k ∷ u) (based s (k ∷ u))) (sym is) (subst (λ z. Numeral past (48 ∷ z) (based s (48 ∷ z))) (sym p.1) (based-numeral past c s p.0 make (only p.0) value (none p.0) p.2))
