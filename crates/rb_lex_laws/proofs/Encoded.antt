-- Spellings and rules over characters and over the bytes of their UTF-8: a spelling is ASCII, and each rule looks no further than the first
-- character that is not.
use Rattle.std.proofs.Common.{◌≡◌, ℕ, ◌+◌, ◌/◌, ◌%◌, ◌<◌, ◌≤◌, ◌⊎◌, Bool, true, false, nat_le, nat_lt, ◌&&◌, List, [], ◌∷◌, ◌++◌, length, inl, inr, refl, sym, ap, subst, ◌∙◌, append_assoc, arith}
use Rattle.std.specs.List.{list_all}
use Rattle.std.specs.Str.{encode_utf8_all}
use Rattle.std.proofs.lemmas.Grind.{common_steps}
use Rattle.std.proofs.lemmas.Bool.Decides.{nat_tests}
use lib.Utf8.{encode}
use Rattle.rb_tree.specs.declared.token.Shape.{Shape}
use Rattle.rb_lex.specs.Chars.{is_in, begins_name, is_upper}
use Rattle.rb_lex.specs.declared.chars.Set.{Set}
use Rattle.rb_lex.specs.declared.chars.Set.TheVariants as set
use Rattle.rb_rules.specs.Spellings.{Begins, Holds, IsNamed, IsIdentifier, IsConstant, IsSymbolName, AreDigits, IsWhole, IsExponent, IsFloat, OPERATORS, METHOD_OPERATORS, FOREIGN_OPERATORS}
use Rattle.rb_rules.specs.Lexes.{Spells, IsLongest}
use Rattle.rb_lex_laws.proofs.Lists.{if-true, if-false, and-both, both-and, head-same, tail-same}
use Rattle.rb_lex_laws.proofs.Longest.{named-all, upper-in, lower-in}
use Rattle.rb_lex_laws.proofs.Rows.{EachRow, at-row}

-- ---- characters and their bytes

abbrev pub enc : List ℕ → List ℕ
enc z = encode_utf8_all z

-- all characters are ASCII
abbrev pub Thin : List ℕ → Type 0
Thin w = list_all (λ c. nat_lt c 128) w ≡ true

pub thin-encode : (c : ℕ) → c < 128 → encode c ≡ c ∷ []
unfolding encode
thin-encode c h = let t : nat_lt c 128 ≡ true = grind (arith, nat_tests) in if-true (nat_lt c 128) (c ∷ []) _ t

pub record Wide (c : ℕ) : Type 0 where
  pub first : ℕ
  pub others : List ℕ
  pub is : encode c ≡ first ∷ others
  pub high : 128 ≤ first
  pub all_high : list_all (λ b. nat_le 128 b) others ≡ true

next-high : (n : ℕ) → nat_le 128 (128 + n % 64) ≡ true
next-high n = grind (arith, nat_tests)

pub wide-encode : (c : ℕ) → 128 ≤ c → Wide c
unfolding encode
wide-encode c h = by (nat_lt c 2048) refl (nat_lt c 65536) refl
  where
    t : nat_lt c 128 ≡ false
    t = grind (arith, nat_tests)

    one : (a : ℕ) → nat_le 128 (128 + a % 64) ≡ true
    one a = next-high a

    by : (s : Bool) → nat_lt c 2048 ≡ s → (u : Bool) → nat_lt c 65536 ≡ u → Wide c
    by true e u f =
        record { first = 192 + c / 64; others = (128 + c % 64) ∷ []; is = if-false (nat_lt c 128) (c ∷ []) _ t ∙ if-true (nat_lt c 2048) _ _ e; high = omega arith; all_high = both-and (nat_le 128 (128 + c % 64)) true (next-high c) refl }
    by false e true f =
        record { first = 224 + c / 4096; others = (128 + c / 64 % 64) ∷ (128 + c % 64) ∷ []; is = if-false (nat_lt c 128) (c ∷ []) _ t ∙ if-false (nat_lt c 2048) _ _ e ∙ if-true (nat_lt c 65536) _ _ f; high = omega arith; all_high = both-and (nat_le 128 (128 + c / 64 % 64)) (nat_le 128 (128 + c % 64) && true) (next-high (c / 64)) (both-and (nat_le 128 (128 + c % 64)) true (next-high c) refl) }
    by false e false f =
        record { first = 240 + c / 262144; others = (128 + c / 4096 % 64) ∷ (128 + c / 64 % 64) ∷ (128 + c % 64) ∷ []; is = if-false (nat_lt c 128) (c ∷ []) _ t ∙ if-false (nat_lt c 2048) _ _ e ∙ if-false (nat_lt c 65536) _ _ f; high = omega arith; all_high = both-and (nat_le 128 (128 + c / 4096 % 64)) (nat_le 128 (128 + c / 64 % 64) && (nat_le 128 (128 + c % 64) && true)) (next-high (c / 4096)) (both-and (nat_le 128 (128 + c / 64 % 64)) (nat_le 128 (128 + c % 64) && true) (next-high (c / 64)) (both-and (nat_le 128 (128 + c % 64)) true (next-high c) refl)) }

pub enc-cons : (c : ℕ) (z : List ℕ) → c < 128 → enc (c ∷ z) ≡ c ∷ enc z
enc-cons c z h = ap (λ w. w ++ enc z) (thin-encode c h)

pub enc-append : (xs ys : List ℕ) → enc (xs ++ ys) ≡ enc xs ++ enc ys
enc-append [] ys = refl
enc-append (x ∷ xs) ys = ap (λ t. encode x ++ t) (enc-append xs ys) ∙ sym (append_assoc (encode x) (enc xs) (enc ys))

low-of : (c : ℕ) → nat_lt c 128 ≡ true → c < 128
low-of c h = grind (arith, nat_tests)

pub of-low : (c : ℕ) → c < 128 → nat_lt c 128 ≡ true
of-low c h = grind (arith, nat_tests)

pub enc-front : (w r : List ℕ) → Thin w → enc (w ++ r) ≡ w ++ enc r
enc-front [] r h = refl
enc-front (c ∷ w) r h =
    let both = and-both (nat_lt c 128) (list_all (λ c. nat_lt c 128) w) h in
    enc-cons c (w ++ r) (low-of c both.0) ∙ ap (λ z. c ∷ z) (enc-front w r both.1)

pub enc-thin : (w : List ℕ) → Thin w → enc w ≡ w
enc-thin [] h = refl
enc-thin (c ∷ w) h =
    let both = and-both (nat_lt c 128) (list_all (λ c. nat_lt c 128) w) h in
    enc-cons c w (low-of c both.0) ∙ ap (λ z. c ∷ z) (enc-thin w both.1)

wide-or : (c : ℕ) → (c < 128) ⊎ (128 ≤ c)
wide-or c = grind arith

-- the first byte that is ASCII is a character
pub enc-first : (z : List ℕ) (c : ℕ) (y : List ℕ) → c < 128 → enc z ≡ c ∷ y → (r : List ℕ) × (z ≡ c ∷ r) × (y ≡ enc r)
enc-first [] c y h e = absurd (cc)
enc-first (d ∷ r) c y h e = by (wide-or d)
  where
    by : (d < 128) ⊎ (128 ≤ d) → (q : List ℕ) × (d ∷ r ≡ c ∷ q) × (y ≡ enc q)
    by (inl low) =
        let same : d ∷ enc r ≡ c ∷ y = sym (enc-cons d r low) ∙ e in
        (r, ap (λ x. x ∷ r) (head-same d c (enc r) y same), sym (tail-same d c (enc r) y same))
    by (inr high) =
        let w = wide-encode d high in
        let same : w.first ∷ (w.others ++ enc r) ≡ c ∷ y = ap (λ v. v ++ enc r) (sym w.is) ∙ e in
        let f : w.first ≡ c = head-same w.first c (w.others ++ enc r) y same in
        let g = w.high in
        absurd (omega arith)

-- and the first that is not begins a character that is not
pub enc-wide : (z : List ℕ) (b : ℕ) (y : List ℕ) → 128 ≤ b → enc z ≡ b ∷ y → (c : ℕ) × (r : List ℕ) × (z ≡ c ∷ r) × (128 ≤ c)
enc-wide [] b y h e = absurd (cc)
enc-wide (d ∷ r) b y h e = by (wide-or d)
  where
    by : (d < 128) ⊎ (128 ≤ d) → (c : ℕ) × (q : List ℕ) × (d ∷ r ≡ c ∷ q) × (128 ≤ c)
    by (inl low) = let f : d ≡ b = head-same d b (enc r) y (sym (enc-cons d r low) ∙ e) in absurd (omega arith)
    by (inr high) = (d, r, refl, high)

-- a front that is ASCII is one of the characters
pub enc-parts : (w : List ℕ) (z y : List ℕ) → Thin w → enc z ≡ w ++ y → (r : List ℕ) × (z ≡ w ++ r) × (y ≡ enc r)
enc-parts [] z y h e = (z, refl, sym e)
enc-parts (c ∷ w) z y h e =
    let both = and-both (nat_lt c 128) (list_all (λ c. nat_lt c 128) w) h in
    let one = enc-first z c (w ++ y) (low-of c both.0) e in
    let more = enc-parts w one.0 y both.1 (sym one.2) in
    (more.0, one.1 ∙ ap (λ v. c ∷ v) more.1, more.2)

pub enc-none : (z : List ℕ) → enc z ≡ [] → z ≡ []
enc-none [] e = refl
enc-none (c ∷ z) e = by (wide-or c)
  where
    by : (c < 128) ⊎ (128 ≤ c) → c ∷ z ≡ []
    by (inl low) = let f : c ∷ enc z ≡ [] = sym (enc-cons c z low) ∙ e in absurd (cc)
    by (inr high) = let w = wide-encode c high in let f : w.first ∷ (w.others ++ enc z) ≡ [] = ap (λ v. v ++ enc z) (sym w.is) ∙ e in absurd (cc)

pub enc-some : (c : ℕ) (z : List ℕ) → (b : ℕ) × (y : List ℕ) × (enc (c ∷ z) ≡ b ∷ y)
enc-some c z = by (wide-or c)
  where
    by : (c < 128) ⊎ (128 ≤ c) → (b : ℕ) × (y : List ℕ) × (enc (c ∷ z) ≡ b ∷ y)
    by (inl low) = (c, enc z, enc-cons c z low)
    by (inr high) = let w = wide-encode c high in (w.first, w.others ++ enc z, ap (λ v. v ++ enc z) w.is)

-- ---- what begins with an ASCII character

pub begins-enc : (k : ℕ) (z : List ℕ) → k < 128 → Begins k z → Begins k (enc z)
begins-enc k [] h b = absurd b
begins-enc k (c ∷ z) h b = let low : c < 128 = omega arith in subst (Begins k) (sym (enc-cons c z low)) b

pub enc-begins : (k : ℕ) (z : List ℕ) → k < 128 → Begins k (enc z) → Begins k z
enc-begins k z h b = by (enc z) refl b
  where
    by : (y : List ℕ) → enc z ≡ y → Begins k y → Begins k z
    by [] e b = absurd b
    by (c ∷ y) e b = let low : c < 128 = omega arith in let one = enc-first z c y low e in subst (Begins k) (sym one.1) b

-- two rests begin alike
pub record Alike (r q : List ℕ) : Type 0 where
  pub there : (k : ℕ) → k < 128 → Begins k r → Begins k q
  pub back : (k : ℕ) → k < 128 → Begins k q → Begins k r

pub alike-enc : (r : List ℕ) → Alike r (enc r)
alike-enc r = record { there = λ k h b. begins-enc k r h b; back = λ k h b. enc-begins k r h b }

pub enc-alike : (r : List ℕ) → Alike (enc r) r
enc-alike r = record { there = λ k h b. enc-begins k r h b; back = λ k h b. begins-enc k r h b }

alike-cons : (c : ℕ) (r q : List ℕ) → Alike (c ∷ r) (c ∷ q)
alike-cons c r q = record { there = λ k h b. b; back = λ k h b. b }

not-there : (k : ℕ) (r q : List ℕ) → Alike r q → k < 128 → ¬ Begins k r → ¬ Begins k q
not-there k r q a h n b = n (a.back k h b)

-- ---- spellings are ASCII

word-thin : (c : ℕ) → is_in set.Word c ≡ true → nat_lt c 128 ≡ true
word-thin c h = grind (arith, nat_tests, common_steps)

all-thin : (w : List ℕ) → list_all (is_in set.Word) w ≡ true → Thin w
all-thin [] h = refl
all-thin (c ∷ w) h = let both = and-both (is_in set.Word c) (list_all (is_in set.Word) w) h in both-and (nat_lt c 128) (list_all (λ c. nat_lt c 128) w) (word-thin c both.0) (all-thin w both.1)

pub thin-append : (w v : List ℕ) → Thin w → Thin v → Thin (w ++ v)
thin-append [] v h k = k
thin-append (c ∷ w) v h k =
    let both = and-both (nat_lt c 128) (list_all (λ c. nat_lt c 128) w) h in both-and (nat_lt c 128) (list_all (λ c. nat_lt c 128) (w ++ v)) both.0 (thin-append w v both.1 k)

named-thin : (w : List ℕ) → IsNamed begins_name w → Thin w
named-thin w h = all-thin w (named-all begins_name w lower-in h)

pub constant-thin : (w : List ℕ) → IsConstant w → Thin w
constant-thin w h = all-thin w (named-all is_upper w upper-in h)

pub identifier-thin : (w rest : List ℕ) → IsIdentifier w rest → Thin w
identifier-thin w _ (IsIdentifier.Plain _ rest h) = named-thin w h
identifier-thin _ _ (IsIdentifier.Asking w rest h free) = thin-append w (63 ∷ []) (named-thin w h) refl
identifier-thin _ _ (IsIdentifier.Shouting w rest h free) = thin-append w (33 ∷ []) (named-thin w h) refl

symbol-thin : (w rest : List ℕ) → IsSymbolName w rest → Thin w
symbol-thin w _ (IsSymbolName.OfConstant _ rest h) = constant-thin w h
symbol-thin w _ (IsSymbolName.OfIdentifier _ rest h) = identifier-thin w rest h
symbol-thin _ _ (IsSymbolName.OfWriter w rest h f g k) = thin-append w (61 ∷ []) (identifier-thin w (61 ∷ rest) h) refl

digit-thin : (s : Set) (c : ℕ) → is_in s c ≡ true → nat_lt c 128 ≡ true
digit-thin set.Word c h = grind (arith, nat_tests, common_steps)
digit-thin set.Blank c h = grind (arith, nat_tests, common_steps)
digit-thin set.Binary c h = grind (arith, nat_tests, common_steps)
digit-thin set.Octal c h = grind (arith, nat_tests, common_steps)
digit-thin set.Decimal c h = grind (arith, nat_tests, common_steps)
digit-thin set.Hexadecimal c h = grind (arith, nat_tests, common_steps)

pub digits-thin : (s : Set) (w : List ℕ) → AreDigits (is_in s) w → Thin w
digits-thin s _ (AreDigits.One d h) = both-and (nat_lt d 128) true (digit-thin s d h) refl
digits-thin s _ (AreDigits.More d w h more) = both-and (nat_lt d 128) (list_all (λ c. nat_lt c 128) w) (digit-thin s d h) (digits-thin s w more)
digits-thin s _ (AreDigits.Parted d w h more) = both-and (nat_lt d 128) (list_all (λ c. nat_lt c 128) (95 ∷ w)) (digit-thin s d h) (digits-thin s w more)

whole-thin : (w : List ℕ) → IsWhole w → Thin w
whole-thin _ IsWhole.Zero = refl
whole-thin _ (IsWhole.Decimal d w free h) = digits-thin set.Decimal (d ∷ w) h
whole-thin _ (IsWhole.Hexadecimal w h) = digits-thin set.Hexadecimal w h
whole-thin _ (IsWhole.Binary w h) = digits-thin set.Binary w h
whole-thin _ (IsWhole.Octal w h) = digits-thin set.Octal w h

exponent-thin : (w : List ℕ) → IsExponent w → Thin w
exponent-thin _ IsExponent.Missing = refl
exponent-thin _ (IsExponent.Unsigned w h) = digits-thin set.Decimal w h
exponent-thin _ (IsExponent.Raised w h) = digits-thin set.Decimal w h
exponent-thin _ (IsExponent.Lowered w h) = digits-thin set.Decimal w h

float-thin : (w : List ℕ) → IsFloat w → Thin w
float-thin _ (IsFloat.Fraction a b e ha hb he) =
    thin-append (a ++ 46 ∷ b) e (thin-append a (46 ∷ b) (digits-thin set.Decimal a ha) (digits-thin set.Decimal b hb)) (exponent-thin e he)

thin-operators : EachRow (λ (row : Shape × List ℕ). Thin row.1) OPERATORS
thin-operators = (refl, (refl, (refl, (refl, (refl, (refl, (refl, (refl, (refl, (refl, (refl, (refl, (refl, (refl, (refl, (refl, (refl, (refl, (refl, (refl, (refl, (refl, (refl, (refl, (refl, (refl, (refl, (refl, (refl, (refl, (refl, (refl, (refl, (refl, (refl, (refl, (refl, (refl, (refl, (refl, (refl, (refl, (refl, (refl, (refl, (refl, (refl, (refl, (refl, (refl, tt))))))))))))))))))))))))))))))))))))))))))))))))))

thin-methods : EachRow (λ (row : Shape × List ℕ). Thin row.1) METHOD_OPERATORS
thin-methods = (refl, (refl, (refl, (refl, tt))))

thin-foreign : EachRow (λ (w : List ℕ). Thin w) FOREIGN_OPERATORS
thin-foreign = (refl, (refl, (refl, (refl, (refl, tt)))))

pub foreign-thin : (w : List ℕ) → Holds w FOREIGN_OPERATORS → Thin w
foreign-thin w h = at-row (λ (v : List ℕ). Thin v) w FOREIGN_OPERATORS thin-foreign h

pub spells-thin : (past : List Shape) (s : Shape) (w words rest : List ℕ) → Spells past s w words rest → Thin w × Thin words
spells-thin past _ _ _ _ (Spells.Identifier w rest h free) = (identifier-thin w rest h, identifier-thin w rest h)
spells-thin past _ _ _ _ (Spells.Constant w rest h free) = (constant-thin w h, constant-thin w h)
spells-thin past _ _ _ _ (Spells.Keyword s w rest h row dot) = (identifier-thin w rest h, refl)
spells-thin past _ _ _ _ (Spells.InstanceVariable w rest h) = (named-thin w h, named-thin w h)
spells-thin past _ _ _ _ (Spells.Label w rest (inl h) free) = (thin-append w (58 ∷ []) (identifier-thin w (58 ∷ rest) h) refl, identifier-thin w (58 ∷ rest) h)
spells-thin past _ _ _ _ (Spells.Label w rest (inr h) free) = (thin-append w (58 ∷ []) (constant-thin w h) refl, constant-thin w h)
spells-thin past _ _ _ _ (Spells.Symbol w rest h) = (symbol-thin w rest h, symbol-thin w rest h)
spells-thin past _ _ _ _ (Spells.Whole w rest h) = (whole-thin w h, whole-thin w h)
spells-thin past _ _ _ _ (Spells.Float w rest h) = (float-thin w h, float-thin w h)
spells-thin past _ _ _ _ (Spells.Semicolon rest) = (refl, refl)
spells-thin past _ _ _ _ (Spells.Operator s w rest h) = (at-row (λ (row : Shape × List ℕ). Thin row.1) (s, w) OPERATORS thin-operators h, refl)
spells-thin past _ _ _ _ (Spells.MethodOperator s w rest names h) = (at-row (λ (row : Shape × List ℕ). Thin row.1) (s, w) METHOD_OPERATORS thin-methods h, refl)

-- ---- spellings before rests that begin alike

pub identifier-alike : (w r q : List ℕ) → Alike r q → IsIdentifier w r → IsIdentifier w q
identifier-alike w r q a (IsIdentifier.Plain _ _ h) = IsIdentifier.Plain w q h
identifier-alike _ r q a (IsIdentifier.Asking w _ h free) = IsIdentifier.Asking w q h (not-there 61 r q a (omega arith) free)
identifier-alike _ r q a (IsIdentifier.Shouting w _ h free) = IsIdentifier.Shouting w q h (not-there 61 r q a (omega arith) free)

symbol-alike : (w r q : List ℕ) → Alike r q → IsSymbolName w r → IsSymbolName w q
symbol-alike w r q a (IsSymbolName.OfConstant _ _ h) = IsSymbolName.OfConstant w q h
symbol-alike w r q a (IsSymbolName.OfIdentifier _ _ h) = IsSymbolName.OfIdentifier w q (identifier-alike w r q a h)
symbol-alike _ r q a (IsSymbolName.OfWriter w _ h f g k) =
    IsSymbolName.OfWriter w q (identifier-alike w (61 ∷ r) (61 ∷ q) (alike-cons 61 r q) h) (not-there 61 r q a (omega arith) f) (not-there 126 r q a (omega arith) g) (not-there 62 r q a (omega arith) k)

pub spells-alike : (past : List Shape) (s : Shape) (w words r q : List ℕ) → Alike r q → Spells past s w words r → Spells past s w words q
spells-alike past _ _ _ r q a (Spells.Identifier w _ h free) = Spells.Identifier w q (identifier-alike w r q a h) free
spells-alike past _ _ _ r q a (Spells.Constant w _ h free) = Spells.Constant w q h free
spells-alike past _ _ _ r q a (Spells.Keyword s w _ h row dot) = Spells.Keyword s w q (identifier-alike w r q a h) row dot
spells-alike past _ _ _ r q a (Spells.InstanceVariable w _ h) = Spells.InstanceVariable w q h
spells-alike past _ _ _ r q a (Spells.Label w _ (inl h) free) = Spells.Label w q (inl (identifier-alike w (58 ∷ r) (58 ∷ q) (alike-cons 58 r q) h)) (not-there 58 r q a (omega arith) free)
spells-alike past _ _ _ r q a (Spells.Label w _ (inr h) free) = Spells.Label w q (inr h) (not-there 58 r q a (omega arith) free)
spells-alike past _ _ _ r q a (Spells.Symbol w _ h) = Spells.Symbol w q (symbol-alike w r q a h)
spells-alike past _ _ _ r q a (Spells.Whole w _ h) = Spells.Whole w q h
spells-alike past _ _ _ r q a (Spells.Float w _ h) = Spells.Float w q h
spells-alike past _ _ _ r q a (Spells.Semicolon _) = Spells.Semicolon q
spells-alike past _ _ _ r q a (Spells.Operator s w _ h) = Spells.Operator s w q h
spells-alike past _ _ _ r q a (Spells.MethodOperator s w _ names h) = Spells.MethodOperator s w q names h

-- ---- the longest spelling

pub longest-bytes : (past : List Shape) (s : Shape) (w words rest : List ℕ) → IsLongest past s w words rest → IsLongest past s w words (enc rest)
longest-bytes past s w words rest l =
    record {
      spells = spells-alike past s w words rest (enc rest) (alike-enc rest) l.spells;
      longest = λ t v os more e h. by t v os more e h (enc-parts v (w ++ rest) more (spells-thin past t v os more h).0 (whole ∙ sym e));
      own = λ v more e h. let p = enc-parts v (w ++ rest) more (foreign-thin v h) (whole ∙ sym e) in l.own v p.0 (sym p.1) h;
    }
  where
    whole : enc (w ++ rest) ≡ w ++ enc rest
    whole = enc-front w rest (spells-thin past s w words rest l.spells).0

    by : (t : Shape) (v os more : List ℕ) → v ++ more ≡ w ++ enc rest → Spells past t v os more → (r : List ℕ) × (w ++ rest ≡ v ++ r) × (more ≡ enc r) → length v ≤ length w
    by t v os more e h p = l.longest t v os p.0 (sym p.1) (spells-alike past t v os (enc p.0) p.0 (enc-alike p.0) (subst (Spells past t v os) p.2 h))

pub longest-chars : (past : List Shape) (s : Shape) (w words rest : List ℕ) → IsLongest past s w words (enc rest) → IsLongest past s w words rest
longest-chars past s w words rest l =
    record {
      spells = spells-alike past s w words (enc rest) rest (enc-alike rest) l.spells;
      longest = λ t v os more e h. l.longest t v os (enc more) (there v more (spells-thin past t v os more h).0 e) (spells-alike past t v os more (enc more) (alike-enc more) h);
      own = λ v more e h. l.own v (enc more) (there v more (foreign-thin v h) e) h;
    }
  where
    there : (v more : List ℕ) → Thin v → v ++ more ≡ w ++ rest → v ++ enc more ≡ w ++ enc rest
    there v more h e = sym (enc-front v more h) ∙ ap enc e ∙ enc-front w rest (spells-thin past s w words (enc rest) l.spells).0
