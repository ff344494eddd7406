-- Blanks, comments and line ends, against what is computed of the characters at a place.
use Rattle.std.proofs.Common.{◌≡◌, ℕ, zero, suc, ◌<◌, ◌≤◌, ◌⊎◌, Bool, true, false, not, ◌==◌, ◌&&◌, ◌||◌, if◌then◌else◌, List, [], ◌∷◌, ◌++◌, length, take, drop, inl, inr, refl, sym, ap, subst, ◌∙◌, length-append, nat_eq, arith}
use Rattle.std.specs.Prelude.{slice_index}
use Rattle.std.specs.List.{starts_with}
use Rattle.std.proofs.lemmas.Slice.Eq.{bytes_eq-Decides}
use Rattle.std.proofs.lemmas.List.{take-append-drop}
use Rattle.std.proofs.lemmas.Bool.Decides.{nat_tests}
use Rattle.rb_lex.specs.Chars.{is_in, blank_len, is_spaced, is_letter}
use Rattle.rb_lex.specs.Cuts.{ends_line}
use Rattle.rb_lex.specs.declared.chars.Set.TheVariants as set
use Rattle.rb_rules.specs.Spellings.{Begins, Holds}
use Rattle.rb_rules.specs.Lexes.{IsBlank, IsComment, IsSpaced, Continues, EndsLine}
use Rattle.rb_lex_laws.proofs.Lists.{if-false, and-both, or-either, left-or, no-both, eq-is, eq-not, not-eq, false-of, begins-is, begins-parts}

-- ---- blanks

pub record Blank (z : List ℕ) : Type 0 where
  pub blank : List ℕ
  pub rest : List ℕ
  pub whole : blank ++ rest ≡ z
  pub is : IsBlank blank rest

-- a blank begins here
abbrev pub blank_here : List ℕ → Bool
blank_here z = not (blank_len z == 0)

front-two : (a b : ℕ) (z : List ℕ) → 0 < a → 0 < b → (slice_index z 0 == a) ≡ true → (slice_index z 1 == b) ≡ true → z ≡ a ∷ b ∷ drop 2 z
front-two a b [] sa sb h k = let e : 0 ≡ a = eq-is 0 a h in absurd (omega arith)
front-two a b (c ∷ []) sa sb h k = let e : 0 ≡ b = eq-is 0 b k in absurd (omega arith)
front-two a b (c ∷ d ∷ z) sa sb h k = ap (λ x. x ∷ d ∷ z) (eq-is c a h) ∙ ap (λ x. a ∷ x ∷ z) (eq-is d b k)

front-three : (a b e : ℕ) (z : List ℕ) → 0 < a → 0 < b → 0 < e → (slice_index z 0 == a) ≡ true → (slice_index z 1 == b) ≡ true → (slice_index z 2 == e) ≡ true → z ≡ a ∷ b ∷ e ∷ drop 3 z
front-three a b e [] sa sb se h k l = let x : 0 ≡ a = eq-is 0 a h in absurd (omega arith)
front-three a b e (c ∷ []) sa sb se h k l = let x : 0 ≡ b = eq-is 0 b k in absurd (omega arith)
front-three a b e (c ∷ d ∷ []) sa sb se h k l = let x : 0 ≡ e = eq-is 0 e l in absurd (omega arith)
front-three a b e (c ∷ d ∷ f ∷ z) sa sb se h k l = ap (λ x. x ∷ d ∷ f ∷ z) (eq-is c a h) ∙ ap (λ x. a ∷ x ∷ f ∷ z) (eq-is d b k) ∙ ap (λ x. a ∷ b ∷ x ∷ z) (eq-is f e l)

blank-by : (s t u v : Bool) → (not ((if s then 1 else (if t then 1 else (if u then 2 else (if v then 3 else 0)))) == 0)) ≡ true → (s ≡ true) ⊎ (t ≡ true) ⊎ (u ≡ true) ⊎ (v ≡ true)
blank-by true t u v h = inl refl
blank-by false true u v h = inr (inl refl)
blank-by false false true v h = inr (inr (inl refl))
blank-by false false false true h = inr (inr (inr refl))
blank-by false false false false h = absurd (cc)

pub blank-of : (z : List ℕ) → blank_here z ≡ true → Blank z
blank-of z h =
    by (blank-by (is_in set.Blank (slice_index z 0)) (slice_index z 0 == 13 && slice_index z 1 == 10) (slice_index z 0 == 92 && slice_index z 1 == 10) (slice_index z 0 == 92 && slice_index z 1 == 13 && slice_index z 2 == 10) h)
  where
    one : (k : ℕ) → 0 < k → (slice_index z 0 == k) ≡ true → z ≡ k ∷ drop 1 z
    one k some e = begins-parts k z (begins-is k z some e)

    space : ((slice_index z 0 == 32) ≡ true) ⊎ ((slice_index z 0 == 9) ≡ true) → Blank z
    space (inl e) = record { blank = 32 ∷ []; rest = drop 1 z; whole = sym (one 32 (omega arith) e); is = IsBlank.Space (drop 1 z) }
    space (inr e) = record { blank = 9 ∷ []; rest = drop 1 z; whole = sym (one 9 (omega arith) e); is = IsBlank.Tab (drop 1 z) }

    three : (a b c : Bool) → (a && b && c) ≡ true → (a ≡ true) × (b ≡ true) × (c ≡ true)
    three true true true e = (refl, refl, refl)
    three true true false e = absurd (cc)
    three true false c e = absurd (cc)
    three false b c e = absurd (cc)

    by : (is_in set.Blank (slice_index z 0) ≡ true) ⊎ ((slice_index z 0 == 13 && slice_index z 1 == 10) ≡ true) ⊎ ((slice_index z 0 == 92 && slice_index z 1 == 10) ≡ true) ⊎ ((slice_index z 0 == 92 && slice_index z 1 == 13 && slice_index z 2 == 10) ≡ true) → Blank z
    by (inl e) = space (or-either (slice_index z 0 == 32) (slice_index z 0 == 9) e)
    by (inr (inl e)) =
        let both = and-both (slice_index z 0 == 13) (slice_index z 1 == 10) e in
        record { blank = 13 ∷ []; rest = 10 ∷ drop 2 z; whole = sym (front-two 13 10 z (omega arith) (omega arith) both.0 both.1); is = IsBlank.Return (drop 2 z) }
    by (inr (inr (inl e))) =
        let both = and-both (slice_index z 0 == 92) (slice_index z 1 == 10) e in
        record { blank = 92 ∷ 10 ∷ []; rest = drop 2 z; whole = sym (front-two 92 10 z (omega arith) (omega arith) both.0 both.1); is = IsBlank.Joint (drop 2 z) }
    by (inr (inr (inr e))) =
        let all = three (slice_index z 0 == 92) (slice_index z 1 == 13) (slice_index z 2 == 10) e in
        record { blank = 92 ∷ 13 ∷ 10 ∷ []; rest = drop 3 z; whole = sym (front-three 92 13 10 z (omega arith) (omega arith) (omega arith) all.0 all.1 all.2); is = IsBlank.ReturnJoint (drop 3 z) }

pub of-blank : (w rest : List ℕ) → IsBlank w rest → blank_len (w ++ rest) ≡ length w
of-blank _ _ (IsBlank.Space rest) = refl
of-blank _ _ (IsBlank.Tab rest) = refl
of-blank _ _ (IsBlank.Return rest) = refl
of-blank _ _ (IsBlank.Joint rest) = refl
of-blank _ _ (IsBlank.ReturnJoint rest) = refl

pub blank-here : (w rest : List ℕ) → IsBlank w rest → blank_here (w ++ rest) ≡ true
blank-here _ _ (IsBlank.Space rest) = refl
blank-here _ _ (IsBlank.Tab rest) = refl
blank-here _ _ (IsBlank.Return rest) = refl
blank-here _ _ (IsBlank.Joint rest) = refl
blank-here _ _ (IsBlank.ReturnJoint rest) = refl

-- ---- a blank, a line's end, or nothing

pub spaced-is : (z : List ℕ) → is_spaced z ≡ true → IsSpaced z
spaced-is [] h = IsSpaced.Nothing
spaced-is (c ∷ z) h = by (or-either (c == 10) (blank_here (c ∷ z)) (drop-left (length (c ∷ z) == 0) ((c == 10)) (blank_here (c ∷ z)) some h))
  where
    some : (length (c ∷ z) == 0) ≡ false
    some = grind (arith, nat_tests)

    drop-left : (a b d : Bool) → a ≡ false → (a || b || d) ≡ true → (b || d) ≡ true
    drop-left true b d e h = absurd (cc)
    drop-left false true d e h = refl
    drop-left false false d e h = h

    by : ((c == 10) ≡ true) ⊎ (blank_here (c ∷ z) ≡ true) → IsSpaced (c ∷ z)
    by (inl e) = subst (λ k. IsSpaced (k ∷ z)) (sym (eq-is c 10 e)) (IsSpaced.Line z)
    by (inr e) = let b = blank-of (c ∷ z) e in subst IsSpaced b.whole (IsSpaced.Blank b.blank b.rest b.is)

third-or : (a b d : Bool) → d ≡ true → (a || b || d) ≡ true
third-or true b d h = refl
third-or false true d h = refl
third-or false false d h = h

pub is-spaced : (z : List ℕ) → IsSpaced z → is_spaced z ≡ true
is-spaced _ IsSpaced.Nothing = refl
is-spaced _ (IsSpaced.Line rest) = second (length (10 ∷ rest) == 0) (blank_here (10 ∷ rest))
  where
    second : (a d : Bool) → (a || true || d) ≡ true
    second true d = refl
    second false d = refl
is-spaced _ (IsSpaced.Blank w rest h) = third-or (length (w ++ rest) == 0) (slice_index (w ++ rest) 0 == 10) (blank_here (w ++ rest)) (blank-here w rest h)

pub spaced-not : (z : List ℕ) → is_spaced z ≡ false → ¬ IsSpaced z
spaced-not z h s = no-both (is_spaced z) (is-spaced z s) h

pub not-spaced : (z : List ℕ) → ¬ IsSpaced z → is_spaced z ≡ false
not-spaced z h = false-of (is_spaced z) (λ e. h (spaced-is z e))

-- ---- a line's end, or the text's

pub line-is : (z : List ℕ) → ends_line z ≡ true → EndsLine z
line-is [] h = EndsLine.AtEnd
line-is (c ∷ z) h = by (or-either (c == 10) (c == 13 && slice_index (c ∷ z) 1 == 10) (drop-left (length (c ∷ z) == 0) (c == 10) (c == 13 && slice_index (c ∷ z) 1 == 10) some h))
  where
    some : (length (c ∷ z) == 0) ≡ false
    some = grind (arith, nat_tests)

    drop-left : (a b d : Bool) → a ≡ false → (a || b || d) ≡ true → (b || d) ≡ true
    drop-left true b d e h = absurd (cc)
    drop-left false true d e h = refl
    drop-left false false d e h = h

    by : ((c == 10) ≡ true) ⊎ ((c == 13 && slice_index (c ∷ z) 1 == 10) ≡ true) → EndsLine (c ∷ z)
    by (inl e) = subst (λ k. EndsLine (k ∷ z)) (sym (eq-is c 10 e)) (EndsLine.AtLine z)
    by (inr e) =
        let both = and-both (c == 13) (slice_index (c ∷ z) 1 == 10) e in
        subst EndsLine (sym (front-two 13 10 (c ∷ z) (omega arith) (omega arith) both.0 both.1)) (EndsLine.AtReturn (drop 1 z))

pub is-line : (z : List ℕ) → EndsLine z → ends_line z ≡ true
is-line _ EndsLine.AtEnd = refl
is-line _ (EndsLine.AtLine rest) = second (length (10 ∷ rest) == 0) (10 == 13 && slice_index (10 ∷ rest) 1 == 10)
  where
    second : (a d : Bool) → (a || true || d) ≡ true
    second true d = refl
    second false d = refl
is-line _ (EndsLine.AtReturn rest) = third-or (length (13 ∷ 10 ∷ rest) == 0) (13 == 10) (13 == 13 && slice_index (13 ∷ 10 ∷ rest) 1 == 10) refl

pub starts-parts : (z needle : List ℕ) → starts_with nat_eq z needle ≡ true → needle ++ drop (length needle) z ≡ z
starts-parts z needle h =
    let same : needle ≡ take (length needle) z = (bytes_eq-Decides needle (take (length needle) z)).0 h in
    ap (λ w. w ++ drop (length needle) z) same ∙ take-append-drop (length needle) z

-- ---- a line that goes on

-- whether the next line that is not blank or a comment goes on with the line before; the flag says that the place is in a comment
abbrev pub goes_on : Bool → List ℕ → Bool
goes_on comment [] = false
goes_on true (c ∷ z) = if c == 10 then goes_on false z else goes_on true z
goes_on false (c ∷ z) =
    if c == 32 || c == 9 || c == 10 then goes_on false z
    else (if c == 13 then slice_index z 0 == 10 && goes_on false z
    else (if c == 92 then (slice_index z 0 == 10 || (slice_index z 0 == 13 && slice_index z 1 == 10)) && goes_on false z
    else (if c == 35 then goes_on true z
    else ((c == 46 && is_letter (slice_index z 0)) || (c == 38 && slice_index z 0 == 46)))))

-- after a blank
pub on-blank : (w rest : List ℕ) → IsBlank w rest → goes_on false (w ++ rest) ≡ goes_on false rest
on-blank _ _ (IsBlank.Space rest) = refl
on-blank _ _ (IsBlank.Tab rest) = refl
on-blank _ _ (IsBlank.Return rest) = refl
on-blank _ _ (IsBlank.Joint rest) = refl
on-blank _ _ (IsBlank.ReturnJoint rest) = refl

in-comment : (w rest : List ℕ) → ¬ Holds 10 w → goes_on true (w ++ rest) ≡ goes_on true rest
in-comment [] rest h = refl
in-comment (c ∷ w) rest h = if-false (c == 10) (goes_on false (w ++ rest)) (goes_on true (w ++ rest)) (not-eq c 10 (λ e. h (inl (sym e)))) ∙ in-comment w rest (λ k. h (inr k))

at-end : (rest : List ℕ) → (rest ≡ []) ⊎ Begins 10 rest → goes_on true rest ≡ goes_on false rest
at-end [] h = refl
at-end (c ∷ rest) (inl e) = absurd (cc)
at-end (c ∷ rest) (inr e) = ap (λ k. goes_on true (k ∷ rest)) e ∙ ap (λ k. goes_on false (k ∷ rest)) (sym e)

-- after a comment
pub on-comment : (w rest : List ℕ) → IsComment w rest → goes_on false (35 ∷ w ++ rest) ≡ goes_on false rest
on-comment w rest h = in-comment w rest h.plain ∙ at-end rest h.ended

pub continues-on : (z : List ℕ) → Continues z → goes_on false z ≡ true
continues-on _ (Continues.Dot c rest h) = left-or (46 == 46 && is_letter c) (46 == 38 && c == 46) h
continues-on _ (Continues.SafeDot rest) = refl
continues-on _ (Continues.PastBlank w rest b more) = on-blank w rest b ∙ continues-on rest more
continues-on _ (Continues.PastComment w rest h more) = on-comment w rest h ∙ continues-on rest more
continues-on _ (Continues.PastLine rest more) = continues-on rest more

-- the rest of a line
pub record Rest (z : List ℕ) : Type 0 where
  pub line : List ℕ
  pub rest : List ℕ
  pub whole : line ++ rest ≡ z
  pub is : IsComment line rest

pub rest-of : (z : List ℕ) → Rest z
rest-of [] = record { line = []; rest = []; whole = refl; is = record { plain = λ h. h; ended = inl refl } }
rest-of (c ∷ z) = by (c == 10) refl (rest-of z)
  where
    by : (t : Bool) → (c == 10) ≡ t → Rest z → Rest (c ∷ z)
    by true e m = record { line = []; rest = c ∷ z; whole = refl; is = record { plain = λ h. h; ended = inr (eq-is c 10 e) } }
    by false e m = record { line = c ∷ m.line; rest = m.rest; whole = ap (λ y. c ∷ y) m.whole; is = record { plain = λ h. plain m h; ended = m.is.ended } }
      where
        plain : (m : Rest z) → Holds 10 (c ∷ m.line) → ⊥
        plain m (inl h) = eq-not c 10 e (sym h)
        plain m (inr h) = m.is.plain h

-- ---- a line that goes on, from the test

pub blank-some : (w rest : List ℕ) → IsBlank w rest → 0 < length w
blank-some _ _ (IsBlank.Space rest) = omega arith
blank-some _ _ (IsBlank.Tab rest) = omega arith
blank-some _ _ (IsBlank.Return rest) = omega arith
blank-some _ _ (IsBlank.Joint rest) = omega arith
blank-some _ _ (IsBlank.ReturnJoint rest) = omega arith

-- what is left of the test where no blank, line's end or comment begins
pub last-test : (c : ℕ) (z : List ℕ) → blank_here (c ∷ z) ≡ false → (c == 10) ≡ false → (c == 35) ≡ false → goes_on false (c ∷ z) ≡ true → ((c == 46 && is_letter (slice_index z 0)) || (c == 38 && slice_index z 0 == 46)) ≡ true
last-test c z b l h e =
    tested (c == 32) (c == 9) (c == 13) (c == 92) (slice_index z 0 == 10) (slice_index z 0 == 13) (slice_index z 1 == 10) b
    (ap (λ n. if (c == 32 || c == 9 || n) then goes_on false z else (if c == 13 then slice_index z 0 == 10 && goes_on false z else (if c == 92 then (slice_index z 0 == 10 || (slice_index z 0 == 13 && slice_index z 1 == 10)) && goes_on false z else (if false then goes_on true z else ((c == 46 && is_letter (slice_index z 0)) || (c == 38 && slice_index z 0 == 46)))))) (sym l)
    ∙ ap (λ n. if (c == 32 || c == 9 || c == 10) then goes_on false z else (if c == 13 then slice_index z 0 == 10 && goes_on false z else (if c == 92 then (slice_index z 0 == 10 || (slice_index z 0 == 13 && slice_index z 1 == 10)) && goes_on false z else (if n then goes_on true z else ((c == 46 && is_letter (slice_index z 0)) || (c == 38 && slice_index z 0 == 46)))))) (sym h) ∙ e)
  where
    tested : (s t u v w x y : Bool)
        → (not ((if (s || t) then 1 else (if (u && w) then 1 else (if (v && w) then 2 else (if (v && x && y) then 3 else 0)))) == 0)) ≡ false
        → (if (s || t || false) then goes_on false z else (if u then w && goes_on false z else (if v then (w || (x && y)) && goes_on false z else (if false then goes_on true z else ((c == 46 && is_letter (slice_index z 0)) || (c == 38 && slice_index z 0 == 46)))))) ≡ true
        → ((c == 46 && is_letter (slice_index z 0)) || (c == 38 && slice_index z 0 == 46)) ≡ true
    tested true t u v w x y b e = absurd (cc)
    tested false true u v w x y b e = absurd (cc)
    tested false false true v true x y b e = absurd (cc)
    tested false false true v false x y b e = absurd (cc)
    tested false false false true true x y b e = absurd (cc)
    tested false false false true false true true b e = absurd (cc)
    tested false false false true false true false b e = absurd (cc)
    tested false false false true false false y b e = absurd (cc)
    tested false false false false w x y b e = e

pub continues-is : (n : ℕ) (z : List ℕ) → length z ≤ n → goes_on false z ≡ true → Continues z
continues-is n [] short h = absurd (cc)
continues-is zero (c ∷ z) short h = absurd (omega arith)
continues-is (suc n) (c ∷ z) short h = at-blank (blank_here (c ∷ z)) refl (continues-is n)
  where
    dotted : ((c == 46 && is_letter (slice_index z 0)) ≡ true) ⊎ ((c == 38 && slice_index z 0 == 46) ≡ true) → Continues (c ∷ z)
    dotted (inl e) = let both = and-both (c == 46) (is_letter (slice_index z 0)) e in subst (λ k. Continues (k ∷ z)) (sym (eq-is c 46 both.0)) (dot z both.1)
      where
        dot : (z : List ℕ) → is_letter (slice_index z 0) ≡ true → Continues (46 ∷ z)
        dot [] h = absurd (cc)
        dot (d ∷ z) h = Continues.Dot d z h
    dotted (inr e) =
        let both = and-both (c == 38) (slice_index z 0 == 46) e in
        subst (λ k. Continues (k ∷ z)) (sym (eq-is c 38 both.0)) (subst (λ y. Continues (38 ∷ y)) (sym (begins-parts 46 z (begins-is 46 z (omega arith) both.1))) (Continues.SafeDot (drop 1 z)))

    at-comment : (t : Bool) → (c == 35) ≡ t → (c == 10) ≡ false → blank_here (c ∷ z) ≡ false → ((y : List ℕ) → length y ≤ n → goes_on false y ≡ true → Continues y) → Continues (c ∷ z)
    at-comment true e l b more =
        let m = rest-of z in
        let front : c ∷ z ≡ 35 ∷ m.line ++ m.rest = ap (λ k. k ∷ z) (eq-is c 35 e) ∙ ap (λ y. 35 ∷ y) (sym m.whole) in
        let goes : goes_on false m.rest ≡ true = sym (on-comment m.line m.rest m.is) ∙ ap (goes_on false) (sym front) ∙ h in
        let size : length m.rest ≤ n = omega (arith, ap length m.whole, length-append m.line m.rest) in
        subst Continues (sym front) (Continues.PastComment m.line m.rest m.is (more m.rest size goes))
    at-comment false e l b more = dotted (or-either (c == 46 && is_letter (slice_index z 0)) (c == 38 && slice_index z 0 == 46) (last-test c z b l e h))

    at-line : (t : Bool) → (c == 10) ≡ t → blank_here (c ∷ z) ≡ false → ((y : List ℕ) → length y ≤ n → goes_on false y ≡ true → Continues y) → Continues (c ∷ z)
    at-line true e b more = let line = eq-is c 10 e in subst (λ k. Continues (k ∷ z)) (sym line) (Continues.PastLine z (more z (omega arith) (ap (λ k. goes_on false (k ∷ z)) (sym line) ∙ h)))
    at-line false e b more = at-comment (c == 35) refl e b more

    at-blank : (t : Bool) → blank_here (c ∷ z) ≡ t → ((y : List ℕ) → length y ≤ n → goes_on false y ≡ true → Continues y) → Continues (c ∷ z)
    at-blank true e more =
        let m = blank-of (c ∷ z) e in
        let size : length m.rest ≤ n = omega (arith, ap length m.whole, length-append m.blank m.rest, blank-some m.blank m.rest m.is) in
        subst Continues m.whole (Continues.PastBlank m.blank m.rest m.is (more m.rest size (sym (on-blank m.blank m.rest m.is) ∙ ap (goes_on false) m.whole ∙ h)))
    at-blank false e more = at-line (c == 10) refl e more
