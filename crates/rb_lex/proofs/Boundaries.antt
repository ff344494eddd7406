-- Each step takes whole characters, so what a token or a piece of a string holds is UTF-8 where the text is.
use Rattle.std.proofs.Common.{◌≡◌, ℕ, zero, suc, ◌+◌, ◌-◌, ◌<◌, ◌≤◌, ◌⊎◌, Bool, true, false, not, ◌==◌, ◌&&◌, ◌||◌, nat_le, if◌then◌else◌, List, [], ◌∷◌, length, take, drop, Option, Some, None, Result, Ok, Err, inl, inr, refl, sym, ap, subst, arith}
use Rattle.std.specs.Prelude.{slice_index, slice_get}
use Rattle.std.specs.Str.{IsUtf8, IsAscii, IsCharBoundary}
use Rattle.std.proofs.lemmas.Str.{IsUtf8-take, IsUtf8-drop, IsUtf8-from_ascii, IsCharBoundary-start, IsCharBoundary-after_ascii}
use Rattle.std.proofs.lemmas.List.{get_or-drop}
use Rattle.std.proofs.lemmas.List.Sums.{prefix_len_passes}
use Rattle.std.proofs.lemmas.Grind.{common_steps}
use Rattle.std.proofs.lemmas.Bool.Decides.{nat_tests}
use Rattle.rb_tree.specs.Tokens.{same_shape}
use Rattle.rb_tree.specs.declared.token.Shape.{Shape}
use Rattle.rb_tree.specs.declared.token.Shape.TheVariants as shape
use Rattle.rb_lex.specs.Chars.{is_in, begins_name, is_upper, run_len, blank_len, line_len, after}
use Rattle.rb_lex.specs.Words.{word_of, identifier_len, is_labelled, symbol_len, ends_with_equals}
use Rattle.rb_lex.specs.Numbers.{more_digits, begins_digits, digits_len, exponent_end, fraction_end, based, decimal, spelling_of, is_foreign}
use Rattle.rb_lex.specs.Operators as ops
use Rattle.rb_lex.specs.Cuts.{name, constant, number, variable, judged, sign_at, sign, colon, mark, cut_of, blanks_len, label, token, keyword, is_after_dot, names_method, is_outside, is_bad, ends_program}
use Rattle.rb_lex.specs.Pieces.{IsWithin, stop_at, piece_from, piece_of, is_touched}
use Rattle.rb_lex.specs.Lexed.{words_of, IsQuoted, after_line, joined, string_after, nested, accepted, continues, blanked, opened, code_step, quoted, interpolated, string_step, step}
use Rattle.rb_lex.specs.declared.piece.Stop.{Stop}
use Rattle.rb_lex.specs.declared.piece.Stop.TheVariants as stop
use Rattle.rb_lex.specs.declared.piece.Piece.{Piece}
use Rattle.rb_lex.specs.declared.state.Opened.{Opened}
use Rattle.rb_lex.specs.declared.state.State.{State}
use Rattle.rb_lex.specs.declared.LexEnd.{LexEnd}
use Rattle.rb_lex.specs.declared.LexEnd.TheVariants.{Bad, Outside}
use Rattle.rb_lex.specs.declared.chars.Set.{Set}
use Rattle.rb_lex.specs.declared.chars.Set.TheVariants as set
use Rattle.rb_lex.specs.declared.number.Spelling.{Spelling}
use Rattle.rb_lex.specs.declared.word.Word.{Word}
use Rattle.rb_lex.specs.declared.word.Word.TheVariants as word
use Rattle.rb_lex.specs.declared.operator.Sign.{Sign}
use Rattle.rb_lex.specs.declared.operator.Sign.TheVariants as signs
use Rattle.rb_lex.specs.declared.cut.Before.{Before}
use Rattle.rb_lex.specs.declared.cut.Before.TheVariants as before
use Rattle.rb_lex.specs.declared.cut.Look.{Look}
use Rattle.rb_lex.specs.declared.cut.Lexeme.{Lexeme}
use Rattle.rb_lex.specs.declared.cut.Cut.{Cut}
use Rattle.rb_lex.specs.declared.cut.Cut.TheVariants as cuts

-- ---- tests

split : {A : Type 0} (P : A → Type 0) (t : Bool) (a b : A) → (t ≡ true → P a) → (t ≡ false → P b) → P (if t then a else b)
split P true a b on off = on refl
split P false a b on off = off refl

and-both : (a b : Bool) → (a && b) ≡ true → (a ≡ true) × (b ≡ true)
and-both true b h = (refl, h)
and-both false b h = absurd (cc)

or-either : (a b : Bool) → (a || b) ≡ true → (a ≡ true) ⊎ (b ≡ true)
or-either true b h = inl refl
or-either false b h = inr h

or-neither : (a b : Bool) → (a || b) ≡ false → (a ≡ false) × (b ≡ false)
or-neither true b h = absurd (cc)
or-neither false b h = (refl, h)

is-low : (c k : ℕ) → k < 128 → (c == k) ≡ true → c < 128
is-low c k h e = grind (arith, nat_tests)

-- ---- the first bytes are ASCII

abbrev pub Under : ℕ → List ℕ → Type 0
Under n z = (i : ℕ) → i < n → slice_index z i < 128

under-none : (z : List ℕ) → Under 0 z
under-none z i h = absurd (omega arith)

under-one : (z : List ℕ) → slice_index z 0 < 128 → Under 1 z
under-one z low zero h = low
under-one z low (suc i) h = absurd (omega arith)

under-cons : (b n : ℕ) (z : List ℕ) → b < 128 → Under n z → Under (1 + n) (b ∷ z)
under-cons b n z low u zero h = low
under-cons b n z low u (suc i) h = u i (omega arith)

under-next : (n : ℕ) (z : List ℕ) → Under n z → slice_index z n < 128 → Under (n + 1) z
under-next n z u low i h = by (grind arith)
  where
    by : (i < n) ⊎ (i ≡ n) → slice_index z i < 128
    by (inl l) = u i l
    by (inr e) = subst (λ k. slice_index z k < 128) (sym e) low

under-add : (k n : ℕ) (z : List ℕ) → Under k z → Under n (drop k z) → Under (k + n) z
under-add k n z u v i h = by (grind arith)
  where
    by : (i < k) ⊎ (k ≤ i) → slice_index z i < 128
    by (inl l) = u i l
    by (inr l) =
        let e : k + (i - k) ≡ i = omega arith in
        subst (λ j. slice_index z j < 128) e (subst (λ x. x < 128) (get_or-drop k z (i - k) 0) (v (i - k) (omega arith)))

in-low : (s : Set) (c : ℕ) → is_in s c ≡ true → c < 128
in-low set.Word c h = grind (arith, nat_tests, common_steps)
in-low set.Blank c h = grind (arith, nat_tests, common_steps)
in-low set.Binary c h = grind (arith, nat_tests, common_steps)
in-low set.Octal c h = grind (arith, nat_tests, common_steps)
in-low set.Decimal c h = grind (arith, nat_tests, common_steps)
in-low set.Hexadecimal c h = grind (arith, nat_tests, common_steps)

lower-low : (c : ℕ) → begins_name c ≡ true → c < 128
lower-low c h = grind (arith, nat_tests, common_steps)

run-under : (s : Set) (z : List ℕ) → Under (run_len s z) z
run-under s z i h = in-low s (slice_index z i) (prefix_len_passes (is_in s) z i 0 h)

-- ---- numbers

more-under : (s : Set) (z : List ℕ) → Under (more_digits s z) z
more-under s [] = under-none []
more-under s (b ∷ z) =
    split (λ n. Under n (b ∷ z)) (is_in s b || (b == 95 && is_in s (slice_index z 0))) (1 + more_digits s z) 0
    (λ e. under-cons b (more_digits s z) z (by (or-either (is_in s b) (b == 95 && is_in s (slice_index z 0)) e)) (more-under s z))
    (λ e. under-none (b ∷ z))
  where
    by : (is_in s b ≡ true) ⊎ ((b == 95 && is_in s (slice_index z 0)) ≡ true) → b < 128
    by (inl e) = in-low s b e
    by (inr e) = is-low b 95 (omega arith) (and-both (b == 95) (is_in s (slice_index z 0)) e).0

digits-under : (s : Set) (z : List ℕ) → Under (digits_len s z) z
digits-under s z = split (λ n. Under n z) (begins_digits s z) (more_digits s z) 0 (λ e. more-under s z) (λ e. under-none z)

exponent-under : (z : List ℕ) (at : ℕ) → Under at z → Under (exponent_end z at) z
exponent-under z at u =
    split (λ n. Under n z) (not (slice_index z at == 101)) at _ (λ e. u) (λ e. let one = under-next at z u (is-low (slice_index z at) 101 (omega arith) (no (slice_index z at == 101) e)) in
    split (λ n. Under n z) (is_in set.Decimal (slice_index z (at + 1))) (at + 1 + digits_len set.Decimal (after (at + 1) z)) _
    (λ f. under-add (at + 1) (digits_len set.Decimal (after (at + 1) z)) z one (digits-under set.Decimal (after (at + 1) z)))
    (λ f. split (λ n. Under n z) ((slice_index z (at + 1) == 43 || slice_index z (at + 1) == 45) && is_in set.Decimal (slice_index z (at + 2))) (at + 2 + digits_len set.Decimal (after (at + 2) z)) at
    (λ g. under-add (at + 2) (digits_len set.Decimal (after (at + 2) z)) z (two one (and-both (slice_index z (at + 1) == 43 || slice_index z (at + 1) == 45) (is_in set.Decimal (slice_index z (at + 2))) g).0) (digits-under set.Decimal (after (at + 2) z)))
    (λ g. u)))
  where
    no : (b : Bool) → not b ≡ false → b ≡ true
    no true e = refl
    no false e = absurd (cc)

    sign : (slice_index z (at + 1) == 43) ≡ true ⊎ (slice_index z (at + 1) == 45) ≡ true → slice_index z (at + 1) < 128
    sign (inl e) = is-low (slice_index z (at + 1)) 43 (omega arith) e
    sign (inr e) = is-low (slice_index z (at + 1)) 45 (omega arith) e

    two : Under (at + 1) z → (slice_index z (at + 1) == 43 || slice_index z (at + 1) == 45) ≡ true → Under (at + 2) z
    two one e =
        let k : at + 1 + 1 ≡ at + 2 = omega arith in
        subst (λ n. Under n z) k (under-next (at + 1) z one (sign (or-either (slice_index z (at + 1) == 43) (slice_index z (at + 1) == 45) e)))

fraction-under : (z : List ℕ) (at : ℕ) → Under at z → Under (fraction_end z at) z
fraction-under z at u =
    split (λ n. Under n z) (slice_index z at == 46 && is_in set.Decimal (slice_index z (at + 1))) (exponent_end z (at + 1 + digits_len set.Decimal (after (at + 1) z))) 0
    (λ e. exponent-under z (at + 1 + digits_len set.Decimal (after (at + 1) z)) (under-add (at + 1) (digits_len set.Decimal (after (at + 1) z)) z (under-next at z u (is-low (slice_index z at) 46 (omega arith) (and-both (slice_index z at == 46) (is_in set.Decimal (slice_index z (at + 1))) e).0)) (digits-under set.Decimal (after (at + 1) z))))
    (λ e. under-none z)

abbrev SpellsUnder : List ℕ → Spelling → Type 0
SpellsUnder z n = Under n.len z

decimal-under : (z : List ℕ) → slice_index z 0 < 128 → SpellsUnder z (decimal z)
decimal-under z low =
    split (SpellsUnder z) (not (fraction_end z (digits_len set.Decimal z) == 0)) _ _
    (λ e. fraction-under z (digits_len set.Decimal z) (digits-under set.Decimal z))
    (λ e. split (SpellsUnder z) (slice_index z 0 == 48) _ _ (λ f. under-one z low) (λ f. digits-under set.Decimal z))

based-under : (s : Set) (z : List ℕ) → slice_index z 0 < 128 → slice_index z 1 < 128 → SpellsUnder z (based s z)
based-under s z low next = under-add 2 (digits_len s (after 2 z)) z (under-next 1 z (under-one z low) next) (digits-under s (after 2 z))

spelling-under : (z : List ℕ) → slice_index z 0 < 128 → SpellsUnder z (spelling_of z)
unfolding spelling_of
spelling-under z low =
    split (SpellsUnder z) (not (slice_index z 0 == 48)) _ _ (λ e. decimal-under z low)
    (λ e. split (SpellsUnder z) (slice_index z 1 == 120 && is_in set.Hexadecimal (slice_index z 2)) _ _ (λ f. based-under set.Hexadecimal z low (is-low (slice_index z 1) 120 (omega arith) (and-both (slice_index z 1 == 120) (is_in set.Hexadecimal (slice_index z 2)) f).0))
    (λ f. split (SpellsUnder z) (slice_index z 1 == 98 && is_in set.Binary (slice_index z 2)) _ _ (λ g. based-under set.Binary z low (is-low (slice_index z 1) 98 (omega arith) (and-both (slice_index z 1 == 98) (is_in set.Binary (slice_index z 2)) g).0))
    (λ g. split (SpellsUnder z) (slice_index z 1 == 111 && is_in set.Octal (slice_index z 2)) _ _ (λ h. based-under set.Octal z low (is-low (slice_index z 1) 111 (omega arith) (and-both (slice_index z 1 == 111) (is_in set.Octal (slice_index z 2)) h).0))
    (λ h. decimal-under z low))))

-- ---- names

identifier-under : (z : List ℕ) → Under (identifier_len z) z
identifier-under z =
    let end = run_len set.Word z in
    split (λ n. Under n z) ((slice_index z end == 63 || slice_index z end == 33) && not (slice_index z (end + 1) == 61)) (end + 1) end
    (λ e. under-next end z (run-under set.Word z) (by (or-either (slice_index z end == 63) (slice_index z end == 33) (and-both (slice_index z end == 63 || slice_index z end == 33) (not (slice_index z (end + 1) == 61)) e).0)))
    (λ e. run-under set.Word z)
  where
    by : (slice_index z (run_len set.Word z) == 63) ≡ true ⊎ (slice_index z (run_len set.Word z) == 33) ≡ true → slice_index z (run_len set.Word z) < 128
    by (inl e) = is-low (slice_index z (run_len set.Word z)) 63 (omega arith) e
    by (inr e) = is-low (slice_index z (run_len set.Word z)) 33 (omega arith) e

symbol-under : (z : List ℕ) → Under (symbol_len z) z
unfolding symbol_len
symbol-under z =
    let end = identifier_len z in
    split (λ n. Under n z) (is_upper (slice_index z 0)) (run_len set.Word z) _ (λ e. run-under set.Word z)
    (λ e. split (λ n. Under n z) (begins_name (slice_index z 0)) _ 0
    (λ f. split (λ n. Under n z) (ends_with_equals z end) (end + 1) end
    (λ g. under-next end z (identifier-under z) (is-low (slice_index z end) 61 (omega arith) (and-both (slice_index z end == 61) (not (slice_index z (end + 1) == 61 || slice_index z (end + 1) == 126 || slice_index z (end + 1) == 62)) g).0))
    (λ g. identifier-under z))
    (λ f. under-none z))

-- ---- operators

abbrev LenLow : ℕ → ℕ → ℕ → Type 0
LenLow next last len = (len ≤ 3) × (1 < len → next < 128) × (2 < len → last < 128)

abbrev SignLow : ℕ → ℕ → Sign → Type 0
SignLow next last (signs.Operator s len) = LenLow next last len
SignLow next last signs.Foreign = Unit {0}
SignLow next last signs.Nothing = Unit {0}

one-low : (next last : ℕ) → LenLow next last 1
one-low next last = (omega arith, λ h. absurd (omega arith), λ h. absurd (omega arith))

two-low : (next last k : ℕ) → k < 128 → (next == k) ≡ true → LenLow next last 2
two-low next last k h e = (omega arith, λ g. is-low next k h e, λ g. absurd (omega arith))

three-low : (next last k j : ℕ) → k < 128 → j < 128 → (next == k) ≡ true → (last == j) ≡ true → LenLow next last 3
three-low next last k j h i e f = (omega arith, λ g. is-low next k h e, λ g. is-low last j i f)

assign-low : (next last : ℕ) (p a : Shape) → SignLow next last (ops.or_assign next p a)
assign-low next last p a = split (SignLow next last) (next == 61) _ _ (λ e. two-low next last 61 (omega arith) e) (λ e. one-low next last)

both-low : (next last k j : ℕ) (a b : Shape) (other : Sign) → k < 128 → j < 128 → SignLow next last other → SignLow next last (if next == k then (if last == j then ops.found a 3 else ops.found b 2) else other)
both-low next last k j a b other h i o =
    split (SignLow next last) (next == k) _ other
    (λ e. split (SignLow next last) (last == j) _ _ (λ f. three-low next last k j h i e f) (λ f. two-low next last k h e))
    (λ e. o)

minus-low : (next last : ℕ) → SignLow next last (ops.minus next)
minus-low next last = split (SignLow next last) (next == 62) _ _ (λ e. tt) (λ e. assign-low next last _ _)

equals-low : (next last : ℕ) → SignLow next last (ops.equals next last)
equals-low next last =
    both-low next last 61 61 _ _ _ (omega arith) (omega arith)
    (split (SignLow next last) (next == 62) _ _ (λ e. two-low next last 62 (omega arith) e) (λ e. split (SignLow next last) (next == 126) _ _ (λ f. tt) (λ f. one-low next last)))

not-low : (next last : ℕ) → SignLow next last (ops.not_sign next)
not-low next last = split (SignLow next last) (next == 126) _ _ (λ e. tt) (λ e. assign-low next last _ _)

less-low : (next last : ℕ) → SignLow next last (ops.less next last)
less-low next last = both-low next last 61 62 _ _ _ (omega arith) (omega arith) (both-low next last 60 61 _ _ _ (omega arith) (omega arith) (one-low next last))

ampersand-low : (next last : ℕ) → SignLow next last (ops.ampersand next last)
ampersand-low next last =
    both-low next last 38 61 _ _ _ (omega arith) (omega arith) (split (SignLow next last) (next == 46) _ _ (λ e. two-low next last 46 (omega arith) e) (λ e. assign-low next last _ _))

single-low : (b next last : ℕ) → SignLow next last (ops.single b)
single-low b next last =
    split (SignLow next last) (b == 126) _ _ (λ e. one-low next last)
    (λ e. split (SignLow next last) (b == 63) _ _ (λ e. one-low next last)
    (λ e. split (SignLow next last) (b == 44) _ _ (λ e. one-low next last)
    (λ e. split (SignLow next last) (b == 40) _ _ (λ e. one-low next last)
    (λ e. split (SignLow next last) (b == 41) _ _ (λ e. one-low next last)
    (λ e. split (SignLow next last) (b == 91) _ _ (λ e. one-low next last)
    (λ e. split (SignLow next last) (b == 93) _ _ (λ e. one-low next last)
    (λ e. split (SignLow next last) (b == 123) _ _ (λ e. one-low next last)
    (λ e. split (SignLow next last) (b == 125) _ _ (λ e. one-low next last) (λ e. tt)))))))))

compound-low : (b next last : ℕ) → SignLow next last (ops.compound b next last)
compound-low b next last =
    split (SignLow next last) (b == 61) _ _ (λ e. equals-low next last)
    (λ e. split (SignLow next last) (b == 33) _ _ (λ e. not-low next last)
    (λ e. split (SignLow next last) (b == 60) _ _ (λ e. less-low next last)
    (λ e. split (SignLow next last) (b == 62) _ _ (λ e. both-low next last 62 61 _ _ _ (omega arith) (omega arith) (assign-low next last _ _))
    (λ e. split (SignLow next last) (b == 38) _ _ (λ e. ampersand-low next last)
    (λ e. split (SignLow next last) (b == 124) _ _ (λ e. both-low next last 124 61 _ _ _ (omega arith) (omega arith) (assign-low next last _ _)) (λ e. single-low b next last))))))

operator-low : (b next last : ℕ) → SignLow next last (ops.operator b next last)
unfolding ops.operator
operator-low b next last =
    split (SignLow next last) (b == 46) _ _ (λ e. split (SignLow next last) (next == 46) _ _ (λ f. tt) (λ f. one-low next last))
    (λ e. split (SignLow next last) (b == 58) _ _ (λ e. split (SignLow next last) (next == 58) _ _ (λ f. two-low next last 58 (omega arith) f) (λ f. one-low next last))
    (λ e. split (SignLow next last) (b == 43) _ _ (λ e. assign-low next last _ _)
    (λ e. split (SignLow next last) (b == 45) _ _ (λ e. minus-low next last)
    (λ e. split (SignLow next last) (b == 42) _ _ (λ e. both-low next last 42 61 _ _ _ (omega arith) (omega arith) (assign-low next last _ _))
    (λ e. split (SignLow next last) (b == 47) _ _ (λ e. assign-low next last _ _)
    (λ e. split (SignLow next last) (b == 37) _ _ (λ e. assign-low next last _ _)
    (λ e. split (SignLow next last) (b == 94) _ _ (λ e. assign-low next last _ _) (λ e. compound-low b next last))))))))

method-low : (b next last : ℕ) → SignLow next last (ops.method_name b next last)
unfolding ops.method_name
method-low b next last =
    split (SignLow next last) (b == 45 && next == 64) _ _ (λ e. two-low next last 64 (omega arith) (and-both (b == 45) (next == 64) e).1)
    (λ e. split (SignLow next last) (b == 43 && next == 64) _ _ (λ e. two-low next last 64 (omega arith) (and-both (b == 43) (next == 64) e).1)
    (λ e. split (SignLow next last) (b == 91 && next == 93) _ _
    (λ e. let n = (and-both (b == 91) (next == 93) e).1 in split (SignLow next last) (last == 61) _ _ (λ f. three-low next last 93 61 (omega arith) (omega arith) n f) (λ f. two-low next last 93 (omega arith) n))
    (λ e. operator-low b next last)))

sign_at-low : (b : Before) (z : List ℕ) → SignLow (slice_index z 1) (slice_index z 2) (sign_at b z)
unfolding sign_at
sign_at-low b z =
    split (SignLow (slice_index z 1) (slice_index z 2)) (names_method b) _ _ (λ e. method-low (slice_index z 0) (slice_index z 1) (slice_index z 2)) (λ e. operator-low (slice_index z 0) (slice_index z 1) (slice_index z 2))

low-under : (s : Shape) (len : ℕ) (z : List ℕ) → slice_index z 0 < 128 → SignLow (slice_index z 1) (slice_index z 2) (signs.Operator s len) → Under len z
low-under s len z low h zero i = low
low-under s len z low h (suc zero) i = h.1 (omega arith)
low-under s len z low h (suc (suc zero)) i = h.2 (omega arith)
low-under s len z low h (suc (suc (suc k))) i = let m = h.0 in absurd (omega arith)

-- ---- what begins at a place

-- the step ends where a character does
abbrev pub Ends : Cut → List ℕ → Type 0
Ends (cuts.Blank len is_fresh) z = IsUtf8 z → len ≤ length z → IsCharBoundary z len
Ends cuts.Line z = Under 1 z
Ends cuts.Quote z = slice_index z 0 < 128
Ends (cuts.Token x) z = Under x.len z
Ends cuts.Outside z = Unit {0}
Ends cuts.Bad z = Unit {0}

pub under-boundary : (n : ℕ) (z : List ℕ) → Under n z → IsUtf8 z → n ≤ length z → IsCharBoundary z n
under-boundary zero z u text h = IsCharBoundary-start z text
under-boundary (suc n) z u text h =
    let e : n + 1 ≡ suc n = omega arith in
    subst (IsCharBoundary z) e (IsCharBoundary-after_ascii z n text (omega arith) (u n (omega arith)))

label-under : (z : List ℕ) (end : ℕ) → Under end z → is_labelled z end ≡ true → Ends (label end) z
label-under z end u e = under-next end z u (is-low (slice_index z end) 58 (omega arith) (and-both (slice_index z end == 58) (not (slice_index z (end + 1) == 58)) e).0)

name-ends : (b : Before) (z : List ℕ) → Ends (name b z) z
unfolding name
name-ends b z =
    split (λ c. Ends c z) (is_labelled z end) (label end) _ (λ e. label-under z end u e)
    (λ e. split (λ c. Ends c z) (is_after_dot b) _ _ (λ f. u) (λ f. by (word_of (take end z))))
  where
    end : ℕ
    end = identifier_len z

    u : Under (identifier_len z) z
    u = identifier-under z

    by : (w : Word) → Ends (elim w [ word.Free ↦ token shape.Identifier (identifier_len z) before.Name true | word.Keyword s ↦ keyword b s (identifier_len z) | word.Foreign ↦ cuts.Outside ]) z
    by word.Free = identifier-under z
    by (word.Keyword s) = identifier-under z
    by word.Foreign = tt

constant-ends : (b : Before) (z : List ℕ) → Ends (constant b z) z
unfolding constant
constant-ends b z =
    split (λ c. Ends c z) (is_labelled z (run_len set.Word z)) (label (run_len set.Word z)) _ (λ e. label-under z (run_len set.Word z) (run-under set.Word z) e)
    (λ e. split (λ c. Ends c z) (is_after_dot b) _ _ (λ f. run-under set.Word z) (λ f. by (word_of (take (run_len set.Word z) z))))
  where
    by : (w : Word) → Ends (elim w [ word.Foreign ↦ cuts.Outside | word.Free ↦ token shape.Constant (run_len set.Word z) before.Constant true | word.Keyword s ↦ token shape.Constant (run_len set.Word z) before.Constant true ]) z
    by word.Free = run-under set.Word z
    by (word.Keyword s) = run-under set.Word z
    by word.Foreign = tt

number-ends : (z : List ℕ) → slice_index z 0 < 128 → Ends (number z) z
unfolding number
number-ends z low =
    split (λ c. Ends c z) (is_foreign (spelling_of z) z) cuts.Outside _ (λ e. tt)
    (λ e. split (λ c. Ends c z) ((spelling_of z).is_float) _ _ (λ f. spelling-under z low) (λ f. spelling-under z low))

variable-ends : (z : List ℕ) → slice_index z 0 < 128 → Ends (variable z) z
unfolding variable
variable-ends z low =
    split (λ c. Ends c z) (slice_index z 1 == 64) cuts.Outside _ (λ e. tt)
    (λ e. split (λ c. Ends c z) (begins_name (slice_index z 1)) _ cuts.Bad (λ f. under-add 1 (run_len set.Word (after 1 z)) z (under-one z low) (run-under set.Word (after 1 z))) (λ f. tt))

judged-ends : (look : Look) (s : Shape) (len : ℕ) (rest z : List ℕ) → Under len z → Ends (judged look s len rest) z
unfolding judged
judged-ends look s len rest z u = split (λ c. Ends c z) (is_outside look s rest) cuts.Outside _ (λ e. tt) (λ e. split (λ c. Ends c z) (is_bad look s rest) cuts.Bad _ (λ f. tt) (λ f. u))

sign-ends : (look : Look) (z : List ℕ) → slice_index z 0 < 128 → Ends (sign look z) z
unfolding sign
sign-ends look z low = by (sign_at look.before z) (sign_at-low look.before z)
  where
    by : (g : Sign) → SignLow (slice_index z 1) (slice_index z 2) g → Ends (elim g [ signs.Nothing ↦ cuts.Bad | signs.Foreign ↦ cuts.Outside | signs.Operator s len ↦ judged look s len (after len z) ]) z
    by signs.Nothing h = tt
    by signs.Foreign h = tt
    by (signs.Operator s len) h = judged-ends look s len (after len z) z (low-under s len z low h)

colon-ends : (look : Look) (z : List ℕ) → slice_index z 0 < 128 → Ends (colon look z) z
unfolding colon
colon-ends look z low =
    split (λ c. Ends c z) (not (symbol_len (after 1 z) == 0)) _ _ (λ e. under-add 1 (symbol_len (after 1 z)) z (under-one z low) (symbol-under (after 1 z)))
    (λ e. split (λ c. Ends c z) _ (sign look z) cuts.Outside (λ f. sign-ends look z low) (λ f. tt))

-- ---- blanks

blank-under : (z : List ℕ) → Under (blank_len z) z
blank-under z =
    split (λ n. Under n z) (is_in set.Blank b) 1 _ (λ e. under-one z (in-low set.Blank b e))
    (λ e. split (λ n. Under n z) (b == 13 && next == 10) 1 _ (λ f. under-one z (is-low b 13 (omega arith) (and-both (b == 13) (next == 10) f).0))
    (λ f. split (λ n. Under n z) (b == 92 && next == 10) 2 _ (λ g. two 10 (omega arith) (and-both (b == 92) (next == 10) g).0 (and-both (b == 92) (next == 10) g).1)
    (λ g. split (λ n. Under n z) (b == 92 && next == 13 && slice_index z 2 == 10) 3 0 (λ h. three (and-both (b == 92 && next == 13) (slice_index z 2 == 10) h).0 (and-both (b == 92 && next == 13) (slice_index z 2 == 10) h).1)
    (λ h. under-none z))))
  where
    b : ℕ
    b = slice_index z 0

    next : ℕ
    next = slice_index z 1

    two : (k : ℕ) → k < 128 → (slice_index z 0 == 92) ≡ true → (slice_index z 1 == k) ≡ true → Under 2 z
    two k h e f = under-next 1 z (under-one z (is-low (slice_index z 0) 92 (omega arith) e)) (is-low (slice_index z 1) k h f)

    three : (slice_index z 0 == 92 && slice_index z 1 == 13) ≡ true → (slice_index z 2 == 10) ≡ true → Under 3 z
    three e f =
        let p = and-both (slice_index z 0 == 92) (slice_index z 1 == 13) e in
        under-next 2 z (two 13 (omega arith) p.0 p.1) (is-low (slice_index z 2) 10 (omega arith) f)

blanks-under : (z : List ℕ) → Under (blanks_len z) z
blanks-under z = split (λ n. Under n z) (is_in set.Blank (slice_index z 0)) (run_len set.Blank z) (blank_len z) (λ e. run-under set.Blank z) (λ e. blank-under z)

line-low : (z : List ℕ) → slice_index z (line_len z) < 128
line-low [] = omega arith
line-low (b ∷ z) =
    split (λ n. slice_index (b ∷ z) n < 128) (b == 10 || (b == 13 && slice_index z 0 == 10)) 0 (1 + line_len z)
    (λ e. by (or-either (b == 10) (b == 13 && slice_index z 0 == 10) e)) (λ e. let one : suc (line_len z) ≡ 1 + line_len z = omega arith in subst (λ n. slice_index (b ∷ z) n < 128) one (line-low z))
  where
    by : (b == 10) ≡ true ⊎ (b == 13 && slice_index z 0 == 10) ≡ true → b < 128
    by (inl e) = is-low b 10 (omega arith) e
    by (inr e) = is-low b 13 (omega arith) (and-both (b == 13) (slice_index z 0 == 10) e).0

pub low-boundary : (n : ℕ) (z : List ℕ) → slice_index z n < 128 → n ≤ length z → IsCharBoundary z n
low-boundary n z low h = (h, λ l g. absurd (omega arith))

-- ---- the step outside strings

mark-ends : (look : Look) (z : List ℕ) → Ends (mark look z) z
unfolding mark
mark-ends look z =
    split (λ c. Ends c z) (b == 34 || b == 39) cuts.Quote _ (λ e. quote (or-either (b == 34) (b == 39) e))
    (λ e. split (λ c. Ends c z) (b == 58) (colon look z) _ (λ f. colon-ends look z (is-low b 58 (omega arith) f))
    (λ f. split (λ c. Ends c z) (b == 64) (variable z) _ (λ g. variable-ends z (is-low b 64 (omega arith) g))
    (λ g. split (λ c. Ends c z) (b == 59) _ _ (λ h. under-one z (is-low b 59 (omega arith) h))
    (λ h. split (λ c. Ends c z) (b == 35) (cuts.Blank (line_len z) false) _ (λ i. λ text n. low-boundary (line_len z) z (line-low z) n)
    (λ i. split (λ c. Ends c z) (b == 36 || b == 96 || nat_le 128 b) cuts.Outside (sign look z) (λ j. tt) (λ j. sign-ends look z (small j)))))))
  where
    b : ℕ
    b = slice_index z 0

    quote : (slice_index z 0 == 34) ≡ true ⊎ (slice_index z 0 == 39) ≡ true → slice_index z 0 < 128
    quote (inl e) = is-low (slice_index z 0) 34 (omega arith) e
    quote (inr e) = is-low (slice_index z 0) 39 (omega arith) e

    small : (slice_index z 0 == 36 || slice_index z 0 == 96 || nat_le 128 (slice_index z 0)) ≡ false → slice_index z 0 < 128
    small e = grind (arith, nat_tests, common_steps)

pub cut-ends : (look : Look) (z : List ℕ) → Ends (cut_of look z) z
unfolding cut_of
cut-ends look z =
    split (λ c. Ends c z) (look.is_fresh && ends_program z) cuts.Outside _ (λ e. tt)
    (λ e. split (λ c. Ends c z) (not (blanks_len z == 0)) _ _ (λ f. λ text n. under-boundary (blanks_len z) z (blanks-under z) text n)
    (λ f. split (λ c. Ends c z) (slice_index z 0 == 10) cuts.Line _ (λ g. under-one z (is-low (slice_index z 0) 10 (omega arith) g))
    (λ g. split (λ c. Ends c z) (begins_name (slice_index z 0)) (name look.before z) _ (λ h. name-ends look.before z)
    (λ h. split (λ c. Ends c z) (is_upper (slice_index z 0)) (constant look.before z) _ (λ i. constant-ends look.before z)
    (λ i. split (λ c. Ends c z) (is_in set.Decimal (slice_index z 0)) (number z) (mark look z) (λ j. number-ends z (in-low set.Decimal (slice_index z 0) j)) (λ j. mark-ends look z))))))

-- ---- words

ascii-take : (n : ℕ) (z : List ℕ) → Under n z → IsAscii (take n z)
ascii-take zero z u i = omega arith
ascii-take (suc n) [] u i = omega arith
ascii-take (suc n) (b ∷ z) u zero = u 0 (omega arith)
ascii-take (suc n) (b ∷ z) u (suc i) = ascii-take n z (λ j h. u (suc j) (omega arith)) i

ascii-after : (z : List ℕ) → IsAscii z → IsAscii (after 1 z)
ascii-after z a i = subst (λ x. x < 128) (sym (get_or-drop 1 z i 0)) (a (1 + i))

pub words-text : (s : Shape) (n : ℕ) (z : List ℕ) → Under n z → IsUtf8 (words_of s n z)
words-text s n z u =
    split IsUtf8 (same_shape s shape.InstanceVariable || same_shape s shape.Symbol) (after 1 (take n z)) _ (λ e. IsUtf8-from_ascii (after 1 (take n z)) (ascii-after (take n z) (ascii-take n z u)))
    (λ e. split IsUtf8 (same_shape s shape.Label) (take (n - 1) z) (take n z) (λ f. IsUtf8-from_ascii (take (n - 1) z) (ascii-take (n - 1) z (λ i h. u i (omega arith)))) (λ f. IsUtf8-from_ascii (take n z) (ascii-take n z u)))

pub token_text : (look : Look) (z : List ℕ) (x : Lexeme) → cut_of look z ≡ cuts.Token x → IsUtf8 (words_of x.shape x.len z)
token_text look z x e = words-text x.shape x.len z (subst (λ c. Ends c z) e (cut-ends look z))

-- ---- pieces of strings

abbrev StopLow : ℕ → ℕ → Stop → Type 0
StopLow b next stop.Quote = b < 128
StopLow b next stop.Interpolation = (b < 128) × (next < 128)
StopLow b next stop.Foreign = Unit {0}
StopLow b next stop.End = Unit {0}

abbrev MayStopLow : ℕ → ℕ → Option Stop → Type 0
MayStopLow b next None = Unit {0}
MayStopLow b next (Some s) = StopLow b next s

stop-low : (quote b next : ℕ) → quote < 128 → MayStopLow b next (stop_at quote b next)
stop-low quote b next h =
    split (MayStopLow b next) (b == quote) _ _ (λ e. is-low b quote h e)
    (λ e. split (MayStopLow b next) (not (quote == 34) || not (b == 35)) None _ (λ f. tt)
    (λ f. split (MayStopLow b next) (next == 123) _ _ (λ g. (sharp (or-neither (not (quote == 34)) (not (b == 35)) f).1, is-low next 123 (omega arith) g))
    (λ g. split (MayStopLow b next) (next == 64 || next == 36) _ _ (λ i. tt) (λ i. tt))))
  where
    sharp : not (b == 35) ≡ false → b < 128
    sharp e = by (b == 35) refl e
      where
        by : (t : Bool) → (b == 35) ≡ t → not t ≡ false → b < 128
        by true f g = is-low b 35 (omega arith) f
        by false f g = absurd (cc)

-- the piece ends at an ASCII byte, `k` bytes having stood before the text
abbrev PieceLow : ℕ → List ℕ → Piece → Type 0
PieceLow k z p = (k ≤ p.len) × StopLow (slice_index z (p.len - k)) (slice_index z (p.len - k + 1)) p.stop

piece-more : (k b : ℕ) (z : List ℕ) (p : Piece) → PieceLow (k + 1) z p → PieceLow k (b ∷ z) p
piece-more k b z p h =
    let more = h.0 in
    let one : suc (p.len - (k + 1)) ≡ p.len - k = omega arith in
    let two : suc (p.len - (k + 1) + 1) ≡ p.len - k + 1 = omega arith in
    let first : slice_index z (p.len - (k + 1)) ≡ slice_index (b ∷ z) (p.len - k) = ap (λ n. slice_index (b ∷ z) n) one in
    let second : slice_index z (p.len - (k + 1) + 1) ≡ slice_index (b ∷ z) (p.len - k + 1) = ap (λ n. slice_index (b ∷ z) n) two in
    (omega arith, subst (λ n. StopLow (slice_index (b ∷ z) (p.len - k)) n p.stop) second (subst (λ n. StopLow n (slice_index z (p.len - (k + 1) + 1)) p.stop) first h.1))

piece-here : (k b : ℕ) (z : List ℕ) (s : Stop) → StopLow b (slice_index z 0) s → PieceLow k (b ∷ z) (record { stop = s; len = k })
piece-here k b z s h =
    let none : 0 ≡ k - k = omega arith in
    (omega arith, subst (λ n. StopLow (slice_index (b ∷ z) n) (slice_index (b ∷ z) (n + 1)) s) none h)

piece-low : (quote : ℕ) (taken : Bool) (k : ℕ) (z : List ℕ) → quote < 128 → PieceLow k z (piece_from quote taken k z)
piece-low quote taken k [] h = (omega arith, tt)
piece-low quote true k (b ∷ z) h = piece-more k b z (piece_from quote false (k + 1) z) (piece-low quote false (k + 1) z h)
piece-low quote false k (b ∷ z) h = by (piece-low quote (b == 92) (k + 1) z h) (stop_at quote b (slice_index z 0)) (stop-low quote b (slice_index z 0) h)
  where
    by : PieceLow (k + 1) z (piece_from quote (b == 92) (k + 1) z) → (o : Option Stop) → MayStopLow b (slice_index z 0) o → PieceLow k (b ∷ z) (elim o [ None ↦ piece_from quote (b == 92) (k + 1) z | Some s ↦ record { stop = s; len = k } ])
    by more None g = piece-more k b z (piece_from quote (b == 92) (k + 1) z) more
    by more (Some s) g = piece-here k b z s g

piece-at : (quote : ℕ) (z : List ℕ) → quote < 128 → StopLow (slice_index z (piece_of quote z).len) (slice_index z ((piece_of quote z).len + 1)) (piece_of quote z).stop
piece-at quote z h =
    let e : (piece_of quote z).len - 0 ≡ (piece_of quote z).len = omega arith in
    subst (λ n. StopLow (slice_index z n) (slice_index z (n + 1)) (piece_of quote z).stop) e (piece-low quote false 0 z h).1

within-least : (s : Stop) (len n : ℕ) → IsWithin s len n → len ≤ n
within-least stop.Quote len n h = omega arith
within-least stop.Interpolation len n h = omega arith
within-least stop.Foreign len n h = h
within-least stop.End len n h = h

piece-low-at : (quote : ℕ) (z : List ℕ) (p : Piece) (s : Stop) → p ≡ piece_of quote z → quote < 128 → p.stop ≡ s → StopLow (slice_index z p.len) (slice_index z (p.len + 1)) s
piece-low-at quote z p s is h e =
    subst (λ c. StopLow (slice_index z p.len) (slice_index z (p.len + 1)) c) e (subst (λ (x : Piece). StopLow (slice_index z x.len) (slice_index z (x.len + 1)) x.stop) (sym is) (piece-at quote z h))

-- what stands before the quote is UTF-8, and what stands before `#{`
pub piece-quoted : (quote : ℕ) (z : List ℕ) (p : Piece) → p ≡ piece_of quote z → IsWithin p.stop p.len (length z) → quote < 128 → IsUtf8 z → p.stop ≡ stop.Quote → IsUtf8 (take p.len z)
piece-quoted quote z p is within h text e = IsUtf8-take z p.len text (low-boundary p.len z (piece-low-at quote z p stop.Quote is h e) (within-least p.stop p.len (length z) within))

pub piece-interpolated : (quote : ℕ) (z : List ℕ) (p : Piece) → p ≡ piece_of quote z → IsWithin p.stop p.len (length z) → quote < 128 → IsUtf8 z → p.stop ≡ stop.Interpolation → IsUtf8 (take p.len z)
piece-interpolated quote z p is within h text e = IsUtf8-take z p.len text (low-boundary p.len z (piece-low-at quote z p stop.Interpolation is h e).0 (within-least p.stop p.len (length z) within))

-- ---- steps

abbrev StepText : List ℕ → Result (ℕ × State) LexEnd → Type 0
StepText z (Ok y) = y.0 ≤ length z → IsUtf8 (drop y.0 z) × IsQuoted y.1.string
StepText z (Err e) = Unit {0}

line-string : (at : ℕ) (s : State) → IsQuoted s.string → IsQuoted (after_line at s).string
line-string at s q = split (λ (t : State). IsQuoted t.string) s.keeps _ _ (λ e. q) (λ e. q)

join-string : (goes : Bool) (s : State) → IsQuoted s.string → IsQuoted (joined goes s).string
join-string goes s q = split (λ (t : State). IsQuoted t.string) goes _ s (λ e. q) (λ e. q)

after-string : (end : ℕ) (o : Option (Option ℕ)) → IsQuoted (string_after end o)
after-string end None = tt
after-string end (Some None) = tt
after-string end (Some (Some opening)) = omega arith

nest-string : (c : Shape) (end : ℕ) (s : State) → IsQuoted s.string → IsQuoted (nested c end s).string
nest-string c end s q =
    split (λ (t : State). IsQuoted t.string) (same_shape c shape.OpenBrace) _ _ (λ e. q)
    (λ e. split (λ (t : State). IsQuoted t.string) (same_shape c shape.CloseBrace) _ s (λ f. after-string end (slice_get s.nesting (length s.nesting - 1))) (λ f. q))

accept-string : (x : Lexeme) (at : ℕ) (z : List ℕ) (s : State) → IsQuoted s.string → IsQuoted (accepted x at z s).string
unfolding accepted
accept-string x at z s q = nest-string x.shape (at + x.len) _ (join-string (continues x.shape (after x.len z)) s q)

code-text : (at : ℕ) (z : List ℕ) (s : State) → IsUtf8 z → IsQuoted s.string → StepText z (code_step at z s)
unfolding code_step
code-text at z s text q = by (cut_of s.look z) (cut-ends s.look z)
  where
    by : (c : Cut) → Ends c z → StepText z (elim c [
      | cuts.Blank len is_fresh ↦ Ok (len, blanked is_fresh s)
      | cuts.Line ↦ Ok (1, after_line at s)
      | cuts.Quote ↦ Ok (1, opened (slice_index z 0) at s)
      | cuts.Token x ↦ Ok (x.len, accepted x at z s)
      | cuts.Outside ↦ Err (Outside at)
      | cuts.Bad ↦ Err (Bad at)
    ])
    by (cuts.Blank len is_fresh) h = λ n. (IsUtf8-drop z len text (h text n), q)
    by cuts.Line h = λ n. (IsUtf8-drop z 1 text (under-boundary 1 z h text n), line-string at s q)
    by cuts.Quote h = λ n. (IsUtf8-drop z 1 text (under-boundary 1 z (under-one z h) text n), h)
    by (cuts.Token x) h = λ n. (IsUtf8-drop z x.len text (under-boundary x.len z h text n), accept-string x at z s q)
    by cuts.Outside h = tt
    by cuts.Bad h = tt

quoted-text : (o : Opened) (at n : ℕ) (z : List ℕ) (s : State) → IsUtf8 z → slice_index z n < 128 → StepText z (quoted o at n z s)
quoted-text o at n z s text low =
    split (StepText z) (is_touched (after (n + 1) z)) _ _ (λ e. tt) (λ e. λ m. (IsUtf8-drop z (n + 1) text (IsCharBoundary-after_ascii z n text (omega arith) low), tt))

interpolated-text : (o : Opened) (at n : ℕ) (z : List ℕ) (s : State) → IsUtf8 z → slice_index z (n + 1) < 128 → StepText z (interpolated o at n z s)
interpolated-text o at n z s text low m =
    let e : n + 1 + 1 ≡ n + 2 = omega arith in
    (subst (λ k. IsUtf8 (drop k z)) e (IsUtf8-drop z (n + 1 + 1) text (IsCharBoundary-after_ascii z (n + 1) text (omega arith) low)), tt)

string-text : (o : Opened) (at : ℕ) (z : List ℕ) (s : State) → IsUtf8 z → o.quote < 128 → StepText z (string_step o at z s)
unfolding string_step
string-text o at z s text q = by (piece_of o.quote z).len (piece_of o.quote z).stop (piece-at o.quote z q)
  where
    by : (len : ℕ) (c : Stop) → StopLow (slice_index z len) (slice_index z (len + 1)) c → StepText z (elim c [
      | stop.Quote ↦ quoted o at len z s
      | stop.Interpolation ↦ interpolated o at len z s
      | stop.Foreign ↦ Err (Outside (at + len))
      | stop.End ↦ Err (Bad (at + len))
    ])
    by len stop.Quote h = quoted-text o at len z s text h
    by len stop.Interpolation h = interpolated-text o at len z s text h.1
    by len stop.Foreign h = tt
    by len stop.End h = tt

step-holds : (at : ℕ) (z : List ℕ) (s : State) → IsUtf8 z → IsQuoted s.string → StepText z (step at z s)
unfolding step
step-holds at z s text q = by s.string q
  where
    by : (o : Option Opened) → IsQuoted o → StepText z (elim o [ Some o ↦ string_step o at z s | None ↦ code_step at z s ])
    by None h = code-text at z s text q
    by (Some o) h = string-text o at z s text h

-- after a step the text is UTF-8 again, and the quote of the open string ASCII
pub step_text : (at : ℕ) (z : List ℕ) (s : State) (n : ℕ) (more : State) → step at z s ≡ Ok (n, more) → IsUtf8 z → IsQuoted s.string → n ≤ length z → IsUtf8 (drop n z) × IsQuoted more.string
step_text at z s n more e text q h = subst (StepText z) e (step-holds at z s text q) h
