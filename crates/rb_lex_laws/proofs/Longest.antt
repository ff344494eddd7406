-- Runs of characters, against the spellings that they hold.
use Rattle.std.proofs.Common.{◌≡◌, ℕ, suc, ◌+◌, ◌≤◌, Bool, true, false, not, ◌==◌, ◌&&◌, ◌||◌, cond, if◌then◌else◌, List, [], ◌∷◌, ◌++◌, length, refl, sym, ap, subst, ◌∙◌, append_assoc, length-append, arith}
use Rattle.std.specs.Prelude.{slice_index}
use Rattle.std.specs.List.{list_all}
use Rattle.std.proofs.lemmas.Grind.{common_steps}
use Rattle.std.proofs.lemmas.Bool.Decides.{nat_tests}
use Rattle.rb_lex.specs.Chars.{is_in, run_len, begins_name, is_upper}
use Rattle.rb_lex.specs.Words.{identifier_len}
use Rattle.rb_lex.specs.Numbers.{digits_len, more_digits, begins_digits}
use Rattle.rb_lex.specs.declared.chars.Set.{Set}
use Rattle.rb_lex.specs.declared.chars.Set.TheVariants as set
use Rattle.rb_rules.specs.Spellings.{IsNamed, AreDigits, Begins}
use Rattle.rb_rules.specs.Spellings.IsIdentifier.{Plain, Asking, Shouting}
use Rattle.rb_rules.specs.Spellings.AreDigits.{One, More, Parted}
use Rattle.rb_lex_laws.specs.Longest.{IdentifiersAreLongest, ConstantsAreLongest, DigitsAreLongest}

pub and-left : (a b : Bool) → (a && b) ≡ true → a ≡ true
and-left true b h = refl
and-left false b h = h

pub and-right : (a b : Bool) → (a && b) ≡ true → b ≡ true
and-right true b h = h
and-right false b h = absurd (cc)

-- a run goes at least as far as all its characters are of the set
pub run-all : (s : Set) (w rest : List ℕ) → list_all (is_in s) w ≡ true → length w ≤ run_len s (w ++ rest)
run-all s [] rest h = omega arith
run-all s (c ∷ w) rest h =
    let here = and-left (is_in s c) (list_all (is_in s) w) h in
    let more = run-all s w rest (and-right (is_in s c) (list_all (is_in s) w) h) in
    let P : Bool → Type 0 = λ t. suc (length w) ≤ cond t (1 + run_len s (w ++ rest)) 0 in
    subst P (sym here) (omega arith)

-- and no further than a character that is not
pub run-ends : (s : Set) (w : List ℕ) (c : ℕ) (rest : List ℕ) → list_all (is_in s) w ≡ true → is_in s c ≡ false → run_len s (w ++ c ∷ rest) ≡ length w
run-ends s [] c rest h ends = ap (λ t. cond t (1 + run_len s rest) 0) ends
run-ends s (d ∷ w) c rest h ends =
    let here = and-left (is_in s d) (list_all (is_in s) w) h in
    let more = run-ends s w c rest (and-right (is_in s d) (list_all (is_in s) w) h) ends in
    let e : 1 + run_len s (w ++ c ∷ rest) ≡ suc (length w) = omega arith in
    ap (λ t. cond t (1 + run_len s (w ++ c ∷ rest)) 0) here ∙ e

pub upper-in : (c : ℕ) → is_upper c ≡ true → is_in set.Word c ≡ true
upper-in c h = grind (arith, nat_tests, common_steps)

pub lower-in : (c : ℕ) → begins_name c ≡ true → is_in set.Word c ≡ true
lower-in c h = grind (arith, nat_tests, common_steps)

pub named-all : (first : ℕ → Bool) (w : List ℕ) → ((c : ℕ) → first c ≡ true → is_in set.Word c ≡ true) → IsNamed first w → list_all (is_in set.Word) w ≡ true
named-all first [] inside h = refl
named-all first (c ∷ w) inside h = ap (λ t. t && list_all (is_in set.Word) w) (inside c h.0) ∙ h.1

pub constants-longest : ConstantsAreLongest
constants-longest w rest h = run-all set.Word w rest (named-all is_upper w upper-in h)

pub at-seam : (w : List ℕ) (m : ℕ) (rest : List ℕ) → slice_index (w ++ m ∷ rest) (length w) ≡ m
at-seam [] m rest = refl
at-seam (c ∷ w) m rest = at-seam w m rest

pub after-seam : (w : List ℕ) (m : ℕ) (rest : List ℕ) → slice_index (w ++ m ∷ rest) (length w + 1) ≡ slice_index rest 0
after-seam [] m rest = refl
after-seam (c ∷ w) m rest =
    let e : suc (length w) + 1 ≡ suc (length w + 1) = omega arith in
    ap (slice_index (c ∷ w ++ m ∷ rest)) e ∙ after-seam w m rest

pub no-equals : (rest : List ℕ) → ¬ Begins 61 rest → (slice_index rest 0 == 61) ≡ false
no-equals [] h = refl
no-equals (d ∷ rest) h = by-test (d == 61) refl
  where
    by-test : (t : Bool) → (d == 61) ≡ t → (d == 61) ≡ false
    by-test true e = let same : d ≡ 61 = grind (arith, nat_tests) in absurd (h same)
    by-test false e = e

plain-len : (z : List ℕ) → run_len set.Word z ≤ identifier_len z
plain-len z =
    let end = run_len set.Word z in
    elim ((slice_index z end == 63 || slice_index z end == 33) && not (slice_index z (end + 1) == 61)) as (λ t. end ≤ (if t then end + 1 else end)) [
      | true ↦ omega arith
      | false ↦ omega arith
    ]

pub marked-len : (w : List ℕ) (m : ℕ) (rest : List ℕ) → list_all (is_in set.Word) w ≡ true → is_in set.Word m ≡ false → (m == 63 || m == 33) ≡ true → ¬ Begins 61 rest → identifier_len (w ++ m ∷ rest) ≡ length w + 1
marked-len w m rest all out mark free =
    let z = w ++ m ∷ rest in
    let P : ℕ → ℕ = λ end. if ((slice_index z end == 63 || slice_index z end == 33) && not (slice_index z (end + 1) == 61)) then end + 1 else end in
    let Q : ℕ → ℕ → ℕ = λ a b. if ((a == 63 || a == 33) && not (b == 61)) then length w + 1 else length w in
    ap P (run-ends set.Word w m rest all out)
    ∙ ap (λ a. Q a (slice_index z (length w + 1))) (at-seam w m rest)
    ∙ ap (λ t. if (t && not (slice_index z (length w + 1) == 61)) then length w + 1 else length w) mark
    ∙ ap (λ b. if not (b == 61) then length w + 1 else length w) (after-seam w m rest)
    ∙ ap (λ t. if not t then length w + 1 else length w) (no-equals rest free)

seam-length : (w : List ℕ) (m : ℕ) (rest : List ℕ) → identifier_len (w ++ m ∷ rest) ≡ length w + 1 → length (w ++ m ∷ []) ≤ identifier_len ((w ++ m ∷ []) ++ rest)
seam-length w m rest e =
    let more : length (w ++ m ∷ []) ≡ length w + 1 = length-append w (m ∷ []) in
    let same : (w ++ m ∷ []) ++ rest ≡ w ++ m ∷ rest = append_assoc w (m ∷ []) rest in
    let whole = ap identifier_len same ∙ e in
    omega arith

pub identifiers-longest : IdentifiersAreLongest
identifiers-longest w rest (Plain _ _ h) =
    let runs = run-all set.Word w rest (named-all begins_name w lower-in h) in
    let len = plain-len (w ++ rest) in
    omega arith
identifiers-longest _ rest (Asking w _ h free) = seam-length w 63 rest (marked-len w 63 rest (named-all begins_name w lower-in h) refl refl free)
identifiers-longest _ rest (Shouting w _ h free) = seam-length w 33 rest (marked-len w 33 rest (named-all begins_name w lower-in h) refl refl free)

digits-more : (s : Set) (d : ℕ) (z : List ℕ) → is_in s d ≡ true → digits_len s (d ∷ z) ≡ 1 + more_digits s z
digits-more s d z h =
    let some : (suc (length z) == 0) ≡ false = grind (arith, nat_tests) in
    let begins : (not (suc (length z) == 0) && is_in s d) ≡ true = ap (λ t. not t && is_in s d) some ∙ h in
    ap (λ t. if t then more_digits s (d ∷ z) else 0) begins
    ∙ ap (λ t. if (t || (d == 95 && is_in s (slice_index z 0))) then 1 + more_digits s z else 0) h

digits-at-most : (s : Set) (z : List ℕ) → digits_len s z ≤ more_digits s z
digits-at-most s z =
    elim (begins_digits s z) as (λ t. (if t then more_digits s z else 0) ≤ more_digits s z) [ true ↦ omega arith | false ↦ omega arith ]

first-digit : (s : Set) (w rest : List ℕ) → AreDigits (is_in s) w → is_in s (slice_index (w ++ rest) 0) ≡ true
first-digit s _ rest (One d h) = h
first-digit s _ rest (More d w h more) = h
first-digit s _ rest (Parted d w h more) = h

or-true : (b : Bool) → (b || true) ≡ true
or-true true = refl
or-true false = refl

parted : (s : Set) (z : List ℕ) → is_in s (slice_index z 0) ≡ true → more_digits s (95 ∷ z) ≡ 1 + more_digits s z
parted s z h =
    ap (λ t. if (is_in s 95 || t) then 1 + more_digits s z else 0) h
    ∙ ap (λ t. if t then 1 + more_digits s z else 0) (or-true (is_in s 95))

pub digits-longest : DigitsAreLongest
digits-longest s _ rest (One d h) = let e = digits-more s d rest h in omega arith
digits-longest s _ rest (More d w h more) =
    let e = digits-more s d (w ++ rest) h in
    let within = digits-longest s w rest more in
    let most = digits-at-most s (w ++ rest) in
    omega arith
digits-longest s _ rest (Parted d w h more) =
    let e = digits-more s d (95 ∷ w ++ rest) h in
    let u = parted s (w ++ rest) (first-digit s w rest more) in
    let within = digits-longest s w rest more in
    let most = digits-at-most s (w ++ rest) in
    omega arith
