-- Runs of characters at the front of a text, and the name there.
use Rattle.std.proofs.Common.{◌≡◌, ℕ, suc, ◌+◌, ◌⊎◌, Bool, true, false, not, ◌==◌, ◌&&◌, ◌||◌, if◌then◌else◌, List, [], ◌∷◌, ◌++◌, length, inl, inr, refl, sym, ap, subst, ◌∙◌, append_assoc, length-append, arith}
use Rattle.std.specs.Prelude.{slice_index}
use Rattle.std.specs.List.{list_all}
use Rattle.rb_lex.specs.Chars.{is_in, run_len, begins_name, is_upper}
use Rattle.rb_lex.specs.Words.{identifier_len, is_labelled}
use Rattle.rb_lex.specs.declared.chars.Set.{Set}
use Rattle.rb_lex.specs.declared.chars.Set.TheVariants as set
use Rattle.rb_rules.specs.Spellings.{Begins, IsNamed, IsIdentifier, IsConstant}
use Rattle.rb_rules.specs.Spellings.IsIdentifier.{Plain, Asking, Shouting}
use Rattle.rb_lex_laws.proofs.Lists.{if-true, if-false, and-both, both-and, or-either, not-true, no-both, not-begins, tail-at, eq-is}
use Rattle.rb_lex_laws.proofs.Longest.{marked-len, named-all, upper-in, lower-in}

pub record Run (s : Set) (z : List ℕ) : Type 0 where
  pub run : List ℕ
  pub rest : List ℕ
  pub whole : run ++ rest ≡ z
  pub all : list_all (is_in s) run ≡ true
  pub stops : is_in s (slice_index rest 0) ≡ false
  pub len : run_len s z ≡ length run

pub nothing-in : (s : Set) → is_in s 0 ≡ false
nothing-in set.Word = refl
nothing-in set.Blank = refl
nothing-in set.Binary = refl
nothing-in set.Octal = refl
nothing-in set.Decimal = refl
nothing-in set.Hexadecimal = refl

pub run-of : (s : Set) (z : List ℕ) → Run s z
run-of s [] = record { run = []; rest = []; whole = refl; all = refl; stops = nothing-in s; len = refl }
run-of s (c ∷ z) = by (is_in s c) refl (run-of s z)
  where
    by : (t : Bool) → is_in s c ≡ t → Run s z → Run s (c ∷ z)
    by true e m =
        let n : 1 + run_len s z ≡ suc (length m.run) = omega (arith, m.len) in
        record { run = c ∷ m.run; rest = m.rest; whole = ap (λ y. c ∷ y) m.whole; all = both-and (is_in s c) (list_all (is_in s) m.run) e m.all; stops = m.stops; len = if-true (is_in s c) (1 + run_len s z) 0 e ∙ n }
    by false e m = record { run = []; rest = c ∷ z; whole = refl; all = refl; stops = e; len = if-false (is_in s c) (1 + run_len s z) 0 e }

pub run-at : (s : Set) (a r : List ℕ) → list_all (is_in s) a ≡ true → is_in s (slice_index r 0) ≡ false → run_len s (a ++ r) ≡ length a
run-at s [] [] all stops = refl
run-at s [] (c ∷ r) all stops = if-false (is_in s c) (1 + run_len s r) 0 stops
run-at s (c ∷ a) r all stops =
    let both = and-both (is_in s c) (list_all (is_in s) a) all in
    let more = run-at s a r both.1 stops in
    let n : 1 + run_len s (a ++ r) ≡ suc (length a) = omega arith in
    if-true (is_in s c) (1 + run_len s (a ++ r)) 0 both.0 ∙ n

pub at-front : (a r : List ℕ) → slice_index (a ++ r) (length a) ≡ slice_index r 0
at-front [] r = refl
at-front (c ∷ a) r = at-front a r

pub on-front : (a r : List ℕ) → slice_index (a ++ r) (length a + 1) ≡ slice_index r 1
on-front [] r = refl
on-front (c ∷ a) r = let e : suc (length a) + 1 ≡ suc (length a + 1) = omega arith in ap (slice_index (c ∷ (a ++ r))) e ∙ on-front a r

pub labelled-front : (a r : List ℕ) → is_labelled (a ++ r) (length a) ≡ (slice_index r 0 == 58 && not (slice_index r 1 == 58))
labelled-front a r =
    ap (λ n. n == 58 && not (slice_index (a ++ r) (length a + 1) == 58)) (at-front a r) ∙ ap (λ n. slice_index r 0 == 58 && not (n == 58)) (on-front a r)

pub named-len : (a r : List ℕ) → run_len set.Word (a ++ r) ≡ length a → identifier_len (a ++ r) ≡ (if (slice_index r 0 == 63 || slice_index r 0 == 33) && not (slice_index r 1 == 61) then length a + 1 else length a)
named-len a r e =
    let z = a ++ r in
    let P : ℕ → ℕ = λ end. if ((slice_index z end == 63 || slice_index z end == 33) && not (slice_index z (end + 1) == 61)) then end + 1 else end in
    let Q : ℕ → ℕ → ℕ = λ b c. if ((b == 63 || b == 33) && not (c == 61)) then length a + 1 else length a in
    ap P e ∙ ap (λ b. Q b (slice_index z (length a + 1))) (at-front a r) ∙ ap (Q (slice_index r 0)) (on-front a r)

-- ---- the identifier at the front

pub record Name (z : List ℕ) : Type 0 where
  pub name : List ℕ
  pub rest : List ℕ
  pub whole : name ++ rest ≡ z
  pub is : IsIdentifier name rest
  pub len : identifier_len z ≡ length name

begun : (test : ℕ → Bool) (a r z : List ℕ) → ((c : ℕ) → test c ≡ true → is_in set.Word c ≡ true) → a ++ r ≡ z → test (slice_index z 0) ≡ true → list_all (is_in set.Word) a ≡ true → is_in set.Word (slice_index r 0) ≡ false → IsNamed test a
begun test [] r z inside e h all stops =
    no-both (is_in set.Word (slice_index r 0)) (inside (slice_index r 0) (ap (λ y. test (slice_index y 0)) e ∙ h)) stops
begun test (c ∷ a) r z inside e h all stops = (ap (λ y. test (slice_index y 0)) e ∙ h, (and-both (is_in set.Word c) (list_all (is_in set.Word) a) all).1)

marked : (a r : List ℕ) → IsNamed begins_name a → identifier_len (a ++ r) ≡ length a + 1 → (slice_index r 0 == 63 || slice_index r 0 == 33) ≡ true → (slice_index r 1 == 61) ≡ false → Name (a ++ r)
marked a [] named len mark free = absurd (cc)
marked a (c ∷ r) named len mark free = by (or-either (c == 63) (c == 33) mark)
  where
    no61 : ¬ Begins 61 r
    no61 = not-begins 61 r (ap (λ d. d == 61) (tail-at (c ∷ r)) ∙ free)

    one : (k : ℕ) → length (a ++ k ∷ []) ≡ length a + 1
    one k = length-append a (k ∷ [])

    by : ((c == 63) ≡ true) ⊎ ((c == 33) ≡ true) → Name (a ++ c ∷ r)
    by (inl e) = subst (λ k. Name (a ++ k ∷ r)) (sym (eq-is c 63 e)) (record { name = a ++ 63 ∷ []; rest = r; whole = append_assoc a (63 ∷ []) r; is = Asking a r named no61; len = ap (λ k. identifier_len (a ++ k ∷ r)) (sym (eq-is c 63 e)) ∙ len ∙ sym (one 63) })
    by (inr e) = subst (λ k. Name (a ++ k ∷ r)) (sym (eq-is c 33 e)) (record { name = a ++ 33 ∷ []; rest = r; whole = append_assoc a (33 ∷ []) r; is = Shouting a r named no61; len = ap (λ k. identifier_len (a ++ k ∷ r)) (sym (eq-is c 33 e)) ∙ len ∙ sym (one 33) })

named-at : (a r : List ℕ) → IsNamed begins_name a → run_len set.Word (a ++ r) ≡ length a → Name (a ++ r)
named-at a r named e = by ((slice_index r 0 == 63 || slice_index r 0 == 33) && not (slice_index r 1 == 61)) refl
  where
    by : (t : Bool) → ((slice_index r 0 == 63 || slice_index r 0 == 33) && not (slice_index r 1 == 61)) ≡ t → Name (a ++ r)
    by true h =
        let both = and-both (slice_index r 0 == 63 || slice_index r 0 == 33) (not (slice_index r 1 == 61)) h in
        marked a r named (named-len a r e ∙ if-true ((slice_index r 0 == 63 || slice_index r 0 == 33) && not (slice_index r 1 == 61)) (length a + 1) (length a) h) both.0 (not-true (slice_index r 1 == 61) both.1)
    by false h = record { name = a; rest = r; whole = refl; is = Plain a r named; len = named-len a r e ∙ if-false ((slice_index r 0 == 63 || slice_index r 0 == 33) && not (slice_index r 1 == 61)) (length a + 1) (length a) h }

pub name-of : (z : List ℕ) → begins_name (slice_index z 0) ≡ true → Name z
name-of z h =
    let m = run-of set.Word z in
    subst Name m.whole (named-at m.run m.rest (begun begins_name m.run m.rest z lower-in m.whole h m.all m.stops) (ap (run_len set.Word) m.whole ∙ m.len))

-- the constant at the front
pub constant-of : (z : List ℕ) → is_upper (slice_index z 0) ≡ true → IsConstant ((run-of set.Word z).run)
constant-of z h = let m = run-of set.Word z in begun is_upper m.run m.rest z upper-in m.whole h m.all m.stops

-- the name after a `@`
pub word-of : (z : List ℕ) → begins_name (slice_index z 0) ≡ true → IsNamed begins_name ((run-of set.Word z).run)
word-of z h = let m = run-of set.Word z in begun begins_name m.run m.rest z lower-in m.whole h m.all m.stops

-- an identifier ends before a character that is none of one
pub name-ends : (w : List ℕ) (k : ℕ) (more : List ℕ) → is_in set.Word k ≡ false → (k == 63 || k == 33) ≡ false → IsIdentifier w (k ∷ more) → identifier_len (w ++ k ∷ more) ≡ length w
name-ends w k more out mark (Plain _ _ h) =
    named-len w (k ∷ more) (run-at set.Word w (k ∷ more) (named-all begins_name w lower-in h) out)
    ∙ ap (λ t. if t && not (slice_index (k ∷ more) 1 == 61) then length w + 1 else length w) mark
name-ends _ k more out mark (Asking w _ h free) =
    ap identifier_len (append_assoc w (63 ∷ []) (k ∷ more)) ∙ marked-len w 63 (k ∷ more) (named-all begins_name w lower-in h) refl refl free ∙ sym (length-append w (63 ∷ []))
name-ends _ k more out mark (Shouting w _ h free) =
    ap identifier_len (append_assoc w (33 ∷ []) (k ∷ more)) ∙ marked-len w 33 (k ∷ more) (named-all begins_name w lower-in h) refl refl free ∙ sym (length-append w (33 ∷ []))
