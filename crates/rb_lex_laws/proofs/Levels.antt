-- The level of a comment, from its parts.
use Rattle.std.proofs.Common.{◌≡◌, ℕ, suc, ◌+◌, true, false, not, ◌==◌, cond, if◌then◌else◌, List, [], ◌∷◌, ◌++◌, length, take, drop, Option, Some, None, refl, ap, ◌∙◌, codes, nat_eq, arith}
use Rattle.std.specs.List.{list_all, starts_with}
use Rattle.srb_terms.specs.declared.level.Level.{Level}
use Rattle.srb_terms.specs.declared.level.Level.TheVariants.{Ignore, False, True, Strict, Strong}
use Rattle.rb_lex.specs.Chars.{is_in, run_len}
use Rattle.rb_lex.specs.Levels.{level_named, after_blanks, word_len, level_alone, level_in}
use Rattle.rb_lex.specs.declared.chars.Set.TheVariants as set
use Rattle.rb_lex_laws.specs.Levels.{GivenLevelsAreFound}
use Rattle.rb_rules.specs.Levels.{word_of_level, AreBlank}
use Rattle.rb_lex_laws.proofs.Longest.{and-left, and-right, run-ends}

pub drop-front : (a z : List ℕ) → drop (length a) (a ++ z) ≡ z
drop-front [] z = refl
drop-front (c ∷ a) z = drop-front a z

take-front : (a z : List ℕ) → take (length a) (a ++ z) ≡ a
take-front [] z = refl
take-front (c ∷ a) z = ap (λ w. c ∷ w) (take-front a z)

-- after blanks stands what begins with none
past-blanks : (a : List ℕ) (c : ℕ) (z : List ℕ) → AreBlank a → is_in set.Blank c ≡ false → after_blanks (a ++ c ∷ z) ≡ c ∷ z
past-blanks a c z blank free = ap (λ n. drop n (a ++ c ∷ z)) (run-ends set.Blank a c z blank free) ∙ drop-front a (c ∷ z)

only-blanks : (a : List ℕ) → AreBlank a → after_blanks a ≡ []
only-blanks [] h = refl
only-blanks (c ∷ a) h =
    let here = and-left (is_in set.Blank c) (list_all (is_in set.Blank) a) h in
    ap (λ t. drop (cond t (1 + run_len set.Blank a) 0) (c ∷ a)) here ∙ (let e : 1 + run_len set.Blank a ≡ suc (run_len set.Blank a) = omega arith in ap (λ n. drop n (c ∷ a)) e) ∙ only-blanks a (and-right (is_in set.Blank c) (list_all (is_in set.Blank) a) h)

-- a word without blanks ends where blanks follow, or nothing
abbrev HasNoBlank : List ℕ → Type 0
HasNoBlank w = list_all (λ b. not (is_in set.Blank b)) w ≡ true

word-ends : (w a : List ℕ) → HasNoBlank w → AreBlank a → word_len (w ++ a) ≡ length w
word-ends [] [] h blank = refl
word-ends [] (c ∷ a) h blank =
    let here = and-left (is_in set.Blank c) (list_all (is_in set.Blank) a) blank in
    ap (λ t. cond (not t) (1 + word_len a) 0) here
word-ends (c ∷ w) a h blank =
    let here = and-left (not (is_in set.Blank c)) (list_all (λ b. not (is_in set.Blank b)) w) h in
    let more = word-ends w a (and-right (not (is_in set.Blank c)) (list_all (λ b. not (is_in set.Blank b)) w) h) blank in
    let e : 1 + word_len (w ++ a) ≡ suc (length w) = omega arith in
    ap (λ t. cond t (1 + word_len (w ++ a)) 0) here ∙ e

-- a text of blanks, a word without blanks, and blanks gives what the word names
alone : (between : List ℕ) (c : ℕ) (w after : List ℕ) → AreBlank between → HasNoBlank (c ∷ w) → is_in set.Blank c ≡ false → AreBlank after → level_alone (between ++ ((c ∷ w) ++ after)) ≡ level_named (c ∷ w)
alone between c w after b h free a =
    let word : after_blanks (between ++ ((c ∷ w) ++ after)) ≡ (c ∷ w) ++ after = past-blanks between c (w ++ after) b free in
    let P : List ℕ → ℕ → Option Level = λ z n. if length (after_blanks (drop n z)) == 0 then level_named (take n z) else None in
    ap (λ z. P z (word_len z)) word
    ∙ ap (P ((c ∷ w) ++ after)) (word-ends (c ∷ w) after h a)
    ∙ ap (λ z. if length (after_blanks z) == 0 then level_named (take (length (c ∷ w)) ((c ∷ w) ++ after)) else None) (drop-front (c ∷ w) after)
    ∙ ap (λ z. if length z == 0 then level_named (take (length (c ∷ w)) ((c ∷ w) ++ after)) else None) (only-blanks after a)
    ∙ ap level_named (take-front (c ∷ w) after)

named : (between : List ℕ) (level : Level) (after : List ℕ) → AreBlank between → AreBlank after → level_alone (between ++ (word_of_level level ++ after)) ≡ Some level
named between Ignore after b a = alone between 105 (codes "gnore") after b refl refl a
named between False after b a = alone between 102 (codes "alse") after b refl refl a
named between True after b a = alone between 116 (codes "rue") after b refl refl a
named between Strict after b a = alone between 115 (codes "trict") after b refl refl a
named between Strong after b a = alone between 115 (codes "trong") after b refl refl a

-- after `typed:`
typed : (z : List ℕ) → (if starts_with nat_eq (codes "typed:" ++ z) (codes "typed:") then level_alone (drop 6 (codes "typed:" ++ z)) else None) ≡ level_alone z
typed z = refl

in-parts : (before z : List ℕ) → AreBlank before → level_in (before ++ (codes "typed:" ++ z)) ≡ level_alone z
unfolding level_in
in-parts before z b =
    let P : List ℕ → Option Level = λ text. if starts_with nat_eq text (codes "typed:") then level_alone (drop 6 text) else None in
    ap P (past-blanks before 116 (codes "yped:" ++ z) b refl) ∙ typed z

pub given-found : GivenLevelsAreFound
given-found text level g =
    ap level_in g.whole
    ∙ in-parts g.before (g.between ++ (word_of_level level ++ g.after)) g.blank_before
    ∙ named g.between level g.after g.blank_between g.blank_after
