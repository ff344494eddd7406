-- The level of a text, both ways.
use Rattle.std.proofs.Common.{◌≡◌, ℕ, zero, suc, ◌+◌, ◌-◌, ◌<◌, ◌≤◌, ◌⊎◌, Bool, true, false, ◌==◌, ◌&&◌, ◌||◌, if◌then◌else◌, nat_le, nat_lt, nat_eq, List, [], ◌∷◌, ◌++◌, length, take, drop, Option, Some, None, inl, inr, refl, sym, ap, subst, ◌∙◌, length-append, codes, arith}
use Rattle.std.specs.Prelude.{slice_index, bytes_eq}
use Rattle.std.specs.List.{list_all, starts_with}
use Rattle.std.proofs.lemmas.Slice.Eq.{bytes_eq-Decides}
use Rattle.std.proofs.lemmas.Bool.Decides.{nat_tests}
use lib.Utf8.{encode}
use Rattle.srb_terms.specs.declared.level.Level.{Level}
use Rattle.srb_terms.specs.declared.level.Level.TheVariants.{Ignore, False, True, Strict, Strong}
use Rattle.rb_lex.specs.Chars.{is_in, blank_len, line_len}
use Rattle.rb_lex.specs.Levels.{level_named, after_blanks, word_len, level_alone, level_in, heading_of, heading_of_comment, level_from, level_of}
use Rattle.rb_lex.specs.declared.chars.Set.TheVariants as set
use Rattle.rb_lex.specs.declared.heading.Heading.{Heading}
use Rattle.rb_lex.specs.declared.heading.Heading.TheVariants.{Passed, Given, Other}
use Rattle.rb_rules.specs.Spellings.{Begins, Holds}
use Rattle.rb_rules.specs.Lexes.{IsBlank, EndsLine}
use Rattle.rb_lex_laws.specs.Levels.{LevelIsThatOfTheText}
use Rattle.rb_rules.specs.Levels.{word_of_level, AreBlank, Gives, IsLine, Asks}
use Rattle.rb_lex_laws.proofs.Lists.{head-same, tail-same, begins-parts, if-true, if-false, and-both, both-and, no-both, eq-is, is-eq, eq-not, not-eq, take-front, drop-front, parts, false-of, begins-is, is-begins, begins-not}
use Rattle.rb_lex_laws.proofs.Blanks.{blank_here, Blank, blank-of, blank-here, blank-some, starts-parts}
use Rattle.rb_lex_laws.proofs.Encoded.{enc-begins, enc, Thin, wide-encode, thin-append, enc-cons, enc-front, enc-append, enc-thin, enc-parts, enc-none, enc-some}
use Rattle.rb_lex_laws.proofs.Levels.{given-found}
use Rattle.rb_lex_laws.proofs.Rules.{blank-thin, blank-chars, blank-bytes, line-bytes}
use Rattle.rb_lex_laws.proofs.Runs.{run-of}
use Rattle.rb_lex_laws.proofs.Whole.{no-line}

-- ---- what a comment gives

blank-low : (c : ℕ) → is_in set.Blank c ≡ true → (c ≡ 32) ⊎ (c ≡ 9)
blank-low c h = by (c == 32) refl (c == 9) refl
  where
    by : (s : Bool) → (c == 32) ≡ s → (t : Bool) → (c == 9) ≡ t → (c ≡ 32) ⊎ (c ≡ 9)
    by true e t f = inl (eq-is c 32 e)
    by false e true f = inr (eq-is c 9 f)
    by false e false f = no-both (is_in set.Blank c) h (ap (λ t. t || c == 9) e ∙ f)

blanks-thin : (w : List ℕ) → AreBlank w → Thin w
blanks-thin [] h = refl
blanks-thin (c ∷ w) h =
    let both = and-both (is_in set.Blank c) (list_all (is_in set.Blank) w) h in
    both-and (nat_lt c 128) (list_all (λ d. nat_lt d 128) w) (low (blank-low c both.0)) (blanks-thin w both.1)
  where
    low : (c ≡ 32) ⊎ (c ≡ 9) → nat_lt c 128 ≡ true
    low (inl e) = ap (λ d. nat_lt d 128) e
    low (inr e) = ap (λ d. nat_lt d 128) e

word-thin : (level : Level) → Thin (word_of_level level)
word-thin Ignore = refl
word-thin False = refl
word-thin True = refl
word-thin Strict = refl
word-thin Strong = refl

gives-thin : (text : List ℕ) (level : Level) → Gives text level → Thin text
gives-thin text level g =
    subst Thin (sym g.whole)
    (thin-append g.before (codes "typed:" ++ (g.between ++ (word_of_level level ++ g.after))) (blanks-thin g.before g.blank_before)
    (thin-append (codes "typed:") (g.between ++ (word_of_level level ++ g.after)) refl
    (thin-append g.between (word_of_level level ++ g.after) (blanks-thin g.between g.blank_between)
    (thin-append (word_of_level level) g.after (word-thin level) (blanks-thin g.after g.blank_after)))))

-- over bytes a comment gives what it gives over characters
gives-bytes : (w : List ℕ) (level : Level) → Gives w level → Gives (enc w) level
gives-bytes w level g = subst (λ v. Gives v level) (sym (enc-thin w (gives-thin w level g))) g

no-rest : (w : List ℕ) → w ++ [] ≡ w
no-rest [] = refl
no-rest (c ∷ w) = ap (λ y. c ∷ y) (no-rest w)

gives-chars : (w : List ℕ) (level : Level) → Gives (enc w) level → Gives w level
gives-chars w level g =
    let p = enc-parts (enc w) w [] (gives-thin (enc w) level g) (sym (no-rest (enc w))) in
    let none : p.0 ≡ [] = enc-none p.0 (sym p.2) in
    let same : w ≡ enc w = p.1 ∙ ap (λ r. enc w ++ r) none ∙ no-rest (enc w) in
    subst (λ v. Gives v level) (sym same) g

named-is : (word : List ℕ) (level : Level) → level_named word ≡ Some level → word ≡ word_of_level level
named-is word level h = by (bytes_eq word (codes "ignore")) refl (bytes_eq word (codes "false")) refl (bytes_eq word (codes "true")) refl (bytes_eq word (codes "strict")) refl (bytes_eq word (codes "strong")) refl
  where
    got : Option Level → Level
    got (Some l) = l
    got None = False

    N : Bool → Bool → Bool → Bool → Bool → Option Level
    N a b c d e = if a then Some Ignore else (if b then Some False else (if c then Some True else (if d then Some Strict else (if e then Some Strong else None))))

    at : (a b c d e : Bool) → bytes_eq word (codes "ignore") ≡ a → bytes_eq word (codes "false") ≡ b → bytes_eq word (codes "true") ≡ c → bytes_eq word (codes "strict") ≡ d → bytes_eq word (codes "strong") ≡ e → Some level ≡ N a b c d e
    at a b c d e p q r s t =
        sym h ∙ ap (λ x. N x (bytes_eq word (codes "false")) (bytes_eq word (codes "true")) (bytes_eq word (codes "strict")) (bytes_eq word (codes "strong"))) p
        ∙ ap (λ x. N a x (bytes_eq word (codes "true")) (bytes_eq word (codes "strict")) (bytes_eq word (codes "strong"))) q
        ∙ ap (λ x. N a b x (bytes_eq word (codes "strict")) (bytes_eq word (codes "strong"))) r ∙ ap (λ x. N a b c x (bytes_eq word (codes "strong"))) s ∙ ap (N a b c d) t

    is : (l : Level) → Some level ≡ Some l → bytes_eq word (word_of_level l) ≡ true → word ≡ word_of_level level
    is l e t = (bytes_eq-Decides word (word_of_level l)).0 t ∙ ap word_of_level (sym (ap got e))

    by : (a : Bool) → bytes_eq word (codes "ignore") ≡ a → (b : Bool) → bytes_eq word (codes "false") ≡ b → (c : Bool) → bytes_eq word (codes "true") ≡ c → (d : Bool) → bytes_eq word (codes "strict") ≡ d → (e : Bool) → bytes_eq word (codes "strong") ≡ e → word ≡ word_of_level level
    by true p b q c r d s e t = is Ignore (at true b c d e p q r s t) p
    by false p true q c r d s e t = is False (at false true c d e p q r s t) q
    by false p false q true r d s e t = is True (at false false true d e p q r s t) r
    by false p false q false r true s e t = is Strict (at false false false true e p q r s t) s
    by false p false q false r false s true t = is Strong (at false false false false true p q r s t) t
    by false p false q false r false s false t = let f : Some level ≡ None = at false false false false false p q r s t in absurd (cc)

after-is : (z : List ℕ) → after_blanks z ≡ (run-of set.Blank z).rest
after-is z = let m = run-of set.Blank z in ap (λ n. drop n z) m.len ∙ ap (λ y. drop (length m.run) y) (sym m.whole) ∙ drop-front m.run m.rest

none-left : (z : List ℕ) → (length (after_blanks z) == 0) ≡ true → AreBlank z
none-left z h =
    let m = run-of set.Blank z in
    let size : length m.rest ≡ 0 = ap length (sym (after-is z)) ∙ eq-is (length (after_blanks z)) 0 h in
    let whole : m.run ≡ z = sym (no-rest m.run) ∙ ap (λ r. m.run ++ r) (sym (empty m.rest size)) ∙ m.whole in
    subst AreBlank whole m.all
  where
    empty : (r : List ℕ) → length r ≡ 0 → r ≡ []
    empty [] e = refl
    empty (c ∷ r) e = absurd (omega arith)

alone-gives : (t : List ℕ) (level : Level) → level_alone t ≡ Some level → (between : List ℕ) × (after : List ℕ) × (t ≡ between ++ (word_of_level level ++ after)) × AreBlank between × AreBlank after
alone-gives t level h = by (length (after_blanks (drop (word_len (after_blanks t)) (after_blanks t))) == 0) refl
  where
    by : (s : Bool) → (length (after_blanks (drop (word_len (after_blanks t)) (after_blanks t))) == 0) ≡ s → (between : List ℕ) × (after : List ℕ) × (t ≡ between ++ (word_of_level level ++ after)) × AreBlank between × AreBlank after
    by true e =
        let m = run-of set.Blank t in
        let n = word_len (after_blanks t) in
        let named : level_named (take n (after_blanks t)) ≡ Some level = sym (if-true (length (after_blanks (drop n (after_blanks t))) == 0) (level_named (take n (after_blanks t))) None e) ∙ h in (
          m.run,
          drop n (after_blanks t),
          sym m.whole ∙ ap (λ y. m.run ++ y) (sym (after-is t) ∙ sym (parts n (after_blanks t)) ∙ ap (λ v. v ++ drop n (after_blanks t)) (named-is (take n (after_blanks t)) level named)),
          m.all,
          none-left (drop n (after_blanks t)) e,
        )
    by false e =
        let f : None ≡ Some level = sym (if-false (length (after_blanks (drop (word_len (after_blanks t)) (after_blanks t))) == 0) (level_named (take (word_len (after_blanks t)) (after_blanks t))) None e) ∙ h in absurd (cc)

found-gives : (text : List ℕ) (level : Level) → level_in text ≡ Some level → Gives text level
unfolding level_in
found-gives text level h = by (starts_with nat_eq (after_blanks text) (codes "typed:")) refl
  where
    by : (s : Bool) → starts_with nat_eq (after_blanks text) (codes "typed:") ≡ s → Gives text level
    by true e =
        let m = run-of set.Blank text in
        let alone : level_alone (drop 6 (after_blanks text)) ≡ Some level = sym (if-true (starts_with nat_eq (after_blanks text) (codes "typed:")) (level_alone (drop 6 (after_blanks text))) None e) ∙ h in
        let p = alone-gives (drop 6 (after_blanks text)) level alone in
        record {
          before = m.run;
          between = p.0;
          after = p.1;
          whole = sym m.whole ∙ ap (λ y. m.run ++ y) (sym (after-is text) ∙ sym (starts-parts (after_blanks text) (codes "typed:") e) ∙ ap (λ y. codes "typed:" ++ y) p.2);
          blank_before = m.all;
          blank_between = p.3;
          blank_after = p.4;
        }
    by false e = let f : None ≡ Some level = sym (if-false (starts_with nat_eq (after_blanks text) (codes "typed:")) (level_alone (drop 6 (after_blanks text))) None e) ∙ h in absurd (cc)

-- ---- lines of bytes

-- what a front ends by, over bytes
last-part : (a b u : List ℕ) (k : ℕ) → a ++ b ≡ u ++ k ∷ [] → (b ≡ [] → ⊥) → (v : List ℕ) × (b ≡ v ++ k ∷ [])
last-part [] b u k e some = (u, e)
last-part (x ∷ a) b [] k e some = absurd (some (none a b (tail-same x k (a ++ b) [] e)))
  where
    none : (a b : List ℕ) → a ++ b ≡ [] → b ≡ []
    none [] b e = e
    none (x ∷ a) b e = absurd (cc)
last-part (x ∷ a) b (y ∷ u) k e some = last-part a b u k (tail-same x y (a ++ b) (u ++ k ∷ []) e) some

last-high : (v u : List ℕ) (k : ℕ) → list_all (λ b. nat_le 128 b) v ≡ true → v ≡ u ++ k ∷ [] → nat_le 128 k ≡ true
last-high [] [] k a e = absurd (cc)
last-high [] (y ∷ u) k a e = absurd (cc)
last-high (x ∷ v) [] k a e = let both = and-both (nat_le 128 x) (list_all (λ b. nat_le 128 b) v) a in ap (nat_le 128) (sym (head-same x k v [] e)) ∙ both.0
last-high (x ∷ v) (y ∷ u) k a e = let both = and-both (nat_le 128 x) (list_all (λ b. nat_le 128 b) v) a in last-high v u k both.1 (tail-same x y v (u ++ k ∷ []) e)

last-return : (w u : List ℕ) → enc w ≡ u ++ 13 ∷ [] → (v : List ℕ) × (w ≡ v ++ 13 ∷ [])
last-return [] [] e = absurd (cc)
last-return [] (y ∷ u) e = absurd (cc)
last-return (c ∷ []) u e = by (wide-or c)
  where
    wide-or : (c : ℕ) → (c < 128) ⊎ (128 ≤ c)
    wide-or c = grind arith

    by : (c < 128) ⊎ (128 ≤ c) → (v : List ℕ) × (c ∷ [] ≡ v ++ 13 ∷ [])
    by (inl low) = one u (sym (enc-cons c [] low) ∙ e)
      where
        one : (u : List ℕ) → c ∷ [] ≡ u ++ 13 ∷ [] → (v : List ℕ) × (c ∷ [] ≡ v ++ 13 ∷ [])
        one u e = (u, e)
    by (inr high) =
        let w = wide-encode c high in
        let h = last-high (w.first ∷ w.others) u 13 (both-and (nat_le 128 w.first) (list_all (λ b. nat_le 128 b) w.others) (high-test w.first w.high) w.all_high) (sym (no-rest (w.first ∷ w.others)) ∙ ap (λ v. v ++ []) (sym w.is) ∙ e) in
        absurd (cc)
      where
        high-test : (b : ℕ) → 128 ≤ b → nat_le 128 b ≡ true
        high-test b h = grind (arith, nat_tests)
last-return (c ∷ d ∷ w) u e =
    let some = enc-some d w in
    let p = last-part (encode c) (enc (d ∷ w)) u 13 e (λ n. other some.0 some.1 (sym some.2 ∙ n)) in
    let more = last-return (d ∷ w) p.0 p.1 in
    (c ∷ more.0, ap (λ y. c ∷ y) more.1)
  where
    other : (b : ℕ) (y : List ℕ) → b ∷ y ≡ [] → ⊥
    other b y e = absurd (cc)

line-ends : (q : List ℕ) → EndsLine q → line_len q ≡ 0
line-ends _ EndsLine.AtEnd = refl
line-ends _ (EndsLine.AtLine rest) = refl
line-ends _ (EndsLine.AtReturn rest) = refl

line-at : (v q : List ℕ) → (Holds 10 v → ⊥) → EndsLine q → ((u : List ℕ) → v ≡ u ++ 13 ∷ [] → Begins 10 q → ⊥) → line_len (v ++ q) ≡ length v
line-at [] q plain ends whole = line-ends q ends
line-at (b ∷ v) q plain ends whole =
    let more = line-at v q (λ h. plain (inr h)) ends (λ u e. whole (b ∷ u) (ap (λ y. b ∷ y) e)) in
    let n : 1 + line_len (v ++ q) ≡ suc (length v) = omega arith in
    if-false (b == 10 || (b == 13 && slice_index (v ++ q) 0 == 10)) 0 (1 + line_len (v ++ q)) (ap (λ t. t || (b == 13 && slice_index (v ++ q) 0 == 10)) (not-eq b 10 (λ e. plain (inl (sym e)))) ∙ stays) ∙ n
  where
    stays : (b == 13 && slice_index (v ++ q) 0 == 10) ≡ false
    stays = false-of (b == 13 && slice_index (v ++ q) 0 == 10) (λ t. let both = and-both (b == 13) (slice_index (v ++ q) 0 == 10) t in carriage v (eq-is b 13 both.0) (begins-is 10 (v ++ q) (omega arith) both.1) (λ h. plain (inr h)) (λ u e. whole u e))
      where
        carriage : (v : List ℕ) → b ≡ 13 → Begins 10 (v ++ q) → (Holds 10 v → ⊥) → ((u : List ℕ) → b ∷ v ≡ u ++ 13 ∷ [] → Begins 10 q → ⊥) → ⊥
        carriage [] is h free whole = whole [] (ap (λ c. c ∷ []) is) h
        carriage (d ∷ v) is h free whole = free (inl (sym h))

-- ---- the levels of texts that go on

abbrev level_by : List ℕ → Heading → Level
level_by z h = elim h [ Passed len ↦ level_from (len - 1) z | Given level ↦ level | Other ↦ False ]

skips : (a r : List ℕ) → level_from (length a) (a ++ r) ≡ level_from 0 r
skips [] r = refl
skips (c ∷ a) r = skips a r

passes : (w r : List ℕ) → 0 < length w → heading_of (w ++ r) ≡ Passed (length w) → level_from 0 (w ++ r) ≡ level_from 0 r
passes [] r some e = absurd (omega arith)
passes (b ∷ w) r some e =
    let n : suc (length w) - 1 ≡ length w = omega arith in
    ap (level_by (w ++ r)) e ∙ ap (λ k. level_from k (w ++ r)) n ∙ skips w r

blank-heading : (w r : List ℕ) → IsBlank w r → heading_of (w ++ r) ≡ Passed (length w)
unfolding heading_of
blank-heading _ _ (IsBlank.Space rest) = refl
blank-heading _ _ (IsBlank.Tab rest) = refl
blank-heading _ _ (IsBlank.Return rest) = refl
blank-heading _ _ (IsBlank.Joint rest) = refl
blank-heading _ _ (IsBlank.ReturnJoint rest) = refl

line-heading : (r : List ℕ) → heading_of (10 ∷ r) ≡ Passed 1
unfolding heading_of
line-heading r = refl

comment-heading : (v q : List ℕ) → line_len (v ++ q) ≡ length v → heading_of (35 ∷ (v ++ q)) ≡ (elim (level_in v) [ Some level ↦ Given level | None ↦ Passed (length v + 1) ])
unfolding heading_of
comment-heading v q len =
    ap (λ n. elim (level_in (take n (v ++ q))) [ Some level ↦ Given level | None ↦ Passed (n + 1) ]) len
    ∙ ap (λ w. elim (level_in w) [ Some level ↦ Given level | None ↦ Passed (length v + 1) ]) (take-front v q)

other-heading : (z : List ℕ) → (slice_index z 0 == 35) ≡ false → (slice_index z 0 == 10) ≡ false → blank_here z ≡ false → heading_of z ≡ Other
unfolding heading_of
other-heading z h l b =
    if-false (slice_index z 0 == 35) (heading_of_comment z) _ h ∙ if-false (slice_index z 0 == 10) (Passed 1) _ l ∙ if-false (blank_here z) (Passed (blank_len z)) Other b

-- the line of bytes of a comment
bytes-line : (w rest : List ℕ) → IsLine w rest → line_len (enc w ++ enc rest) ≡ length (enc w)
bytes-line w rest l =
    line-at (enc w) (enc rest) (no-line w l.plain) (line-bytes rest l.ended) (λ u e b. let p = last-return w u e in l.whole p.0 p.1 (enc-begins 10 rest (omega arith) b))

comment-front : (w rest : List ℕ) → enc (35 ∷ w ++ rest) ≡ 35 ∷ (enc w ++ enc rest)
comment-front w rest = enc-cons 35 (w ++ rest) (omega arith) ∙ ap (λ y. 35 ∷ y) (enc-append w rest)

level-asked : (text : List ℕ) (level : Level) → Asks text level → level_from 0 (enc text) ≡ level
level-asked _ _ (Asks.PastBlank w rest level b more) =
    ap (level_from 0) (enc-front w rest (blank-thin w rest b)) ∙ passes w (enc rest) (blank-some w rest b) (blank-heading w (enc rest) (blank-bytes w rest b)) ∙ level-asked rest level more
level-asked _ _ (Asks.PastLine rest level more) =
    ap (level_from 0) (enc-cons 10 rest (omega arith)) ∙ passes (10 ∷ []) (enc rest) (omega arith) (line-heading (enc rest)) ∙ level-asked rest level more
level-asked _ _ (Asks.PastComment w rest level l none more) =
    let n : length (enc w) + 1 ≡ suc (length (enc w)) = omega arith in
    ap (level_from 0) (comment-front w rest)
    ∙ passes (35 ∷ enc w) (enc rest) (omega arith)
    (comment-heading (enc w) (enc rest) (bytes-line w rest l) ∙ ap (λ (x : Option Level). elim x [ Some level ↦ Given level | None ↦ Passed (length (enc w) + 1) ]) (nothing (level_in (enc w)) refl) ∙ ap Passed n)
    ∙ level-asked rest level more
  where
    nothing : (x : Option Level) → level_in (enc w) ≡ x → level_in (enc w) ≡ None
    nothing None e = e
    nothing (Some other) e = absurd (none other (gives-chars w other (found-gives (enc w) other e)))
level-asked _ _ (Asks.Given w rest level l g) =
    ap (level_from 0) (comment-front w rest)
    ∙ ap (level_by (enc w ++ enc rest)) (comment-heading (enc w) (enc rest) (bytes-line w rest l) ∙ ap (λ (x : Option Level). elim x [ Some level ↦ Given level | None ↦ Passed (length (enc w) + 1) ]) (given-found (enc w) level (gives-bytes w level g)))
level-asked z _ (Asks.Otherwise _ blanks line comment) = by (enc z) refl
  where
    by : (y : List ℕ) → enc z ≡ y → level_from 0 (enc z) ≡ False
    by [] e = ap (level_from 0) e
    by (b ∷ y) e =
        let first : slice_index (enc z) 0 ≡ b = ap (λ v. slice_index v 0) e in
        ap (level_from 0) e
        ∙ ap (level_by y) (ap heading_of (sym e) ∙ other-heading (enc z)
        (begins-not 35 (enc z) (omega arith) (λ h. comment (enc-begins 35 z (omega arith) h))) (begins-not 10 (enc z) (omega arith) (λ h. line (enc-begins 10 z (omega arith) h))) (false-of (blank_here (enc z)) (λ t. none (blank-of (enc z) t))))
      where
        none : Blank (enc z) → ⊥
        none m = let p = enc-parts m.blank z m.rest (blank-thin m.blank m.rest m.is) (sym m.whole) in blanks m.blank p.0 (sym p.1) (blank-chars m.blank p.0 m.rest m.is p.2)

-- ---- each text asks for a level

record Line (z : List ℕ) : Type 0 where
  pub line : List ℕ
  pub rest : List ℕ
  pub whole : line ++ rest ≡ z
  pub is : IsLine line rest

line-of : (z : List ℕ) → Line z
line-of [] = record { line = []; rest = []; whole = refl; is = record { plain = λ h. h; ended = EndsLine.AtEnd; whole = λ v e b. b } }
line-of (c ∷ z) = by (c == 10) refl (c == 13 && slice_index z 0 == 10) refl (line-of z)
  where
    stop : EndsLine (c ∷ z) → Line (c ∷ z)
    stop e = record { line = []; rest = c ∷ z; whole = refl; is = record { plain = λ h. h; ended = e; whole = λ v f b. empty v f } }
      where
        empty : (v : List ℕ) → [] ≡ v ++ 13 ∷ [] → ⊥
        empty [] f = absurd (cc)
        empty (x ∷ v) f = absurd (cc)

    by : (s : Bool) → (c == 10) ≡ s → (t : Bool) → (c == 13 && slice_index z 0 == 10) ≡ t → Line z → Line (c ∷ z)
    by true e t f m = stop (subst (λ d. EndsLine (d ∷ z)) (sym (eq-is c 10 e)) (EndsLine.AtLine z))
    by false e true f m =
        let both = and-both (c == 13) (slice_index z 0 == 10) f in
        stop (subst (λ d. EndsLine (d ∷ z)) (sym (eq-is c 13 both.0)) (subst (λ y. EndsLine (13 ∷ y)) (sym (begins-parts 10 z (begins-is 10 z (omega arith) both.1))) (EndsLine.AtReturn (drop 1 z))))
    by false e false f m =
        record { line = c ∷ m.line; rest = m.rest; whole = ap (λ y. c ∷ y) m.whole; is = record { plain = λ h. plain m h; ended = m.is.ended; whole = λ v g b. whole m v g b } }
      where
        plain : (m : Line z) → Holds 10 (c ∷ m.line) → ⊥
        plain m (inl h) = eq-not c 10 e (sym h)
        plain m (inr h) = m.is.plain h

        single : (m : Line z) → c ∷ m.line ≡ 13 ∷ [] → Begins 10 m.rest → ⊥
        single m g b =
            let c_is : c ≡ 13 = head-same c 13 m.line [] g in
            let none : m.line ≡ [] = tail-same c 13 m.line [] g in
            let next : Begins 10 z = subst (Begins 10) (ap (λ l. l ++ m.rest) (sym none) ∙ m.whole) b in
            no-both (c == 13 && slice_index z 0 == 10) (both-and (c == 13) (slice_index z 0 == 10) (is-eq c 13 c_is) (is-begins 10 z next)) f

        whole : (m : Line z) (v : List ℕ) → c ∷ m.line ≡ v ++ 13 ∷ [] → Begins 10 m.rest → ⊥
        whole m [] g b = single m g b
        whole m (x ∷ v) g b = m.is.whole v (tail-same c x m.line (v ++ 13 ∷ []) g) b

abbrev Asked : List ℕ → Type 0
Asked z = (level : Level) × Asks z level

-- past a comment, or by it
given-or : (w rest : List ℕ) → IsLine w rest → Asked rest → (x : Option Level) → level_in (enc w) ≡ x → Asked (35 ∷ w ++ rest)
given-or w rest l more (Some level) e = (level, Asks.Given w rest level l (gives-chars w level (found-gives (enc w) level e)))
given-or w rest l more None e =
    (more.0, Asks.PastComment w rest more.0 l (λ other g. none (given-found (enc w) other (gives-bytes w other g))) more.1)
  where
    none : {other : Level} → level_in (enc w) ≡ Some other → ⊥
    none f = absurd (cc)

asked : (n : ℕ) (z : List ℕ) → length z < n → Asked z
asked zero z short = absurd (omega arith)
asked (suc n) z short = by (blank_here z) refl (slice_index z 0 == 10) refl (slice_index z 0 == 35) refl (asked n)
  where
    by : (t : Bool) → blank_here z ≡ t → (l : Bool) → (slice_index z 0 == 10) ≡ l → (h : Bool) → (slice_index z 0 == 35) ≡ h → ((y : List ℕ) → length y < n → Asked y) → Asked z
    by true e l f h g more =
        let b = blank-of z e in
        let less : length b.rest < n = omega (arith, ap length b.whole, length-append b.blank b.rest, blank-some b.blank b.rest b.is) in
        let m = more b.rest less in
        subst Asked b.whole (m.0, Asks.PastBlank b.blank b.rest m.0 b.is m.1)
    by false e true f h g more =
        let front : z ≡ 10 ∷ drop 1 z = begins-parts 10 z (begins-is 10 z (omega arith) f) in
        let less : length (drop 1 z) < n = omega (arith, ap length front) in
        let m = more (drop 1 z) less in
        subst Asked (sym front) (m.0, Asks.PastLine (drop 1 z) m.0 m.1)
    by false e false f true g more =
        let first : z ≡ 35 ∷ drop 1 z = begins-parts 35 z (begins-is 35 z (omega arith) g) in
        let l = line-of (drop 1 z) in
        let front : z ≡ 35 ∷ l.line ++ l.rest = first ∙ ap (λ y. 35 ∷ y) (sym l.whole) in
        let less : length l.rest < n = omega (arith, ap length front, length-append l.line l.rest) in
        subst Asked (sym front) (given-or l.line l.rest l.is (more l.rest less) (level_in (enc l.line)) refl)
    by false e false f false g more =
        (False, Asks.Otherwise z (λ w rest k b. no-both (blank_here z) (ap blank_here (sym k) ∙ blank-here w rest b) e) (λ b. no-both (slice_index z 0 == 10) (is-begins 10 z b) f) (λ b. no-both (slice_index z 0 == 35) (is-begins 35 z b) g))

pub level-told : LevelIsThatOfTheText
unfolding level_of
level-told text level =
    (λ e. (let a = asked (suc (length text)) text (omega arith) in subst (Asks text) (sym (level-asked text a.0 a.1) ∙ e) a.1), λ a. level-asked text level a)
