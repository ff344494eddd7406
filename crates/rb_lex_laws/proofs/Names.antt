-- Identifiers, constants, keywords and labels.
use Rattle.std.proofs.Common.{◌≡◌, ℕ, ◌+◌, ◌-◌, ◌<◌, ◌≤◌, ◌⊎◌, Bool, true, false, not, ◌==◌, if◌then◌else◌, List, [], ◌∷◌, ◌++◌, length, take, drop, inl, inr, refl, sym, ap, subst, ◌∙◌, append_assoc, length-append, arith}
use Rattle.std.specs.Prelude.{slice_index}
use Rattle.std.specs.List.{list_all}
use Rattle.rb_tree.specs.Tokens.{same_shape}
use Rattle.rb_tree.specs.declared.token.Shape.{Shape}
use Rattle.rb_tree.specs.declared.token.Shape.TheVariants as shape
use Rattle.rb_lex.specs.Chars.{is_in, run_len, begins_name, is_upper}
use Rattle.rb_lex.specs.Words.{word_of, identifier_len, is_labelled}
use Rattle.rb_lex.specs.Cuts.{is_after_dot, token, keyword, label, name, constant}
use Rattle.rb_lex.specs.Lexed.{words_of, kind_of}
use Rattle.rb_lex.specs.declared.chars.Set.TheVariants as set
use Rattle.rb_lex.specs.declared.cut.Before.TheVariants as before
use Rattle.rb_lex.specs.declared.cut.Look.{Look}
use Rattle.rb_lex.specs.declared.cut.Cut.{Cut}
use Rattle.rb_lex.specs.declared.cut.Cut.TheVariants as cuts
use Rattle.rb_lex.specs.declared.word.Word.{Word}
use Rattle.rb_lex.specs.declared.word.Word.TheVariants as word
use Rattle.rb_rules.specs.Spellings.{Begins, Holds, IsIdentifier, IsConstant, KEYWORDS, FOREIGN_OPERATORS}
use Rattle.rb_rules.specs.Before.{IsAfterDot}
use Rattle.rb_rules.specs.Lexes.{IsWord, Spells, IsWholeName, IsForeign}
use Rattle.rb_lex_laws.proofs.Best.{Best, IsSame, below-or, no-foreign, keyword-begins, free-word, one-keyword}
use Rattle.rb_lex_laws.proofs.Lists.{split, both-and, and-both, not-of, not-true, no-both, is-begins, begins-is, begins-not, begins-parts, front-same, take-front, tail-at, on-begins, begins-on}
use Rattle.rb_lex_laws.proofs.Listed.{keywords-listed, foreign-listed}
use Rattle.rb_lex_laws.proofs.Longest.{identifiers-longest, constants-longest, named-all, upper-in}
use Rattle.rb_lex_laws.proofs.Past.{before_of, dot-asked}
use Rattle.rb_lex_laws.proofs.Runs.{run-at, labelled-front, name-ends, name-of, run-of, constant-of}
use Rattle.rb_lex_laws.proofs.Shown.{Shown, Says, quiet-passes, keyword-says, keywords-quiet, keywords-mute}
use Rattle.rb_lex_laws.proofs.Sorts.{Kind, First, NameLike, ConstantLike, identifier-first, constant-first, of-kind, first-of}

-- ---- labels

-- a label's `:` follows the name
label-front : (v more : List ℕ) → ¬ Begins 58 more → is_labelled (v ++ 58 ∷ more) (length v) ≡ true
label-front v more free = labelled-front v (58 ∷ more) ∙ ap not (ap (λ c. c == 58) (tail-at (58 ∷ more)) ∙ begins-not 58 more (omega arith) free)

-- where no label stands, no name that is as long is one
no-label : {X : Type 0} (y v more : List ℕ) (n : ℕ) → (v ++ 58 ∷ []) ++ more ≡ y → length v ≡ n → ¬ Begins 58 more → is_labelled y n ≡ false → X
no-label y v more n e len free no_label =
    let whole : v ++ 58 ∷ more ≡ y = sym (append_assoc v (58 ∷ []) more) ∙ e in
    no-both (is_labelled y n) (ap (λ k. is_labelled y k) (sym len) ∙ ap (λ z. is_labelled z (length v)) (sym whole) ∙ label-front v more free) no_label

label-whole : (w rest : List ℕ) → Begins 58 rest → (w ++ 58 ∷ []) ++ drop 1 rest ≡ w ++ rest
label-whole w rest h = append_assoc w (58 ∷ []) (drop 1 rest) ∙ ap (λ z. w ++ z) (sym (begins-parts 58 rest h))

label-words : (w rest : List ℕ) → kind_of shape.Label (words_of shape.Label (length w + 1) (w ++ rest)) ≡ kind_of shape.Label w
unfolding same_shape
label-words w rest = let n : length w + 1 - 1 ≡ length w = omega arith in ap (kind_of shape.Label) (ap (λ k. take k (w ++ rest)) n ∙ take-front w rest)

label-says : (past : List Shape) (n : ℕ) → Says past shape.Label (record { shape = shape.Label; len = n; before = before.Plain; keeps = false })
unfolding same_shape
label-says past n = record { before_is = refl; keeps_is = λ bars. refl }

-- a label of a name
labelled : (w rest : List ℕ) → is_labelled (w ++ rest) (length w) ≡ true → Begins 58 rest × ¬ Begins 58 (drop 1 rest)
labelled w rest h =
    let both = and-both (slice_index rest 0 == 58) (not (slice_index rest 1 == 58)) (sym (labelled-front w rest) ∙ h) in
    (begins-is 58 rest (omega arith) both.0, λ on. no-both (slice_index rest 1 == 58) (on-begins 58 rest on) (not-true (slice_index rest 1 == 58) both.1))

pub unlabelled : (w rest : List ℕ) → is_labelled (w ++ rest) (length w) ≡ false → Begins 58 rest → Begins 58 (drop 1 rest)
unlabelled w rest h here = by (slice_index rest 1 == 58) refl
  where
    by : (t : Bool) → (slice_index rest 1 == 58) ≡ t → Begins 58 (drop 1 rest)
    by true e = begins-on 58 rest (omega arith) e
    by false e =
        no-both (is_labelled (w ++ rest) (length w)) (labelled-front w rest ∙ both-and (slice_index rest 0 == 58) (not (slice_index rest 1 == 58)) (is-begins 58 rest here) (not-of (slice_index rest 1 == 58) e)) h

-- ---- names

module _ (past : List Shape) (w rest : List ℕ) (id : IsIdentifier w rest) (len : identifier_len (w ++ rest) ≡ length w) where
  at-most : (v more : List ℕ) → v ++ more ≡ w ++ rest → IsIdentifier v more → length v ≤ length w
  at-most v more e h = let most = identifiers-longest v more h in let same = ap identifier_len e in omega arith

  label-len : (v more : List ℕ) → (v ++ 58 ∷ []) ++ more ≡ w ++ rest → IsIdentifier v (58 ∷ more) → length v ≡ length w
  label-len v more e h =
      sym (name-ends v 58 more refl refl h) ∙ ap identifier_len (sym (append_assoc v (58 ∷ []) more) ∙ e) ∙ len

  like : (t : Shape) (v os more : List ℕ) → v ++ more ≡ w ++ rest → Spells past t v os more → NameLike past t v os more
  like t v os more e h =
      let f = identifier-first w rest id in
      of-kind past t v os more f.first (f.others ++ rest) Kind.Name h (e ∙ ap (λ z. z ++ rest) f.whole) f.kind_is

  name-own : (n : ℕ) (v more : List ℕ) → v ++ more ≡ w ++ rest → Holds v FOREIGN_OPERATORS → length v < n
  name-own n v more e h =
      let f = identifier-first w rest id in
      no-foreign v more f.first (f.others ++ rest) Kind.Name h (e ∙ ap (λ z. z ++ rest) f.whole) f.kind_is (λ k. absurd (cc))

  identifier-others : (IsAfterDot past ⊎ ¬ IsWord w) → is_labelled (w ++ rest) (length w) ≡ false → (t : Shape) (v os more : List ℕ) → v ++ more ≡ w ++ rest → NameLike past t v os more → (length v < length w) ⊎ IsSame shape.Identifier w w t v os
  identifier-others free no_label _ _ _ more e (NameLike.Identifier v _ h f) = by (below-or (length v) (length w) (at-most v more e h))
    where
      by : (length v < length w) ⊎ (length v ≡ length w) → (length v < length w) ⊎ IsSame shape.Identifier w w shape.Identifier v v
      by (inl l) = inl l
      by (inr l) = let same = front-same v more w rest e l in inr (refl, same, same)
  identifier-others free no_label _ _ _ more e (NameLike.Keyword s v _ h row dot) = by (below-or (length v) (length w) (at-most v more e h))
    where
      by : (length v < length w) ⊎ (length v ≡ length w) → (length v < length w) ⊎ IsSame shape.Identifier w w s v []
      by (inl l) = inl l
      by (inr l) = no free
        where
          same : v ≡ w
          same = front-same v more w rest e l

          no : (IsAfterDot past ⊎ ¬ IsWord w) → (length v < length w) ⊎ IsSame shape.Identifier w w s v []
          no (inl d) = absurd (dot d)
          no (inr f) = absurd (f (inl (s, subst (λ z. Holds (s, z) KEYWORDS) same row)))
  identifier-others free no_label _ _ _ more e (NameLike.Label v _ h f) = no-label (w ++ rest) v more (length w) e (label-len v more e h) f no_label

  best-identifier : (IsAfterDot past ⊎ ¬ IsWord w) → is_labelled (w ++ rest) (length w) ≡ false → Best past (w ++ rest) shape.Identifier w w rest
  best-identifier free no_label =
      record { whole = refl; spells = Spells.Identifier w rest id free; others = λ t v os more e h. identifier-others free no_label t v os more e (like t v os more e h); own = name-own (length w) }

  keyword-others : (s : Shape) → Holds (s, w) KEYWORDS → ¬ IsAfterDot past → is_labelled (w ++ rest) (length w) ≡ false → (t : Shape) (v os more : List ℕ) → v ++ more ≡ w ++ rest → NameLike past t v os more → (length v < length w) ⊎ IsSame s w [] t v os
  keyword-others s row dot no_label _ _ _ more e (NameLike.Identifier v _ h f) = by (below-or (length v) (length w) (at-most v more e h)) f
    where
      by : (length v < length w) ⊎ (length v ≡ length w) → (IsAfterDot past ⊎ ¬ IsWord v) → (length v < length w) ⊎ IsSame s w [] shape.Identifier v v
      by (inl l) f = inl l
      by (inr l) (inl d) = absurd (dot d)
      by (inr l) (inr f) = absurd (f (inl (s, subst (λ z. Holds (s, z) KEYWORDS) (sym (front-same v more w rest e l)) row)))
  keyword-others s row dot no_label _ _ _ more e (NameLike.Keyword t v _ h other d) = by (below-or (length v) (length w) (at-most v more e h))
    where
      by : (length v < length w) ⊎ (length v ≡ length w) → (length v < length w) ⊎ IsSame s w [] t v []
      by (inl l) = inl l
      by (inr l) = let same = front-same v more w rest e l in inr (one-keyword t s w (subst (λ z. Holds (t, z) KEYWORDS) same other) row, same, refl)
  keyword-others s row dot no_label _ _ _ more e (NameLike.Label v _ h f) = no-label (w ++ rest) v more (length w) e (label-len v more e h) f no_label

  best-keyword : (s : Shape) → Holds (s, w) KEYWORDS → ¬ IsAfterDot past → is_labelled (w ++ rest) (length w) ≡ false → Best past (w ++ rest) s w [] rest
  best-keyword s row dot no_label =
      record { whole = refl; spells = Spells.Keyword s w rest id row dot; others = λ t v os more e h. keyword-others s row dot no_label t v os more e (like t v os more e h); own = name-own (length w) }

  label-others : (t : Shape) (v os more : List ℕ) → v ++ more ≡ w ++ rest → NameLike past t v os more → (length v < length (w ++ 58 ∷ [])) ⊎ IsSame shape.Label (w ++ 58 ∷ []) w t v os
  label-others _ _ _ more e (NameLike.Identifier v _ h f) = let most = at-most v more e h in let one = length-append w (58 ∷ []) in inl (omega arith)
  label-others _ _ _ more e (NameLike.Keyword s v _ h row dot) = let most = at-most v more e h in let one = length-append w (58 ∷ []) in inl (omega arith)
  label-others _ _ _ more e (NameLike.Label v _ h f) =
      let same : v ≡ w = front-same v (58 ∷ more) w rest (sym (append_assoc v (58 ∷ []) more) ∙ e) (label-len v more e h) in
      inr (refl, ap (λ z. z ++ 58 ∷ []) same, same)

  best-label : Begins 58 rest → ¬ Begins 58 (drop 1 rest) → Best past (w ++ rest) shape.Label (w ++ 58 ∷ []) w (drop 1 rest)
  best-label here free =
      record {
        whole = label-whole w rest here;
        spells = Spells.Label w (drop 1 rest) (inl (subst (λ z. IsIdentifier w z) (begins-parts 58 rest here) id)) free;
        others = λ t v os more e h. label-others t v os more e (like t v os more e h);
        own = name-own (length (w ++ 58 ∷ []));
      }

  no-constant : {X : Type 0} (v more : List ℕ) → v ++ more ≡ w ++ rest → IsConstant v → X
  no-constant v more e h =
      let f = identifier-first w rest id in
      let k : Kind.Name ≡ Kind.Constant = sym f.kind_is ∙ first-of v more Kind.Constant (constant-first v h) f.first (f.others ++ rest) (e ∙ ap (λ z. z ++ rest) f.whole) in
      absurd (cc)

  whole-name : is_labelled (w ++ rest) (length w) ≡ false → IsWholeName w rest
  whole-name no_label =
      record { named = inl id; longest = λ v more e h. by v more e h; unlabelled = unlabelled w rest no_label }
    where
      by : (v more : List ℕ) → v ++ more ≡ w ++ rest → (IsIdentifier v more ⊎ IsConstant v) → length v ≤ length w
      by v more e (inl h) = at-most v more e h
      by v more e (inr h) = no-constant v more e h

abbrev identifier-token : ℕ → Cut
identifier-token n = token shape.Identifier n before.Name true

identifier-words : (w rest : List ℕ) → kind_of shape.Identifier (words_of shape.Identifier (length w) (w ++ rest)) ≡ kind_of shape.Identifier w
unfolding same_shape
identifier-words w rest = ap (kind_of shape.Identifier) (take-front w rest)

identifier-says : (past : List Shape) (n : ℕ) → Says past shape.Identifier (record { shape = shape.Identifier; len = n; before = before.Name; keeps = true })
unfolding same_shape
identifier-says past n = record { before_is = refl; keeps_is = λ bars. refl }

shown-label : (past : List Shape) (look : Look) (y w rest : List ℕ) → Best past y shape.Label (w ++ 58 ∷ []) w rest → Shown past look y (label (length w))
unfolding same_shape
shown-label past look y w rest b =
    let front : (w ++ 58 ∷ []) ++ rest ≡ w ++ 58 ∷ rest = append_assoc w (58 ∷ []) rest in
    Shown.Token _ (w ++ 58 ∷ []) w rest b (sym (length-append w (58 ∷ []))) (ap (λ z. kind_of shape.Label (words_of shape.Label (length w + 1) z)) (sym b.whole ∙ front) ∙ label-words w (58 ∷ rest)) (label-says past (length w + 1)) (quiet-passes look shape.Label (w ++ 58 ∷ []) rest (record { judged = refl; number = refl }))

shown-identifier : (past : List Shape) (look : Look) (w rest : List ℕ) → Best past (w ++ rest) shape.Identifier w w rest → Shown past look (w ++ rest) (identifier-token (length w))
unfolding same_shape
shown-identifier past look w rest b =
    Shown.Token _ w w rest b refl (identifier-words w rest) (identifier-says past (length w)) (quiet-passes look shape.Identifier w rest (record { judged = refl; number = refl }))

shown-keyword : (past : List Shape) (look : Look) (s : Shape) (w rest : List ℕ) → Holds (s, w) KEYWORDS → Best past (w ++ rest) s w [] rest → Shown past look (w ++ rest) (keyword (before_of past) s (length w))
shown-keyword past look s w rest row b =
    Shown.Token _ w [] rest b refl (keywords-mute s w (words_of s (length w) (w ++ rest)) row) (keyword-says past s w (length w) row) (quiet-passes look s w rest (keywords-quiet s w row))

module _ (past : List Shape) (look : Look) (w rest : List ℕ) (id : IsIdentifier w rest) (len : identifier_len (w ++ rest) ≡ length w) where
  name-word : is_labelled (w ++ rest) (length w) ≡ false → is_after_dot (before_of past) ≡ false → (x : Word) → word_of w ≡ x → Shown past look (w ++ rest) (elim x [ word.Free ↦ identifier-token (length w) | word.Keyword s ↦ keyword (before_of past) s (length w) | word.Foreign ↦ cuts.Outside ])
  name-word no_label no_dot word.Free e = shown-identifier past look w rest (best-identifier past w rest id len (inr (free-word w e)) no_label)
  name-word no_label no_dot (word.Keyword s) e =
      let row = keywords-listed s w e in
      shown-keyword past look s w rest row (best-keyword past w rest id len s row (λ d. no-both (is_after_dot (before_of past)) ((dot-asked past).1 d) no_dot) no_label)
  name-word no_label no_dot word.Foreign e =
      Shown.Alien (IsForeign.ForeignWord w rest (whole-name past w rest id len no_label) (foreign-listed w e) (λ d. no-both (is_after_dot (before_of past)) ((dot-asked past).1 d) no_dot))

  shown-named : Shown past look (w ++ rest) (name (before_of past) (w ++ rest))
  unfolding name
  shown-named =
      let z = w ++ rest in
      let P : ℕ → Type 0 = λ n. Shown past look z (
      if is_labelled z n then label n
      else (if is_after_dot (before_of past) then token shape.Identifier n before.Name true
      else (elim (word_of (take n z)) [ word.Free ↦ token shape.Identifier n before.Name true | word.Keyword s ↦ keyword (before_of past) s n | word.Foreign ↦ cuts.Outside ]))) in
      subst P (sym len)
      (split (Shown past look z) (is_labelled z (length w)) (label (length w)) _
      (λ e. let l = labelled w rest e in shown-label past look z w (drop 1 rest) (best-label past w rest id len l.0 l.1))
      (λ e. split (Shown past look z) (is_after_dot (before_of past)) (identifier-token (length w)) _
      (λ d. shown-identifier past look w rest (best-identifier past w rest id len (inl ((dot-asked past).0 d)) e))
      (λ d. subst (λ v. Shown past look z (elim (word_of v) [ word.Free ↦ token shape.Identifier (length w) before.Name true | word.Keyword s ↦ keyword (before_of past) s (length w) | word.Foreign ↦ cuts.Outside ])) (sym (take-front w rest)) (name-word e d (word_of w) refl))))

pub shown-name : (past : List Shape) (look : Look) (y : List ℕ) → look.before ≡ before_of past → begins_name (slice_index y 0) ≡ true → Shown past look y (name look.before y)
shown-name past look y is h =
    let m = name-of y h in
    let there : Shown past look (m.name ++ m.rest) (name (before_of past) (m.name ++ m.rest)) = shown-named past look m.name m.rest m.is (ap identifier_len m.whole ∙ m.len) in
    subst (λ b. Shown past look y (name b y)) (sym is) (subst (λ z. Shown past look z (name (before_of past) z)) m.whole there)

-- ---- constants

abbrev constant-token : ℕ → Cut
constant-token n = token shape.Constant n before.Constant true

constant-words : (w rest : List ℕ) → kind_of shape.Constant (words_of shape.Constant (length w) (w ++ rest)) ≡ kind_of shape.Constant w
unfolding same_shape
constant-words w rest = ap (kind_of shape.Constant) (take-front w rest)

constant-says : (past : List Shape) (n : ℕ) → Says past shape.Constant (record { shape = shape.Constant; len = n; before = before.Constant; keeps = true })
unfolding same_shape
constant-says past n = record { before_is = refl; keeps_is = λ bars. refl }

shown-constant-token : (past : List Shape) (look : Look) (w rest : List ℕ) → Best past (w ++ rest) shape.Constant w w rest → Shown past look (w ++ rest) (constant-token (length w))
unfolding same_shape
shown-constant-token past look w rest b =
    Shown.Token _ w w rest b refl (constant-words w rest) (constant-says past (length w)) (quiet-passes look shape.Constant w rest (record { judged = refl; number = refl }))

module _ (past : List Shape) (look : Look) (w rest : List ℕ) (named : IsConstant w) (all : list_all (is_in set.Word) w ≡ true) (stops : is_in set.Word (slice_index rest 0) ≡ false) where
  run-len : run_len set.Word (w ++ rest) ≡ length w
  run-len = run-at set.Word w rest all stops

  constant-most : (v more : List ℕ) → v ++ more ≡ w ++ rest → IsConstant v → length v ≤ length w
  constant-most v more e h = let most = constants-longest v more h in let same = ap (run_len set.Word) e in let whole = run-len in omega arith

  constant-label-len : (v more : List ℕ) → (v ++ 58 ∷ []) ++ more ≡ w ++ rest → IsConstant v → length v ≡ length w
  constant-label-len v more e h =
      sym (run-at set.Word v (58 ∷ more) (named-all is_upper v upper-in h) refl) ∙ ap (run_len set.Word) (sym (append_assoc v (58 ∷ []) more) ∙ e) ∙ run-len

  constant-like : (t : Shape) (v os more : List ℕ) → v ++ more ≡ w ++ rest → Spells past t v os more → ConstantLike past t v os more
  constant-like t v os more e h =
      let f = constant-first w named in
      of-kind past t v os more f.first (f.others ++ rest) Kind.Constant h (e ∙ ap (λ z. z ++ rest) f.whole) f.kind_is

  constant-own : (n : ℕ) (v more : List ℕ) → v ++ more ≡ w ++ rest → Holds v FOREIGN_OPERATORS → length v < n
  constant-own n v more e h =
      let f = constant-first w named in
      no-foreign v more f.first (f.others ++ rest) Kind.Constant h (e ∙ ap (λ z. z ++ rest) f.whole) f.kind_is (λ k. absurd (cc))

  constant-others : is_labelled (w ++ rest) (length w) ≡ false → (t : Shape) (v os more : List ℕ) → v ++ more ≡ w ++ rest → ConstantLike past t v os more → (length v < length w) ⊎ IsSame shape.Constant w w t v os
  constant-others no_label _ _ _ more e (ConstantLike.Constant v _ h f) = by (below-or (length v) (length w) (constant-most v more e h))
    where
      by : (length v < length w) ⊎ (length v ≡ length w) → (length v < length w) ⊎ IsSame shape.Constant w w shape.Constant v v
      by (inl l) = inl l
      by (inr l) = let same = front-same v more w rest e l in inr (refl, same, same)
  constant-others no_label _ _ _ more e (ConstantLike.Label v _ h f) = no-label (w ++ rest) v more (length w) e (constant-label-len v more e h) f no_label

  best-constant : (IsAfterDot past ⊎ ¬ IsWord w) → is_labelled (w ++ rest) (length w) ≡ false → Best past (w ++ rest) shape.Constant w w rest
  best-constant free no_label =
      record { whole = refl; spells = Spells.Constant w rest named free; others = λ t v os more e h. constant-others no_label t v os more e (constant-like t v os more e h); own = constant-own (length w) }

  constant-label-others : (t : Shape) (v os more : List ℕ) → v ++ more ≡ w ++ rest → ConstantLike past t v os more → (length v < length (w ++ 58 ∷ [])) ⊎ IsSame shape.Label (w ++ 58 ∷ []) w t v os
  constant-label-others _ _ _ more e (ConstantLike.Constant v _ h f) = let most = constant-most v more e h in let one = length-append w (58 ∷ []) in inl (omega arith)
  constant-label-others _ _ _ more e (ConstantLike.Label v _ h f) =
      let same : v ≡ w = front-same v (58 ∷ more) w rest (sym (append_assoc v (58 ∷ []) more) ∙ e) (constant-label-len v more e h) in
      inr (refl, ap (λ z. z ++ 58 ∷ []) same, same)

  best-constant-label : Begins 58 rest → ¬ Begins 58 (drop 1 rest) → Best past (w ++ rest) shape.Label (w ++ 58 ∷ []) w (drop 1 rest)
  best-constant-label here free =
      record {
        whole = label-whole w rest here;
        spells = Spells.Label w (drop 1 rest) (inr named) free;
        others = λ t v os more e h. constant-label-others t v os more e (constant-like t v os more e h);
        own = constant-own (length (w ++ 58 ∷ []));
      }

  no-name : {X : Type 0} (v more : List ℕ) (k : Kind) → v ++ more ≡ w ++ rest → First v k → (Kind.Constant ≡ k → ⊥) → X
  no-name v more k e h other =
      let f = constant-first w named in
      absurd (other (sym f.kind_is ∙ first-of v more k h f.first (f.others ++ rest) (e ∙ ap (λ z. z ++ rest) f.whole)))

  whole-constant : is_labelled (w ++ rest) (length w) ≡ false → IsWholeName w rest
  whole-constant no_label = record { named = inr named; longest = λ v more e h. by v more e h; unlabelled = unlabelled w rest no_label }
    where
      by : (v more : List ℕ) → v ++ more ≡ w ++ rest → (IsIdentifier v more ⊎ IsConstant v) → length v ≤ length w
      by v more e (inl h) = no-name v more Kind.Name e (identifier-first v more h) (λ k. absurd (cc))
      by v more e (inr h) = constant-most v more e h

  constant-word : is_labelled (w ++ rest) (length w) ≡ false → is_after_dot (before_of past) ≡ false → (x : Word) → word_of w ≡ x → Shown past look (w ++ rest) (elim x [ word.Foreign ↦ cuts.Outside | word.Free ↦ constant-token (length w) | word.Keyword s ↦ constant-token (length w) ])
  constant-word no_label no_dot word.Free e = shown-constant-token past look w rest (best-constant (inr (free-word w e)) no_label)
  constant-word no_label no_dot (word.Keyword s) e = no-name w rest Kind.Name refl (keyword-begins s w (keywords-listed s w e)) (λ k. absurd (cc))
  constant-word no_label no_dot word.Foreign e =
      Shown.Alien (IsForeign.ForeignWord w rest (whole-constant no_label) (foreign-listed w e) (λ d. no-both (is_after_dot (before_of past)) ((dot-asked past).1 d) no_dot))

  shown-constant-front : Shown past look (w ++ rest) (constant (before_of past) (w ++ rest))
  unfolding constant
  shown-constant-front =
      let z = w ++ rest in
      let P : ℕ → Type 0 = λ n. Shown past look z (
      if is_labelled z n then label n
      else (if is_after_dot (before_of past) then token shape.Constant n before.Constant true
      else (elim (word_of (take n z)) [ word.Foreign ↦ cuts.Outside | word.Free ↦ token shape.Constant n before.Constant true | word.Keyword s ↦ token shape.Constant n before.Constant true ]))) in
      subst P (sym run-len)
      (split (Shown past look z) (is_labelled z (length w)) (label (length w)) _
      (λ e. let l = labelled w rest e in shown-label past look z w (drop 1 rest) (best-constant-label l.0 l.1))
      (λ e. split (Shown past look z) (is_after_dot (before_of past)) (constant-token (length w)) _
      (λ d. shown-constant-token past look w rest (best-constant (inl ((dot-asked past).0 d)) e))
      (λ d. subst (λ v. Shown past look z (elim (word_of v) [ word.Foreign ↦ cuts.Outside | word.Free ↦ token shape.Constant (length w) before.Constant true | word.Keyword s ↦ token shape.Constant (length w) before.Constant true ])) (sym (take-front w rest)) (constant-word e d (word_of w) refl))))

pub shown-constant : (past : List Shape) (look : Look) (y : List ℕ) → look.before ≡ before_of past → is_upper (slice_index y 0) ≡ true → Shown past look y (constant look.before y)
shown-constant past look y is h =
    let m = run-of set.Word y in
    let there : Shown past look (m.run ++ m.rest) (constant (before_of past) (m.run ++ m.rest)) = shown-constant-front past look m.run m.rest (constant-of y h) m.all m.stops in
    subst (λ b. Shown past look y (constant b y)) (sym is) (subst (λ z. Shown past look z (constant (before_of past) z)) m.whole there)
