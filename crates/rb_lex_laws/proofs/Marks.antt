-- Numbers, variables, separators, symbols and operators, as the lexer's step answers them.
use Rattle.std.proofs.Common.{◌≡◌, ◌≢◌, ℕ, suc, ◌+◌, ◌^◌, ◌<◌, ◌≤◌, ◌⊎◌, Bool, true, false, not, ◌==◌, ◌&&◌, ◌||◌, if◌then◌else◌, List, [], ◌∷◌, ◌++◌, length, take, drop, inl, inr, refl, sym, ap, subst, ◌∙◌, append_assoc, length-append, arith}
use Rattle.std.specs.Prelude.{slice_index}
use Rattle.std.specs.List.{list_all}
use Rattle.std.proofs.lemmas.Grind.{common_steps}
use Rattle.std.proofs.lemmas.Bool.Decides.{nat_tests}
use Rattle.rb_tree.specs.Tokens.{same_shape, plain_kind}
use Rattle.rb_tree.specs.declared.token.Shape.{Shape}
use Rattle.rb_tree.specs.declared.token.Shape.TheVariants as shape
use Rattle.rb_lex.specs.Chars.{is_in, run_len, begins_name, is_upper, is_letter, is_spaced}
use Rattle.rb_lex.specs.Words.{identifier_len, ends_with_equals, symbol_len}
use Rattle.rb_lex.specs.Numbers.{spelling_of, is_foreign, fits, digits_in, base_of}
use Rattle.rb_lex.specs.Operators.{found, operator, method_name}
use Rattle.rb_lex.specs.Cuts.{names_method, is_operand_end, is_constant, is_strange_opening, begins_here_document, is_outside, is_bad, is_closing, after_operator, token, number, variable, judged, sign_at, sign, colon}
use Rattle.rb_lex.specs.Lexed.{words_of, kind_of}
use Rattle.rb_lex.specs.declared.operator.Sign.{Sign}
use Rattle.rb_lex.specs.declared.operator.Sign.TheVariants as signs
use Rattle.rb_lex.specs.declared.chars.Set.TheVariants as set
use Rattle.rb_lex.specs.declared.cut.Before.TheVariants as before
use Rattle.rb_lex.specs.declared.cut.Look.{Look}
use Rattle.rb_lex.specs.declared.cut.Cut.{Cut}
use Rattle.rb_lex.specs.declared.cut.Cut.TheVariants as cuts
use Rattle.rb_rules.specs.Spellings.{Begins, Holds, IsNamed, IsIdentifier, IsSymbolName, OPERATORS, METHOD_OPERATORS, FOREIGN_OPERATORS}
use Rattle.rb_rules.specs.Numerals.{value_of, number_from}
use Rattle.rb_rules.specs.Before.{NamesMethod, IsOperandEnd}
use Rattle.rb_rules.specs.Lexes.{Spells, IsLongest, IsForeign}
use Rattle.rb_lex_laws.proofs.Lists.{split, if-true, if-false, and-both, or-either, or-neither, not-true, not-false, not-of, no-both, eq-is, eq-not, tail-at, take-front, front-same, tail-same, false-of, begins-is, begins-parts, begins-not, not-begins}
use Rattle.rb_lex_laws.proofs.Best.{Best, IsSame, below-or, no-foreign, longest-of}
use Rattle.rb_lex_laws.proofs.Blanks.{spaced-not}
use Rattle.rb_lex_laws.proofs.Longest.{run-all, constants-longest, identifiers-longest, named-all, lower-in}
use Rattle.rb_lex_laws.proofs.Numbers.{fits-small}
use Rattle.rb_lex_laws.proofs.Numerals.{Numeral, numeral-of}
use Rattle.rb_lex_laws.proofs.Past.{before_of, names-asked, ends-asked, constant-asked, held-holds, holds-held, held, same-is}
use Rattle.rb_lex_laws.proofs.Rows.{EachRow, at-row}
use Rattle.rb_lex_laws.proofs.Runs.{run-of, at-front, on-front, name-of, constant-of, word-of, name-ends}
use Rattle.rb_lex_laws.proofs.Shown.{Shown, Passes, NUMBERS, quiet-passes, number-passes, operator-says, method-says, operators-mute, methods-mute}
use Rattle.rb_lex_laws.proofs.Signs.{word, IsRow, IsNameRow, AtLeast, operator-row, method_name-row, operator-longest, name-longest, method-longest, foreign-operator, foreign-name, one-shape}
use Rattle.rb_lex_laws.proofs.Sorts.{Kind, ColonLike, VariableLike, SemicolonLike, SignLike, of-kind}

-- ---- numbers

first-of-three : (a b c : Bool) → (a || b || c) ≡ true → (a ≡ true) ⊎ (b ≡ true) ⊎ (c ≡ true)
first-of-three true b c h = inl refl
first-of-three false true c h = inr (inl refl)
first-of-three false false true h = inr (inr refl)
first-of-three false false false h = absurd (cc)

none-of-three : (a b c : Bool) → (a || b || c) ≡ false → (a ≡ false) × (b ≡ false) × (c ≡ false)
none-of-three true b c h = absurd (cc)
none-of-three false true c h = absurd (cc)
none-of-three false false true h = absurd (cc)
none-of-three false false false h = (refl, refl, refl)

number-words : (s : Shape) (w rest : List ℕ) → Holds s NUMBERS → words_of s (length w) (w ++ rest) ≡ w
unfolding same_shape
number-words s w rest (inl e) = ap (λ t. words_of t (length w) (w ++ rest)) e ∙ take-front w rest
number-words s w rest (inr (inl e)) = ap (λ t. words_of t (length w) (w ++ rest)) e ∙ take-front w rest
number-words s w rest (inr (inr h)) = absurd h

zero-digit : (past : List Shape) (look : Look) (d : ℕ) (u : List ℕ) → (d == 48 && is_in set.Decimal (slice_index (d ∷ u) 1)) ≡ true → IsForeign past look.is_blank look.is_fresh (d ∷ u)
zero-digit past look d [] h = let both = and-both (d == 48) (is_in set.Decimal 0) h in absurd (cc)
zero-digit past look d (c ∷ u) h =
    let both = and-both (d == 48) (is_in set.Decimal c) h in
    subst (λ k. IsForeign past look.is_blank look.is_fresh (k ∷ c ∷ u)) (sym (eq-is d 48 both.0)) (IsForeign.ZeroAndDigit c u both.1)

letter-after : (past : List Shape) (look : Look) (s : Shape) (w rest : List ℕ) → Holds s NUMBERS → IsLongest past s w w rest → is_letter (slice_index rest 0) ≡ true → IsForeign past look.is_blank look.is_fresh (w ++ rest)
letter-after past look s w [] held l h = absurd (cc)
letter-after past look s w (c ∷ rest) held l h = IsForeign.NumberAndLetter s w rest c held l h

module _ (past : List Shape) (look : Look) (d : ℕ) (u : List ℕ) (digit : is_in set.Decimal d ≡ true) where
  number-letter : (m : Numeral past (d ∷ u) (spelling_of (d ∷ u))) → slice_index (d ∷ u) (spelling_of (d ∷ u)).len ≡ slice_index m.rest 0
  number-letter m = ap (slice_index (d ∷ u)) m.len ∙ ap (λ z. slice_index z (length m.number)) (sym m.best.whole) ∙ at-front m.number m.rest

  is_number : (t : Bool) → Holds (if t then shape.Float else shape.Whole) NUMBERS
  is_number true = inr (inl refl)
  is_number false = inl refl

  small-value : (m : Numeral past (d ∷ u) (spelling_of (d ∷ u))) → (spelling_of (d ∷ u)).is_float ≡ false → (fits 0 (spelling_of (d ∷ u)).digits (digits_in (spelling_of (d ∷ u)) (d ∷ u)) ≡ true) → value_of m.number < 2 ^ 128
  small-value m whole h =
      let n = spelling_of (d ∷ u) in
      subst (λ k. k < 2 ^ 128) (m.value whole) ((fits-small n.digits 0 (digits_in n (d ∷ u)) (omega arith)).0 h)

  large-value : (m : Numeral past (d ∷ u) (spelling_of (d ∷ u))) → (spelling_of (d ∷ u)).is_float ≡ false → (fits 0 (spelling_of (d ∷ u)).digits (digits_in (spelling_of (d ∷ u)) (d ∷ u)) ≡ false) → 2 ^ 128 ≤ value_of m.number
  large-value m whole h = by (value_of m.number) (m.value whole)
    where
      at-least : (k : ℕ) → ¬ (k < 2 ^ 128) → 2 ^ 128 ≤ k
      at-least k most = omega arith

      by : (k : ℕ) → number_from (base_of (spelling_of (d ∷ u)).digits) 0 (digits_in (spelling_of (d ∷ u)) (d ∷ u)) ≡ k → 2 ^ 128 ≤ k
      by k e =
          let n = spelling_of (d ∷ u) in
          at-least k (λ small. no-both (fits 0 n.digits (digits_in n (d ∷ u))) ((fits-small n.digits 0 (digits_in n (d ∷ u)) (omega arith)).1 (subst (λ j. j < 2 ^ 128) (sym e) small)) h)

  number-outside : (m : Numeral past (d ∷ u) (spelling_of (d ∷ u))) → ((d == 48 && is_in set.Decimal (slice_index (d ∷ u) 1)) ≡ true) ⊎ (is_letter (slice_index (d ∷ u) (spelling_of (d ∷ u)).len) ≡ true) ⊎ (not ((spelling_of (d ∷ u)).is_float || fits 0 (spelling_of (d ∷ u)).digits (digits_in (spelling_of (d ∷ u)) (d ∷ u))) ≡ true) → IsForeign past look.is_blank look.is_fresh (d ∷ u)
  number-outside m (inl e) = zero-digit past look d u e
  number-outside m (inr (inl e)) =
      subst (IsForeign past look.is_blank look.is_fresh) m.best.whole
      (letter-after past look (if (spelling_of (d ∷ u)).is_float then shape.Float else shape.Whole) m.number m.rest (is_number (spelling_of (d ∷ u)).is_float) (longest-of past (d ∷ u) _ m.number m.number m.rest m.best) (ap is_letter (sym (number-letter m)) ∙ e))
  number-outside m (inr (inr e)) =
      let n = spelling_of (d ∷ u) in
      let both = or-neither n.is_float (fits 0 n.digits (digits_in n (d ∷ u))) (not-true (n.is_float || fits 0 n.digits (digits_in n (d ∷ u))) e) in
      let l : IsLongest past shape.Whole m.number m.number m.rest = subst (λ t. IsLongest past (if t then shape.Float else shape.Whole) m.number m.number m.rest) both.0 (longest-of past (d ∷ u) _ m.number m.number m.rest m.best) in
      subst (IsForeign past look.is_blank look.is_fresh) m.best.whole (IsForeign.LargeNumber m.number m.rest l (large-value m both.0 both.1))

  float-token : (m : Numeral past (d ∷ u) (spelling_of (d ∷ u))) → (spelling_of (d ∷ u)).is_float ≡ true → is_letter (slice_index m.rest 0) ≡ false → Shown past look (d ∷ u) (token shape.Float (spelling_of (d ∷ u)).len before.Operand true)
  unfolding same_shape
  float-token m e apart =
      let b : Best past (d ∷ u) shape.Float m.number m.number m.rest = subst (λ t. Best past (d ∷ u) (if t then shape.Float else shape.Whole) m.number m.number m.rest) e m.best in
      let words : words_of shape.Float (spelling_of (d ∷ u)).len (d ∷ u) ≡ m.number = ap (λ k. words_of shape.Float k (d ∷ u)) m.len ∙ ap (λ z. words_of shape.Float (length m.number) z) (sym m.best.whole) ∙ number-words shape.Float m.number m.rest (inr (inl refl)) in
      Shown.Token _ m.number m.number m.rest b m.len (ap (kind_of shape.Float) words) (record { before_is = refl; keeps_is = λ bars. refl }) (number-passes look shape.Float m.number m.rest refl apart (λ other. absurd (cc)))

  whole-token : (m : Numeral past (d ∷ u) (spelling_of (d ∷ u))) → (spelling_of (d ∷ u)).is_float ≡ false → is_letter (slice_index m.rest 0) ≡ false → value_of m.number < 2 ^ 128 → Shown past look (d ∷ u) (token shape.Whole (spelling_of (d ∷ u)).len before.Operand true)
  unfolding same_shape
  whole-token m e apart small =
      let b : Best past (d ∷ u) shape.Whole m.number m.number m.rest = subst (λ t. Best past (d ∷ u) (if t then shape.Float else shape.Whole) m.number m.number m.rest) e m.best in
      let words : words_of shape.Whole (spelling_of (d ∷ u)).len (d ∷ u) ≡ m.number = ap (λ k. words_of shape.Whole k (d ∷ u)) m.len ∙ ap (λ z. words_of shape.Whole (length m.number) z) (sym m.best.whole) ∙ number-words shape.Whole m.number m.rest (inl refl) in
      Shown.Token _ m.number m.number m.rest b m.len (ap (kind_of shape.Whole) words) (record { before_is = refl; keeps_is = λ bars. refl }) (number-passes look shape.Whole m.number m.rest refl apart (λ _. small))

  number-inside : (m : Numeral past (d ∷ u) (spelling_of (d ∷ u))) → is_letter (slice_index (d ∷ u) (spelling_of (d ∷ u)).len) ≡ false → not ((spelling_of (d ∷ u)).is_float || fits 0 (spelling_of (d ∷ u)).digits (digits_in (spelling_of (d ∷ u)) (d ∷ u))) ≡ false → Shown past look (d ∷ u) (if (spelling_of (d ∷ u)).is_float then token shape.Float (spelling_of (d ∷ u)).len before.Operand true else token shape.Whole (spelling_of (d ∷ u)).len before.Operand true)
  number-inside m apart fit =
      let n = spelling_of (d ∷ u) in
      let letter = ap is_letter (sym (number-letter m)) ∙ apart in
      let good = not-false (n.is_float || fits 0 n.digits (digits_in n (d ∷ u))) fit in
      split (Shown past look (d ∷ u)) n.is_float (token shape.Float n.len before.Operand true) (token shape.Whole n.len before.Operand true)
      (λ e. float-token m e letter)
      (λ e. whole-token m e letter (small-value m e (ap (λ t. t || fits 0 n.digits (digits_in n (d ∷ u))) (sym e) ∙ good)))

  pub shown-number : Shown past look (d ∷ u) (number (d ∷ u))
  unfolding number is_foreign
  shown-number =
      let m = numeral-of past d u digit in
      split (Shown past look (d ∷ u)) (is_foreign (spelling_of (d ∷ u)) (d ∷ u)) cuts.Outside _
      (λ e. Shown.Alien (number-outside m (first-of-three (d == 48 && is_in set.Decimal (slice_index (d ∷ u) 1)) (is_letter (slice_index (d ∷ u) (spelling_of (d ∷ u)).len)) (not ((spelling_of (d ∷ u)).is_float || fits 0 (spelling_of (d ∷ u)).digits (digits_in (spelling_of (d ∷ u)) (d ∷ u)))) e)))
      (λ e. let p = none-of-three (d == 48 && is_in set.Decimal (slice_index (d ∷ u) 1)) (is_letter (slice_index (d ∷ u) (spelling_of (d ∷ u)).len)) (not ((spelling_of (d ∷ u)).is_float || fits 0 (spelling_of (d ∷ u)).digits (digits_in (spelling_of (d ∷ u)) (d ∷ u)))) e in number-inside m p.1 p.2)

-- ---- instance variables

variable-others : (past : List Shape) (run rest u : List ℕ) → run ++ rest ≡ u → run_len set.Word u ≡ length run → (t : Shape) (v os more : List ℕ) → v ++ more ≡ 64 ∷ u → VariableLike t v os more → (length v < length (64 ∷ run)) ⊎ IsSame shape.InstanceVariable (64 ∷ run) run t v os
variable-others past run rest u whole len _ _ _ more e (VariableLike.Variable v _ h) =
    let inner : v ++ more ≡ u = tail-same 64 64 (v ++ more) u e in
    let most = run-all set.Word v more (named-all begins_name v lower-in h) in
    let same = ap (run_len set.Word) inner in by inner (below-or (length v) (length run) (omega arith))
  where
    by : v ++ more ≡ u → (length v < length run) ⊎ (length v ≡ length run) → (length (64 ∷ v) < length (64 ∷ run)) ⊎ IsSame shape.InstanceVariable (64 ∷ run) run shape.InstanceVariable (64 ∷ v) v
    by inner (inl l) = inl (omega arith)
    by inner (inr l) = let same = front-same v more run rest (inner ∙ sym whole) l in inr (refl, ap (λ z. 64 ∷ z) same, same)

variable-like : (past : List Shape) (u : List ℕ) (t : Shape) (v os more : List ℕ) → v ++ more ≡ 64 ∷ u → Spells past t v os more → VariableLike t v os more
variable-like past u t v os more e sp = of-kind past t v os more 64 u Kind.Variable sp e refl

best-variable : (past : List Shape) (u : List ℕ) → begins_name (slice_index u 0) ≡ true → Best past (64 ∷ u) shape.InstanceVariable (64 ∷ (run-of set.Word u).run) (run-of set.Word u).run (run-of set.Word u).rest
best-variable past u h =
    let m = run-of set.Word u in
    record {
      whole = ap (λ z. 64 ∷ z) m.whole;
      spells = Spells.InstanceVariable m.run m.rest (word-of u h);
      others = λ t v os more e sp. variable-others past m.run m.rest u m.whole m.len t v os more e (variable-like past u t v os more e sp);
      own = λ v more e held. no-foreign v more 64 u Kind.Variable held e refl (λ k. absurd (cc));
    }

no-variable : (past : List Shape) (u : List ℕ) → begins_name (slice_index u 0) ≡ false → (s : Shape) (w words rest : List ℕ) → w ++ rest ≡ 64 ∷ u → ¬ Spells past s w words rest
no-variable past u h s w words rest e sp = by s w words rest e (variable-like past u s w words rest e sp)
  where
    begins : (v more : List ℕ) → v ++ more ≡ u → IsNamed begins_name v → ⊥
    begins [] more e named = named
    begins (c ∷ v) more e named = no-both (begins_name c) named.0 (ap (λ z. begins_name (slice_index z 0)) e ∙ h)

    by : (s : Shape) (w words rest : List ℕ) → w ++ rest ≡ 64 ∷ u → VariableLike s w words rest → ⊥
    by _ _ _ rest e (VariableLike.Variable v _ named) = begins v rest (tail-same 64 64 (v ++ rest) u e) named

variable-words : (w rest : List ℕ) → kind_of shape.InstanceVariable (words_of shape.InstanceVariable (1 + length w) (64 ∷ (w ++ rest))) ≡ kind_of shape.InstanceVariable w
unfolding same_shape
variable-words w rest = let n : 1 + length w ≡ suc (length w) = omega arith in ap (λ k. kind_of shape.InstanceVariable (drop 1 (take k (64 ∷ (w ++ rest))))) n ∙ ap (kind_of shape.InstanceVariable) (take-front w rest)

pub shown-variable : (past : List Shape) (look : Look) (u : List ℕ) → Shown past look (64 ∷ u) (variable (64 ∷ u))
unfolding variable same_shape
shown-variable past look u =
    let S : Cut → Type 0 = Shown past look (64 ∷ u) in
    let next = slice_index (64 ∷ u) 1 in
    let there : slice_index u 0 ≡ next = tail-at (64 ∷ u) in
    split S (next == 64) cuts.Outside _
    (λ e. Shown.Alien (subst (λ z. IsForeign past look.is_blank look.is_fresh (64 ∷ z)) (sym (begins-parts 64 u (begins-is 64 u (omega arith) (ap (λ c. c == 64) there ∙ e)))) (IsForeign.ClassVariable (drop 1 u))))
    (λ e. split S (begins_name next) (token shape.InstanceVariable (1 + run_len set.Word u) before.Operand true) cuts.Bad
    (λ b. let m = run-of set.Word u in
    let h = ap begins_name there ∙ b in
    let n : 1 + run_len set.Word u ≡ 1 + length m.run = ap (λ k. 1 + k) m.len in
    let size : 1 + length m.run ≡ suc (length m.run) = omega arith in
    Shown.Token _ (64 ∷ m.run) m.run m.rest (best-variable past u h) (n ∙ size)
    (ap (λ k. kind_of shape.InstanceVariable (words_of shape.InstanceVariable k (64 ∷ u))) n ∙ ap (λ z. kind_of shape.InstanceVariable (words_of shape.InstanceVariable (1 + length m.run) (64 ∷ z))) (sym m.whole) ∙ variable-words m.run m.rest)
    (record { before_is = refl; keeps_is = λ bars. refl }) (quiet-passes look shape.InstanceVariable (64 ∷ m.run) m.rest (record { judged = refl; number = refl })))
    (λ b. Shown.Nothing (no-variable past u (ap begins_name there ∙ b))))

-- ---- `;`

semicolon-others : (u : List ℕ) (t : Shape) (v os more : List ℕ) → v ++ more ≡ 59 ∷ u → SemicolonLike t v os more → (length v < 1) ⊎ IsSame shape.Separator (59 ∷ []) [] t v os
semicolon-others u _ _ _ more e (SemicolonLike.Semicolon _) = inr (refl, refl, refl)

pub shown-semicolon : (past : List Shape) (look : Look) (u : List ℕ) → Shown past look (59 ∷ u) (token shape.Separator 1 before.Plain true)
unfolding same_shape kind_of plain_kind
shown-semicolon past look u =
    Shown.Token _ (59 ∷ []) [] u
    (record {
      whole = refl;
      spells = Spells.Semicolon u;
      others = λ t v os more e sp. semicolon-others u t v os more e (of-kind past t v os more 59 u Kind.Semicolon sp e refl);
      own = λ v more e held. no-foreign v more 59 u Kind.Semicolon held e refl (λ k. absurd (cc));
    })
    refl refl (record { before_is = refl; keeps_is = λ bars. refl }) (quiet-passes look shape.Separator (59 ∷ []) u (record { judged = refl; number = refl }))

-- ---- the name of a symbol

pub record Symbol (z : List ℕ) : Type 0 where
  pub name : List ℕ
  pub rest : List ℕ
  pub whole : name ++ rest ≡ z
  pub is : IsSymbolName name rest
  pub len : symbol_len z ≡ length name

upper-not : (c : ℕ) → begins_name c ≡ true → is_upper c ≡ false
upper-not c h = grind (arith, nat_tests, common_steps)

upper-symbol : (z : List ℕ) → is_upper (slice_index z 0) ≡ true → symbol_len z ≡ run_len set.Word z
unfolding symbol_len
upper-symbol z h = if-true (is_upper (slice_index z 0)) (run_len set.Word z) _ h

name-symbol : (z : List ℕ) → begins_name (slice_index z 0) ≡ true → symbol_len z ≡ (if ends_with_equals z (identifier_len z) then identifier_len z + 1 else identifier_len z)
unfolding symbol_len
name-symbol z h =
    if-false (is_upper (slice_index z 0)) (run_len set.Word z) _ (upper-not (slice_index z 0) h)
    ∙ if-true (begins_name (slice_index z 0)) (if ends_with_equals z (identifier_len z) then identifier_len z + 1 else identifier_len z) 0 h

pub no-symbol : (z : List ℕ) → is_upper (slice_index z 0) ≡ false → begins_name (slice_index z 0) ≡ false → symbol_len z ≡ 0
unfolding symbol_len
no-symbol z h k = if-false (is_upper (slice_index z 0)) (run_len set.Word z) _ h ∙ if-false (begins_name (slice_index z 0)) _ 0 k

equals-front : (a r : List ℕ) → ends_with_equals (a ++ r) (length a) ≡ (slice_index r 0 == 61 && not (slice_index r 1 == 61 || slice_index r 1 == 126 || slice_index r 1 == 62))
equals-front a r =
    ap (λ n. n == 61 && not (slice_index (a ++ r) (length a + 1) == 61 || slice_index (a ++ r) (length a + 1) == 126 || slice_index (a ++ r) (length a + 1) == 62)) (at-front a r)
    ∙ ap (λ n. slice_index r 0 == 61 && not (n == 61 || n == 126 || n == 62)) (on-front a r)

writer : (name rest : List ℕ) → IsIdentifier name rest → (slice_index rest 0 == 61 && not (slice_index rest 1 == 61 || slice_index rest 1 == 126 || slice_index rest 1 == 62)) ≡ true → symbol_len (name ++ rest) ≡ length name + 1 → Symbol (name ++ rest)
writer name rest id h len =
    let both = and-both (slice_index rest 0 == 61) (not (slice_index rest 1 == 61 || slice_index rest 1 == 126 || slice_index rest 1 == 62)) h in
    let free = none-of-three (slice_index rest 1 == 61) (slice_index rest 1 == 126) (slice_index rest 1 == 62) (not-true (slice_index rest 1 == 61 || slice_index rest 1 == 126 || slice_index rest 1 == 62) both.1) in
    let front : rest ≡ 61 ∷ drop 1 rest = begins-parts 61 rest (begins-is 61 rest (omega arith) both.0) in
    let none : (k : ℕ) → (slice_index rest 1 == k) ≡ false → ¬ Begins k (drop 1 rest) = λ k n. not-begins k (drop 1 rest) (ap (λ c. c == k) (tail-at rest) ∙ n) in
    record {
      name = name ++ 61 ∷ [];
      rest = drop 1 rest;
      whole = append_assoc name (61 ∷ []) (drop 1 rest) ∙ ap (λ z. name ++ z) (sym front);
      is = IsSymbolName.OfWriter name (drop 1 rest) (subst (IsIdentifier name) front id) (none 61 free.0) (none 126 free.1) (none 62 free.2);
      len = len ∙ sym (length-append name (61 ∷ []));
    }

named-symbol : (name rest : List ℕ) → IsIdentifier name rest → symbol_len (name ++ rest) ≡ (if ends_with_equals (name ++ rest) (length name) then length name + 1 else length name) → Symbol (name ++ rest)
named-symbol name rest id len = by (slice_index rest 0 == 61 && not (slice_index rest 1 == 61 || slice_index rest 1 == 126 || slice_index rest 1 == 62)) refl
  where
    by : (t : Bool) → (slice_index rest 0 == 61 && not (slice_index rest 1 == 61 || slice_index rest 1 == 126 || slice_index rest 1 == 62)) ≡ t → Symbol (name ++ rest)
    by true e = writer name rest id e (len ∙ if-true (ends_with_equals (name ++ rest) (length name)) (length name + 1) (length name) (equals-front name rest ∙ e))
    by false e = record { name = name; rest = rest; whole = refl; is = IsSymbolName.OfIdentifier name rest id; len = len ∙ if-false (ends_with_equals (name ++ rest) (length name)) (length name + 1) (length name) (equals-front name rest ∙ e) }

symbol-of : (z : List ℕ) → (symbol_len z == 0) ≡ false → Symbol z
symbol-of z some = by (is_upper (slice_index z 0)) refl (begins_name (slice_index z 0)) refl
  where
    by : (s : Bool) → is_upper (slice_index z 0) ≡ s → (t : Bool) → begins_name (slice_index z 0) ≡ t → Symbol z
    by true e t f = let m = run-of set.Word z in record { name = m.run; rest = m.rest; whole = m.whole; is = IsSymbolName.OfConstant m.run m.rest (constant-of z e); len = upper-symbol z e ∙ m.len }
    by false e true f =
        let m = name-of z f in
        let len : symbol_len (m.name ++ m.rest) ≡ (if ends_with_equals (m.name ++ m.rest) (length m.name) then length m.name + 1 else length m.name) =
        ap symbol_len m.whole ∙ name-symbol z f ∙ ap (λ k. if ends_with_equals z k then k + 1 else k) m.len ∙ ap (λ y. if ends_with_equals y (length m.name) then length m.name + 1 else length m.name) (sym m.whole) in
        subst Symbol m.whole (named-symbol m.name m.rest m.is len)
    by false e false f = absurd (eq-not (symbol_len z) 0 some (no-symbol z e f))

-- no name of a symbol is longer
named-head : (test : ℕ → Bool) (w more : List ℕ) → IsNamed test w → test (slice_index (w ++ more) 0) ≡ true
named-head test [] more h = absurd h
named-head test (c ∷ w) more h = h.0

identifier-head : (w rest more : List ℕ) → IsIdentifier w rest → begins_name (slice_index (w ++ more) 0) ≡ true
identifier-head w _ more (IsIdentifier.Plain _ rest h) = named-head begins_name w more h
identifier-head _ _ more (IsIdentifier.Asking w rest h free) = ap (λ z. begins_name (slice_index z 0)) (append_assoc w (63 ∷ []) more) ∙ named-head begins_name w (63 ∷ more) h
identifier-head _ _ more (IsIdentifier.Shouting w rest h free) = ap (λ z. begins_name (slice_index z 0)) (append_assoc w (33 ∷ []) more) ∙ named-head begins_name w (33 ∷ more) h

identifier-symbol : (z : List ℕ) → begins_name (slice_index z 0) ≡ true → identifier_len z ≤ symbol_len z
identifier-symbol z h = let e = name-symbol z h in subst (λ k. identifier_len z ≤ k) (sym e) (by (ends_with_equals z (identifier_len z)))
  where
    by : (t : Bool) → identifier_len z ≤ (if t then identifier_len z + 1 else identifier_len z)
    by true = omega arith
    by false = omega arith

symbol-most : (v more : List ℕ) → IsSymbolName v more → length v ≤ symbol_len (v ++ more)
symbol-most v more (IsSymbolName.OfConstant _ _ h) = let e = upper-symbol (v ++ more) (named-head is_upper v more h) in let most = constants-longest v more h in omega arith
symbol-most v more (IsSymbolName.OfIdentifier _ _ h) = let e = identifier-symbol (v ++ more) (identifier-head v more more h) in let most = identifiers-longest v more h in omega arith
symbol-most _ more (IsSymbolName.OfWriter w _ h f g k) =
    let z = w ++ 61 ∷ more in
    let len : identifier_len z ≡ length w = name-ends w 61 more refl refl h in
    let rest = 61 ∷ more in
    let none : (c : ℕ) → 0 < c → ¬ Begins c more → (slice_index rest 1 == c) ≡ false = λ c some free. ap (λ x. x == c) (sym (tail-at rest)) ∙ begins-not c more some free in
    let t : ends_with_equals z (length w) ≡ true =
    equals-front w rest ∙ not-of (slice_index rest 1 == 61 || slice_index rest 1 == 126 || slice_index rest 1 == 62) (all-none (slice_index rest 1 == 61) (slice_index rest 1 == 126) (slice_index rest 1 == 62) (none 61 (omega arith) f) (none 126 (omega arith) g) (none 62 (omega arith) k)) in
    let size : symbol_len z ≡ length w + 1 =
    name-symbol z (identifier-head w rest rest h) ∙ ap (λ n. if ends_with_equals z n then n + 1 else n) len ∙ if-true (ends_with_equals z (length w)) (length w + 1) (length w) t in
    let one = length-append w (61 ∷ []) in
    let same : symbol_len ((w ++ 61 ∷ []) ++ more) ≡ symbol_len z = ap symbol_len (append_assoc w (61 ∷ []) more) in
    omega arith
  where
    all-none : (a b c : Bool) → a ≡ false → b ≡ false → c ≡ false → (a || b || c) ≡ false
    all-none true b c e f g = absurd (cc)
    all-none false true c e f g = absurd (cc)
    all-none false false c e f g = g

symbol-some : (v more : List ℕ) → IsSymbolName v more → 0 < length v
symbol-some v more (IsSymbolName.OfConstant _ _ h) = named-some is_upper v h
  where
    named-some : (test : ℕ → Bool) (w : List ℕ) → IsNamed test w → 0 < length w
    named-some test [] h = absurd h
    named-some test (c ∷ w) h = omega arith
symbol-some v more (IsSymbolName.OfIdentifier _ _ h) = some v more h
  where
    named-some : (test : ℕ → Bool) (w : List ℕ) → IsNamed test w → 0 < length w
    named-some test [] h = absurd h
    named-some test (c ∷ w) h = omega arith

    some : (w rest : List ℕ) → IsIdentifier w rest → 0 < length w
    some w _ (IsIdentifier.Plain _ rest h) = named-some begins_name w h
    some _ _ (IsIdentifier.Asking w rest h free) = let one = length-append w (63 ∷ []) in omega arith
    some _ _ (IsIdentifier.Shouting w rest h free) = let one = length-append w (33 ∷ []) in omega arith
symbol-some _ more (IsSymbolName.OfWriter w _ h f g k) = let one = length-append w (61 ∷ []) in omega arith

-- ---- operators

abbrev IsNonzero : Shape × List ℕ → Type 0
IsNonzero row = list_all (λ c. not (c == 0)) row.1 ≡ true

nonzero-rows : EachRow IsNonzero OPERATORS
nonzero-rows = (refl, (refl, (refl, (refl, (refl, (refl, (refl, (refl, (refl, (refl, (refl, (refl, (refl, (refl, (refl, (refl, (refl, (refl, (refl, (refl, (refl, (refl, (refl, (refl, (refl, (refl, (refl, (refl, (refl, (refl, (refl, (refl, (refl, (refl, (refl, (refl, (refl, (refl, (refl, (refl, (refl, (refl, (refl, (refl, (refl, (refl, (refl, (refl, (refl, (refl, tt))))))))))))))))))))))))))))))))))))))))))))))))))

nonzero-methods : EachRow IsNonzero METHOD_OPERATORS
nonzero-methods = (refl, (refl, (refl, (refl, tt))))

nonzero-foreign : EachRow (λ (w : List ℕ). list_all (λ c. not (c == 0)) w ≡ true) FOREIGN_OPERATORS
nonzero-foreign = (refl, (refl, (refl, (refl, (refl, tt)))))

-- the bytes at the front are those that were looked at
front-word : (y : List ℕ) (n : ℕ) → (n ≡ 1) ⊎ (n ≡ 2) ⊎ (n ≡ 3) → list_all (λ c. not (c == 0)) (word n (slice_index y 0) (slice_index y 1) (slice_index y 2)) ≡ true → (word n (slice_index y 0) (slice_index y 1) (slice_index y 2) ++ drop n y ≡ y) × (length (word n (slice_index y 0) (slice_index y 1) (slice_index y 2)) ≡ n)
front-word y n (inl e) h = subst (λ k. (word k (slice_index y 0) (slice_index y 1) (slice_index y 2) ++ drop k y ≡ y) × (length (word k (slice_index y 0) (slice_index y 1) (slice_index y 2)) ≡ k)) (sym e) (one y (ap (λ k. list_all (λ c. not (c == 0)) (word k (slice_index y 0) (slice_index y 1) (slice_index y 2))) (sym e) ∙ h))
  where
    one : (y : List ℕ) → list_all (λ c. not (c == 0)) (word 1 (slice_index y 0) (slice_index y 1) (slice_index y 2)) ≡ true → (word 1 (slice_index y 0) (slice_index y 1) (slice_index y 2) ++ drop 1 y ≡ y) × (length (word 1 (slice_index y 0) (slice_index y 1) (slice_index y 2)) ≡ 1)
    one [] h = absurd (cc)
    one (c ∷ y) h = (refl, refl)
front-word y n (inr (inl e)) h = subst (λ k. (word k (slice_index y 0) (slice_index y 1) (slice_index y 2) ++ drop k y ≡ y) × (length (word k (slice_index y 0) (slice_index y 1) (slice_index y 2)) ≡ k)) (sym e) (two y (ap (λ k. list_all (λ c. not (c == 0)) (word k (slice_index y 0) (slice_index y 1) (slice_index y 2))) (sym e) ∙ h))
  where
    two : (y : List ℕ) → list_all (λ c. not (c == 0)) (word 2 (slice_index y 0) (slice_index y 1) (slice_index y 2)) ≡ true → (word 2 (slice_index y 0) (slice_index y 1) (slice_index y 2) ++ drop 2 y ≡ y) × (length (word 2 (slice_index y 0) (slice_index y 1) (slice_index y 2)) ≡ 2)
    two [] h = absurd (cc)
    two (c ∷ []) h = let both = and-both (not (c == 0)) (not (0 == 0) && true) h in absurd (cc)
    two (c ∷ d ∷ y) h = (refl, refl)
front-word y n (inr (inr e)) h = subst (λ k. (word k (slice_index y 0) (slice_index y 1) (slice_index y 2) ++ drop k y ≡ y) × (length (word k (slice_index y 0) (slice_index y 1) (slice_index y 2)) ≡ k)) (sym e) (three y (ap (λ k. list_all (λ c. not (c == 0)) (word k (slice_index y 0) (slice_index y 1) (slice_index y 2))) (sym e) ∙ h))
  where
    three : (y : List ℕ) → list_all (λ c. not (c == 0)) (word 3 (slice_index y 0) (slice_index y 1) (slice_index y 2)) ≡ true → (word 3 (slice_index y 0) (slice_index y 1) (slice_index y 2) ++ drop 3 y ≡ y) × (length (word 3 (slice_index y 0) (slice_index y 1) (slice_index y 2)) ≡ 3)
    three [] h = absurd (cc)
    three (c ∷ []) h = let both = and-both (not (c == 0)) (not (0 == 0) && (not (0 == 0) && true)) h in absurd (cc)
    three (c ∷ d ∷ []) h = let both = and-both (not (c == 0)) (not (d == 0) && (not (0 == 0) && true)) h in let more = and-both (not (d == 0)) (not (0 == 0) && true) both.1 in absurd (cc)
    three (c ∷ d ∷ e ∷ y) h = (refl, refl)

-- the spelling of an operator
abbrev spelling : Shape → List (Shape × List ℕ) → List ℕ
spelling s [] = []
spelling s (row ∷ rows) = if same_shape s row.0 then row.1 else spelling s rows

spelling-rows : EachRow (λ (row : Shape × List ℕ). row.1 ≡ spelling row.0 OPERATORS) OPERATORS
unfolding same_shape
spelling-rows = (refl, (refl, (refl, (refl, (refl, (refl, (refl, (refl, (refl, (refl, (refl, (refl, (refl, (refl, (refl, (refl, (refl, (refl, (refl, (refl, (refl, (refl, (refl, (refl, (refl, (refl, (refl, (refl, (refl, (refl, (refl, (refl, (refl, (refl, (refl, (refl, (refl, (refl, (refl, (refl, (refl, (refl, (refl, (refl, (refl, (refl, (refl, (refl, (refl, (refl, tt))))))))))))))))))))))))))))))))))))))))))))))))))

pub spelling-of : (s : Shape) (w : List ℕ) → Holds (s, w) OPERATORS → w ≡ spelling s OPERATORS
spelling-of s w h = at-row (λ (row : Shape × List ℕ). row.1 ≡ spelling row.0 OPERATORS) (s, w) OPERATORS spelling-rows h

question-word : (w : List ℕ) → Holds (shape.Question, w) OPERATORS → w ≡ 63 ∷ []
unfolding same_shape
question-word w h = spelling-of shape.Question w h

pub paren-word : (w : List ℕ) → Holds (shape.OpenParen, w) OPERATORS → w ≡ 40 ∷ []
unfolding same_shape
paren-word w h = spelling-of shape.OpenParen w h

method-quiet : EachRow (λ (row : Shape × List ℕ). (same_shape row.0 shape.Question ≡ false) × (same_shape row.0 shape.OpenParen ≡ false)) METHOD_OPERATORS
unfolding same_shape
method-quiet = ((refl, refl), ((refl, refl), ((refl, refl), ((refl, refl), tt))))

-- what is found where an operator may stand
pub record Found (past : List Shape) (y : List ℕ) (g : Sign) : Type 0 where
  pub row : IsNameRow (slice_index y 0) (slice_index y 1) (slice_index y 2) g
  pub method : (s : Shape) (n : ℕ) → g ≡ signs.Operator s n → Holds (s, word n (slice_index y 0) (slice_index y 1) (slice_index y 2)) METHOD_OPERATORS → names_method (before_of past) ≡ true
  pub operators : (t : Shape) (v more : List ℕ) → v ++ more ≡ y → Holds (t, v) OPERATORS → AtLeast (length v) g
  pub methods : (t : Shape) (v more : List ℕ) → v ++ more ≡ y → NamesMethod past → Holds (t, v) METHOD_OPERATORS → AtLeast (length v) g
  pub foreign : (v more : List ℕ) → v ++ more ≡ y → Holds v FOREIGN_OPERATORS → g ≡ signs.Foreign

is-row-name : (b next last : ℕ) (g : Sign) → IsRow b next last g → IsNameRow b next last g
is-row-name b next last (signs.Operator s n) h = (inl h.0, h.1)
is-row-name b next last signs.Foreign h = h
is-row-name b next last signs.Nothing h = h

method-none : EachRow (λ (row : Shape × List ℕ). (spelling row.0 OPERATORS ≡ []) × (0 < length row.1)) METHOD_OPERATORS
unfolding same_shape
method-none = ((refl, omega arith), ((refl, omega arith), ((refl, omega arith), ((refl, omega arith), tt))))

-- one spelling is not an operator and one as a method's name alone
no-method : (s : Shape) (w : List ℕ) → Holds (s, w) OPERATORS → Holds (s, w) METHOD_OPERATORS → ⊥
no-method s w h k =
    let p = at-row (λ (row : Shape × List ℕ). (spelling row.0 OPERATORS ≡ []) × (0 < length row.1)) (s, w) METHOD_OPERATORS method-none k in
    let none : length w ≡ 0 = ap length (spelling-of s w h ∙ p.0) in
    omega (arith, p.1)

found-of : (past : List Shape) (y : List ℕ) → Found past y (sign_at (before_of past) y)
unfolding sign_at
found-of past y =
    let a = slice_index y 0 in let b = slice_index y 1 in let c = slice_index y 2 in
    split (Found past y) (names_method (before_of past)) (method_name a b c) (operator a b c)
    (λ names. record {
      row = method_name-row a b c;
      method = λ s n e h. names;
      operators = λ t v more e h. subst (λ z. AtLeast (length v) (method_name (slice_index z 0) (slice_index z 1) (slice_index z 2))) e (name-longest t v more h);
      methods = λ t v more e n h. subst (λ z. AtLeast (length v) (method_name (slice_index z 0) (slice_index z 1) (slice_index z 2))) e (method-longest t v more h);
      foreign = λ v more e h. ap (λ z. method_name (slice_index z 0) (slice_index z 1) (slice_index z 2)) (sym e) ∙ foreign-name v more h;
    })
    (λ plain. record {
      row = is-row-name a b c (operator a b c) (operator-row a b c);
      method = λ s n e h. only s n e h (operator-row a b c);
      operators = λ t v more e h. subst (λ z. AtLeast (length v) (operator (slice_index z 0) (slice_index z 1) (slice_index z 2))) e (operator-longest t v more h);
      methods = λ t v more e n h. no-both (names_method (before_of past)) ((names-asked past).1 n) plain;
      foreign = λ v more e h. ap (λ z. operator (slice_index z 0) (slice_index z 1) (slice_index z 2)) (sym e) ∙ foreign-operator v more h;
    })
  where
    only : (s : Shape) (n : ℕ) → operator (slice_index y 0) (slice_index y 1) (slice_index y 2) ≡ signs.Operator s n → Holds (s, word n (slice_index y 0) (slice_index y 1) (slice_index y 2)) METHOD_OPERATORS → IsRow (slice_index y 0) (slice_index y 1) (slice_index y 2) (operator (slice_index y 0) (slice_index y 1) (slice_index y 2)) → names_method (before_of past) ≡ true
    only s n e h r = absurd (no-method s (word n (slice_index y 0) (slice_index y 1) (slice_index y 2)) ((subst (IsRow (slice_index y 0) (slice_index y 1) (slice_index y 2)) e r).0) h)

module _ (past : List Shape) (y : List ℕ) (own_kind : (t : Shape) (v os more : List ℕ) → v ++ more ≡ y → Spells past t v os more → SignLike past t v os more) where
  nothing-spelt : Found past y signs.Nothing → (s : Shape) (w words rest : List ℕ) → w ++ rest ≡ y → ¬ Spells past s w words rest
  nothing-spelt f s w words rest e sp = by s w words rest e (own_kind s w words rest e sp)
    where
      by : (s : Shape) (w words rest : List ℕ) → w ++ rest ≡ y → SignLike past s w words rest → ⊥
      by _ _ _ rest e (SignLike.Operator s w _ h) = f.operators s w rest e h
      by _ _ _ rest e (SignLike.Method s w _ names h) = f.methods s w rest e names h

  best-sign : (s : Shape) (n : ℕ) (w rest : List ℕ) → Found past y (signs.Operator s n) → w ++ rest ≡ y → length w ≡ n → (Holds (s, w) OPERATORS ⊎ Holds (s, w) METHOD_OPERATORS) → Spells past s w [] rest → Best past y s w [] rest
  best-sign s n w rest f whole len row sp =
      record {
        whole = whole;
        spells = sp;
        others = λ t v os more e h. others t v os more e (own_kind t v os more e h);
        own = λ v more e h. absurd (other (f.foreign v more e h));
      }
    where
      other : signs.Operator s n ≡ signs.Foreign → ⊥
      other e = absurd (cc)

      alike : (t : Shape) (v more : List ℕ) → v ++ more ≡ y → length v ≤ n → (Holds (t, v) OPERATORS ⊎ Holds (t, v) METHOD_OPERATORS) → (length v < length w) ⊎ (length v ≡ length w) → (length v < length w) ⊎ IsSame s w [] t v []
      alike t v more e most h (inl l) = inl l
      alike t v more e most h (inr l) =
          let same = front-same v more w rest (e ∙ sym whole) l in
          inr (one-shape t s w (subst (λ z. Holds (t, z) OPERATORS ⊎ Holds (t, z) METHOD_OPERATORS) same h) row, same, refl)

      others : (t : Shape) (v os more : List ℕ) → v ++ more ≡ y → SignLike past t v os more → (length v < length w) ⊎ IsSame s w [] t v os
      others _ _ _ more e (SignLike.Operator t v _ h) = let most = f.operators t v more e h in alike t v more e most (inl h) (below-or (length v) (length w) (omega arith))
      others _ _ _ more e (SignLike.Method t v _ names h) = let most = f.methods t v more e names h in alike t v more e most (inr h) (below-or (length v) (length w) (omega arith))

-- ---- an operator that breaks a rule

four-or : (a b c d : Bool) → (a || b || c || d) ≡ true → (a ≡ true) ⊎ (b ≡ true) ⊎ (c ≡ true) ⊎ (d ≡ true)
four-or true b c d h = inl refl
four-or false true c d h = inr (inl refl)
four-or false false true d h = inr (inr (inl refl))
four-or false false false true h = inr (inr (inr refl))
four-or false false false false h = absurd (cc)

three-and : (a b c : Bool) → (a && b && c) ≡ true → (a ≡ true) × (b ≡ true) × (c ≡ true)
three-and true true true h = (refl, refl, refl)
three-and true true false h = absurd (cc)
three-and true false c h = absurd (cc)
three-and false b c h = absurd (cc)

four-and : (a b c d : Bool) → (a && b && c && d) ≡ true → (a ≡ true) × (b ≡ true) × (c ≡ true) × (d ≡ true)
four-and true true true true h = (refl, refl, refl, refl)
four-and true true true false h = absurd (cc)
four-and true true false d h = absurd (cc)
four-and true false c d h = absurd (cc)
four-and false b c d h = absurd (cc)

abbrev pub STRANGE : List Shape
STRANGE = shape.Slash ∷ shape.Percent ∷ shape.Star ∷ shape.Power ∷ shape.ShiftLeft ∷ []

pub strange-held : (s : Shape) → is_strange_opening s ≡ true → Holds s STRANGE
strange-held s h = held-holds s STRANGE (same (same_shape s shape.Slash) (same_shape s shape.Percent) (same_shape s shape.Star) (same_shape s shape.Power) (same_shape s shape.ShiftLeft) ∙ h)
  where
    same : (a b c d e : Bool) → (a || (b || (c || (d || (e || false))))) ≡ (a || b || c || d || e)
    same true b c d e = refl
    same false true c d e = refl
    same false false true d e = refl
    same false false false true e = refl
    same false false false false true = refl
    same false false false false false = refl

here-begins : (r : List ℕ) → begins_here_document r ≡ true → Begins 126 r ⊎ Begins 45 r ⊎ Begins 39 r ⊎ Begins 34 r
here-begins r h = by (four-or (slice_index r 0 == 126) (slice_index r 0 == 45) (slice_index r 0 == 39) (slice_index r 0 == 34) h)
  where
    by : ((slice_index r 0 == 126) ≡ true) ⊎ ((slice_index r 0 == 45) ≡ true) ⊎ ((slice_index r 0 == 39) ≡ true) ⊎ ((slice_index r 0 == 34) ≡ true) → Begins 126 r ⊎ Begins 45 r ⊎ Begins 39 r ⊎ Begins 34 r
    by (inl e) = inl (begins-is 126 r (omega arith) e)
    by (inr (inl e)) = inr (inl (begins-is 45 r (omega arith) e))
    by (inr (inr (inl e))) = inr (inr (inl (begins-is 39 r (omega arith) e)))
    by (inr (inr (inr e))) = inr (inr (inr (begins-is 34 r (omega arith) e)))

module _ (past : List Shape) (look : Look) (is : look.before ≡ before_of past) where
  end-not : is_operand_end look.before ≡ false → ¬ IsOperandEnd past
  end-not h e = no-both (is_operand_end (before_of past)) ((ends-asked past).1 e) (ap is_operand_end (sym is) ∙ h)

  strange-outside : (s : Shape) (w rest : List ℕ) → IsLongest past s w [] rest → (is_strange_opening s && not (is_operand_end look.before) && not (names_method look.before)) ≡ true → IsForeign past look.is_blank look.is_fresh (w ++ rest)
  strange-outside s w rest l h =
      let all = three-and (is_strange_opening s) (not (is_operand_end look.before)) (not (names_method look.before)) h in
      IsForeign.Opening s w rest l (strange-held s all.0) (end-not (not-true (is_operand_end look.before) all.1)) (λ n. no-both (names_method (before_of past)) ((names-asked past).1 n) (ap names_method (sym is) ∙ not-true (names_method look.before) all.2))

  here-outside : (s : Shape) (w rest : List ℕ) → IsLongest past s w [] rest → (same_shape s shape.ShiftLeft && is_operand_end look.before && look.is_blank && begins_here_document rest) ≡ true → IsForeign past look.is_blank look.is_fresh (w ++ rest)
  here-outside s w rest l h =
      let all = four-and (same_shape s shape.ShiftLeft) (is_operand_end look.before) look.is_blank (begins_here_document rest) h in
      IsForeign.HereDocument w rest (subst (λ t. IsLongest past t w [] rest) (same-is s shape.ShiftLeft all.0) l) ((ends-asked past).0 (ap is_operand_end (sym is) ∙ all.1)) all.2 (here-begins rest all.3)

  question-outside : (s : Shape) (w rest : List ℕ) → Holds (s, w) OPERATORS → (same_shape s shape.Question && (not (is_operand_end look.before) || not (is_spaced rest))) ≡ true → IsForeign past look.is_blank look.is_fresh (w ++ rest)
  question-outside s w rest row h =
      let both = and-both (same_shape s shape.Question) (not (is_operand_end look.before) || not (is_spaced rest)) h in
      let front : w ≡ 63 ∷ [] = question-word w (subst (λ t. Holds (t, w) OPERATORS) (same-is s shape.Question both.0) row) in
      subst (λ z. IsForeign past look.is_blank look.is_fresh (z ++ rest)) (sym front) (by (or-either (not (is_operand_end look.before)) (not (is_spaced rest)) both.1))
    where
      by : (not (is_operand_end look.before) ≡ true) ⊎ (not (is_spaced rest) ≡ true) → IsForeign past look.is_blank look.is_fresh (63 ∷ rest)
      by (inl e) = IsForeign.QuestionAtOperand rest (end-not (not-true (is_operand_end look.before) e))
      by (inr e) = IsForeign.QuestionTouched rest (spaced-not rest (not-true (is_spaced rest) e))

  paren-outside : (s : Shape) (w rest : List ℕ) → Holds (s, w) OPERATORS → (same_shape s shape.OpenParen && is_constant look.before && not look.is_blank) ≡ true → IsForeign past look.is_blank look.is_fresh (w ++ rest)
  paren-outside s w rest row h =
      let all = three-and (same_shape s shape.OpenParen) (is_constant look.before) (not look.is_blank) h in
      let front : w ≡ 40 ∷ [] = paren-word w (subst (λ t. Holds (t, w) OPERATORS) (same-is s shape.OpenParen all.0) row) in
      subst (λ z. IsForeign past look.is_blank look.is_fresh (z ++ rest)) (sym front) (IsForeign.ParenAfterConstant rest ((constant-asked past).0 (ap is_constant (sym is) ∙ all.1)) (not-true look.is_blank all.2))

  method-outside : {X : Type 0} (s : Shape) (w : List ℕ) → (same_shape s shape.Question ≡ true) ⊎ (same_shape s shape.OpenParen ≡ true) → Holds (s, w) METHOD_OPERATORS → X
  method-outside s w h row = by h (at-row (λ (r : Shape × List ℕ). (same_shape r.0 shape.Question ≡ false) × (same_shape r.0 shape.OpenParen ≡ false)) (s, w) METHOD_OPERATORS method-quiet row)
    where
      by : {X : Type 0} → (same_shape s shape.Question ≡ true) ⊎ (same_shape s shape.OpenParen ≡ true) → (same_shape s shape.Question ≡ false) × (same_shape s shape.OpenParen ≡ false) → X
      by (inl e) q = no-both (same_shape s shape.Question) e q.0
      by (inr e) q = no-both (same_shape s shape.OpenParen) e q.1

  sign-outside : (s : Shape) (w rest : List ℕ) → IsLongest past s w [] rest → (Holds (s, w) OPERATORS ⊎ Holds (s, w) METHOD_OPERATORS) → is_outside look s rest ≡ true → IsForeign past look.is_blank look.is_fresh (w ++ rest)
  sign-outside s w rest l row h =
      by row (four-or (is_strange_opening s && not (is_operand_end look.before) && not (names_method look.before)) (same_shape s shape.ShiftLeft && is_operand_end look.before && look.is_blank && begins_here_document rest) (same_shape s shape.Question && (not (is_operand_end look.before) || not (is_spaced rest))) (same_shape s shape.OpenParen && is_constant look.before && not look.is_blank) h)
    where
      by : (Holds (s, w) OPERATORS ⊎ Holds (s, w) METHOD_OPERATORS) → ((is_strange_opening s && not (is_operand_end look.before) && not (names_method look.before)) ≡ true) ⊎ ((same_shape s shape.ShiftLeft && is_operand_end look.before && look.is_blank && begins_here_document rest) ≡ true) ⊎ ((same_shape s shape.Question && (not (is_operand_end look.before) || not (is_spaced rest))) ≡ true) ⊎ ((same_shape s shape.OpenParen && is_constant look.before && not look.is_blank) ≡ true) → IsForeign past look.is_blank look.is_fresh (w ++ rest)
      by row (inl e) = strange-outside s w rest l e
      by row (inr (inl e)) = here-outside s w rest l e
      by (inl op) (inr (inr (inl e))) = question-outside s w rest op e
      by (inr m) (inr (inr (inl e))) = method-outside s w (inl (and-both (same_shape s shape.Question) (not (is_operand_end look.before) || not (is_spaced rest)) e).0) m
      by (inl op) (inr (inr (inr e))) = paren-outside s w rest op e
      by (inr m) (inr (inr (inr e))) = method-outside s w (inr (three-and (same_shape s shape.OpenParen) (is_constant look.before) (not look.is_blank) e).0) m

  operator-token : (y : List ℕ) (s : Shape) (n : ℕ) (w rest : List ℕ) → Best past y s w [] rest → n ≡ length w → (Holds (s, w) OPERATORS ⊎ (names_method (before_of past) ≡ true) × Holds (s, w) METHOD_OPERATORS) → is_outside look s rest ≡ false → is_bad look s rest ≡ false → ((Holds s NUMBERS → ⊥)) → Shown past look y (token s n (after_operator look.before s) (is_closing s || names_method look.before))
  operator-token y s n w rest b len row inside good plain =
      subst (λ k. Shown past look y (token s n (after_operator k s) (is_closing s || names_method k))) (sym is) (by row)
    where
      passes : Passes look s w rest
      passes = record { inside = inside; good = good; apart = λ h. absurd (plain h); small = λ e. absurd (plain (inl e)) }

      by : (Holds (s, w) OPERATORS ⊎ (names_method (before_of past) ≡ true) × Holds (s, w) METHOD_OPERATORS) → Shown past look y (token s n (after_operator (before_of past) s) (is_closing s || names_method (before_of past)))
      by (inl op) = Shown.Token _ w [] rest b len (operators-mute s w (words_of s n y) op) (operator-says past s w n op) passes
      by (inr m) = Shown.Token _ w [] rest b len (methods-mute s w (words_of s n y) m.1) (method-says past s w n m.0 m.1) passes

abbrev IsPlain : Shape × List ℕ → Type 0
IsPlain row = held row.0 NUMBERS ≡ false

plain-operators : EachRow IsPlain OPERATORS
unfolding same_shape
plain-operators = (refl, (refl, (refl, (refl, (refl, (refl, (refl, (refl, (refl, (refl, (refl, (refl, (refl, (refl, (refl, (refl, (refl, (refl, (refl, (refl, (refl, (refl, (refl, (refl, (refl, (refl, (refl, (refl, (refl, (refl, (refl, (refl, (refl, (refl, (refl, (refl, (refl, (refl, (refl, (refl, (refl, (refl, (refl, (refl, (refl, (refl, (refl, (refl, (refl, (refl, tt))))))))))))))))))))))))))))))))))))))))))))))))))

plain-methods : EachRow IsPlain METHOD_OPERATORS
unfolding same_shape
plain-methods = (refl, (refl, (refl, (refl, tt))))

plain-row : (s : Shape) (w : List ℕ) → (Holds (s, w) OPERATORS ⊎ Holds (s, w) METHOD_OPERATORS) → Holds s NUMBERS → ⊥
plain-row s w (inl h) n = no-both (held s NUMBERS) (holds-held s NUMBERS n) (at-row IsPlain (s, w) OPERATORS plain-operators h)
plain-row s w (inr h) n = no-both (held s NUMBERS) (holds-held s NUMBERS n) (at-row IsPlain (s, w) METHOD_OPERATORS plain-methods h)

module _ (past : List Shape) (look : Look) (y : List ℕ) (is : look.before ≡ before_of past) (own_kind : (t : Shape) (v os more : List ℕ) → v ++ more ≡ y → Spells past t v os more → SignLike past t v os more) where
  shown-judged : (s : Shape) (n : ℕ) (w : List ℕ) → Found past y (signs.Operator s n) → w ++ drop n y ≡ y → length w ≡ n → (Holds (s, w) OPERATORS ⊎ (names_method (before_of past) ≡ true) × Holds (s, w) METHOD_OPERATORS) → Shown past look y (judged look s n (drop n y))
  unfolding judged
  shown-judged s n w f whole len row =
      let rest = drop n y in
      let b = best-sign past y own_kind s n w rest f whole len (some row) (spelt row) in
      split (Shown past look y) (is_outside look s rest) cuts.Outside _
      (λ e. Shown.Alien (subst (IsForeign past look.is_blank look.is_fresh) whole (sign-outside past look is s w rest (longest-of past y s w [] rest b) (some row) e)))
      (λ e. split (Shown past look y) (is_bad look s rest) cuts.Bad _
      (λ k. Shown.Refused s w rest (some row) b e k)
      (λ k. operator-token past look is y s n w rest b (sym len) row e k (plain-row s w (some row))))
    where
      some : (Holds (s, w) OPERATORS ⊎ (names_method (before_of past) ≡ true) × Holds (s, w) METHOD_OPERATORS) → Holds (s, w) OPERATORS ⊎ Holds (s, w) METHOD_OPERATORS
      some (inl op) = inl op
      some (inr m) = inr m.1

      spelt : (Holds (s, w) OPERATORS ⊎ (names_method (before_of past) ≡ true) × Holds (s, w) METHOD_OPERATORS) → Spells past s w [] (drop n y)
      spelt (inl op) = Spells.Operator s w (drop n y) op
      spelt (inr m) = Spells.MethodOperator s w (drop n y) ((names-asked past).0 m.0) m.1

  shown-found : (g : Sign) → Found past y g → Shown past look y (elim g [ signs.Nothing ↦ cuts.Bad | signs.Foreign ↦ cuts.Outside | signs.Operator s len ↦ judged look s len (drop len y) ])
  shown-found signs.Nothing f = Shown.Nothing (nothing-spelt past y own_kind f)
  shown-found signs.Foreign f =
      let w = slice_index y 0 ∷ slice_index y 1 ∷ [] in
      let front = front-word y 2 (inr (inl refl)) (at-row (λ (v : List ℕ). list_all (λ c. not (c == 0)) v ≡ true) w FOREIGN_OPERATORS nonzero-foreign f.row) in
      Shown.Alien (subst (IsForeign past look.is_blank look.is_fresh) front.0 (IsForeign.ForeignOperator w (drop 2 y) f.row))
  shown-found (signs.Operator s n) f =
      let w = word n (slice_index y 0) (slice_index y 1) (slice_index y 2) in
      let front = front-word y n f.row.1 (nonzero f.row.0) in
      shown-judged s n w f front.0 front.1 (named f.row.0)
    where
      nonzero : (Holds (s, word n (slice_index y 0) (slice_index y 1) (slice_index y 2)) OPERATORS ⊎ Holds (s, word n (slice_index y 0) (slice_index y 1) (slice_index y 2)) METHOD_OPERATORS) → list_all (λ c. not (c == 0)) (word n (slice_index y 0) (slice_index y 1) (slice_index y 2)) ≡ true
      nonzero (inl h) = at-row IsNonzero (s, word n (slice_index y 0) (slice_index y 1) (slice_index y 2)) OPERATORS nonzero-rows h
      nonzero (inr h) = at-row IsNonzero (s, word n (slice_index y 0) (slice_index y 1) (slice_index y 2)) METHOD_OPERATORS nonzero-methods h

      named : (Holds (s, word n (slice_index y 0) (slice_index y 1) (slice_index y 2)) OPERATORS ⊎ Holds (s, word n (slice_index y 0) (slice_index y 1) (slice_index y 2)) METHOD_OPERATORS) → (Holds (s, word n (slice_index y 0) (slice_index y 1) (slice_index y 2)) OPERATORS ⊎ (names_method (before_of past) ≡ true) × Holds (s, word n (slice_index y 0) (slice_index y 1) (slice_index y 2)) METHOD_OPERATORS)
      named (inl h) = inl h
      named (inr h) = inr (f.method s n refl h, h)

  pub shown-sign : Shown past look y (sign look y)
  unfolding sign
  shown-sign =
      subst (λ b. Shown past look y (elim (sign_at b y) [ signs.Nothing ↦ cuts.Bad | signs.Foreign ↦ cuts.Outside | signs.Operator s len ↦ judged look s len (drop len y) ])) (sym is) (shown-found (sign_at (before_of past) y) (found-of past y))

-- ---- symbols

symbol-first : (u : List ℕ) → (symbol_len u == 0) ≡ false → (slice_index u 0 == 58) ≡ false
symbol-first u some = false-of (slice_index u 0 == 58) (λ e. eq-not (symbol_len u) 0 some (colons (eq-is (slice_index u 0) 58 e)))
  where
    colons : slice_index u 0 ≡ 58 → symbol_len u ≡ 0
    colons e = no-symbol u (ap is_upper e) (ap begins_name e)

colon-one : (k n l : ℕ) → (n == 58) ≡ false → AtLeast k (operator 58 n l) → k ≤ 1
unfolding operator
colon-one k n l free h = subst (λ t. AtLeast k (if t then found shape.Scope 2 else found shape.Colon 1)) free h

colon-like : (past : List Shape) (u : List ℕ) (t : Shape) (v os more : List ℕ) → v ++ more ≡ 58 ∷ u → Spells past t v os more → ColonLike t v os more
colon-like past u t v os more e sp = of-kind past t v os more 58 u Kind.Colon sp e refl

symbol-others : (u name rest : List ℕ) → name ++ rest ≡ u → symbol_len u ≡ length name → (symbol_len u == 0) ≡ false → (t : Shape) (v os more : List ℕ) → v ++ more ≡ 58 ∷ u → ColonLike t v os more → (length v < length (58 ∷ name)) ⊎ IsSame shape.Symbol (58 ∷ name) name t v os
symbol-others u name rest whole len some _ _ _ more e (ColonLike.Symbol v _ h) =
    let inner : v ++ more ≡ u = tail-same 58 58 (v ++ more) u e in
    let most = symbol-most v more h in
    let same = ap symbol_len inner in
    by inner (below-or (length v) (length name) (omega arith))
  where
    by : v ++ more ≡ u → (length v < length name) ⊎ (length v ≡ length name) → (length (58 ∷ v) < length (58 ∷ name)) ⊎ IsSame shape.Symbol (58 ∷ name) name shape.Symbol (58 ∷ v) v
    by inner (inl l) = inl (omega arith)
    by inner (inr l) = let same = front-same v more name rest (inner ∙ sym whole) l in inr (refl, ap (λ z. 58 ∷ z) same, same)
symbol-others u name rest whole len some _ _ _ more e (ColonLike.Operator s v _ h) =
    let most = colon-one (length v) (slice_index (58 ∷ u) 1) (slice_index (58 ∷ u) 2) (ap (λ c. c == 58) (sym (tail-at (58 ∷ u))) ∙ symbol-first u some) (subst (λ z. AtLeast (length v) (operator (slice_index z 0) (slice_index z 1) (slice_index z 2))) e (operator-longest s v more h)) in
    let n : symbol_len u ≢ 0 = eq-not (symbol_len u) 0 some in
    inl (omega arith)

symbol-words : (w rest : List ℕ) → kind_of shape.Symbol (words_of shape.Symbol (1 + length w) (58 ∷ (w ++ rest))) ≡ kind_of shape.Symbol w
unfolding same_shape
symbol-words w rest = let n : 1 + length w ≡ suc (length w) = omega arith in ap (λ k. kind_of shape.Symbol (drop 1 (take k (58 ∷ (w ++ rest))))) n ∙ ap (kind_of shape.Symbol) (take-front w rest)

shown-symbol : (past : List Shape) (look : Look) (u : List ℕ) → (symbol_len u == 0) ≡ false → Shown past look (58 ∷ u) (token shape.Symbol (1 + symbol_len u) before.Operand true)
unfolding same_shape
shown-symbol past look u some =
    let m = symbol-of u some in
    let n : 1 + symbol_len u ≡ 1 + length m.name = ap (λ k. 1 + k) m.len in
    let size : 1 + length m.name ≡ suc (length m.name) = omega arith in
    Shown.Token _ (58 ∷ m.name) m.name m.rest
    (record {
      whole = ap (λ z. 58 ∷ z) m.whole;
      spells = Spells.Symbol m.name m.rest m.is;
      others = λ t v os more e sp. symbol-others u m.name m.rest m.whole m.len some t v os more e (colon-like past u t v os more e sp);
      own = λ v more e held. no-foreign v more 58 u Kind.Colon held e refl (λ k. absurd (cc));
    })
    (n ∙ size)
    (ap (λ k. kind_of shape.Symbol (words_of shape.Symbol k (58 ∷ u))) n ∙ ap (λ z. kind_of shape.Symbol (words_of shape.Symbol (1 + length m.name) (58 ∷ z))) (sym m.whole) ∙ symbol-words m.name m.rest)
    (record { before_is = refl; keeps_is = λ bars. refl }) (quiet-passes look shape.Symbol (58 ∷ m.name) m.rest (record { judged = refl; number = refl }))

colon-sign : (past : List Shape) (u : List ℕ) → (symbol_len u == 0) ≡ true → (t : Shape) (v os more : List ℕ) → v ++ more ≡ 58 ∷ u → Spells past t v os more → SignLike past t v os more
colon-sign past u none t v os more e sp = by t v os more e (colon-like past u t v os more e sp)
  where
    by : (t : Shape) (v os more : List ℕ) → v ++ more ≡ 58 ∷ u → ColonLike t v os more → SignLike past t v os more
    by _ _ _ more e (ColonLike.Symbol v _ h) =
        let inner : v ++ more ≡ u = tail-same 58 58 (v ++ more) u e in
        let most = symbol-most v more h in let some = symbol-some v more h in
        let same = ap symbol_len inner ∙ eq-is (symbol_len u) 0 none in
        absurd (omega arith)
    by _ _ _ more e (ColonLike.Operator s v _ h) = SignLike.Operator s v more h

letter-none : (c : ℕ) → is_upper c ≡ false → begins_name c ≡ false → (is_letter c ≡ false) × (c ≢ 95)
letter-none c h k = (grind (arith, nat_tests, common_steps), λ e. no-both (begins_name c) (ap begins_name e) k)

colon-touched : (past : List Shape) (look : Look) (u : List ℕ) → (symbol_len u == 0) ≡ true → (slice_index (58 ∷ u) 1 == 58 || is_spaced u) ≡ false → IsForeign past look.is_blank look.is_fresh (58 ∷ u)
colon-touched past look [] none h = absurd (cc)
colon-touched past look (c ∷ u) none h =
    let p = or-neither (c == 58) (is_spaced (c ∷ u)) h in
    let l = letter-none c upper lower in
    IsForeign.ColonTouched c u l.0 l.1 (eq-not c 58 p.0) (spaced-not (c ∷ u) p.1)
  where
    upper : is_upper c ≡ false
    upper = false-of (is_upper c) (λ e. let size = upper-symbol (c ∷ u) e in let most = constants-longest (c ∷ []) u (e, refl) in let z = eq-is (symbol_len (c ∷ u)) 0 none in absurd (omega arith))

    lower : begins_name c ≡ false
    lower = false-of (begins_name c) (λ e. let size = identifier-symbol (c ∷ u) e in let most = identifiers-longest (c ∷ []) u (IsIdentifier.Plain (c ∷ []) u (e, refl)) in let z = eq-is (symbol_len (c ∷ u)) 0 none in absurd (omega arith))

pub shown-colon : (past : List Shape) (look : Look) (u : List ℕ) → look.before ≡ before_of past → Shown past look (58 ∷ u) (colon look (58 ∷ u))
unfolding colon
shown-colon past look u is =
    split (Shown past look (58 ∷ u)) (not (symbol_len u == 0)) (token shape.Symbol (1 + symbol_len u) before.Operand true) _
    (λ e. shown-symbol past look u (not-true (symbol_len u == 0) e))
    (λ e. let none = not-false (symbol_len u == 0) e in
    split (Shown past look (58 ∷ u)) (slice_index (58 ∷ u) 1 == 58 || is_spaced u) (sign look (58 ∷ u)) cuts.Outside
    (λ t. shown-sign past look (58 ∷ u) is (colon-sign past u none))
    (λ t. Shown.Alien (colon-touched past look u none t)))
