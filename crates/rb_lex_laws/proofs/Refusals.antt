-- Where a rule is broken, the step refuses, and it refuses as the rule says.
use Rattle.std.proofs.Common.{◌≡◌, ◌≢◌, ℕ, ◌+◌, ◌<◌, ◌≤◌, ◌⊎◌, Bool, true, false, not, nat_le, ◌==◌, ◌&&◌, ◌||◌, if◌then◌else◌, List, [], ◌∷◌, ◌++◌, length, take, drop, inl, inr, refl, sym, ap, subst, ◌∙◌, append_assoc, codes, arith}
use Rattle.std.specs.Prelude.{slice_index}
use Rattle.std.specs.List.{list_all}
use Rattle.std.proofs.lemmas.Grind.{common_steps}
use Rattle.std.proofs.lemmas.Bool.Decides.{nat_tests}
use Rattle.rb_tree.specs.Tokens.{same_shape}
use Rattle.rb_tree.specs.declared.token.Shape.{Shape}
use Rattle.rb_tree.specs.declared.token.Shape.TheVariants as shape
use Rattle.rb_lex.specs.Chars.{is_in, run_len, begins_name, is_upper, is_letter, is_spaced}
use Rattle.rb_lex.specs.Words.{word_of, identifier_len, is_labelled, symbol_len}
use Rattle.rb_lex.specs.Numbers.{spelling_of, is_foreign, fits, digits_in}
use Rattle.rb_lex.specs.Operators.{operator, method_name}
use Rattle.rb_lex.specs.Cuts.{names_method, is_operand_end, is_constant, is_after_dot, is_strange_opening, begins_here_document, is_outside, is_bad, token, keyword, label, number, variable, judged, sign_at, sign, colon, name, constant, mark, cut_of, ends_program}
use Rattle.rb_lex.specs.declared.operator.Sign.{Sign}
use Rattle.rb_lex.specs.declared.operator.Sign.TheVariants as signs
use Rattle.rb_lex.specs.declared.chars.Set.TheVariants as set
use Rattle.rb_lex.specs.declared.cut.Before.{Before}
use Rattle.rb_lex.specs.declared.cut.Before.TheVariants as before
use Rattle.rb_lex.specs.declared.cut.Look.{Look}
use Rattle.rb_lex.specs.declared.cut.Cut.{Cut}
use Rattle.rb_lex.specs.declared.cut.Cut.TheVariants as cuts
use Rattle.rb_lex.specs.declared.word.Word.{Word}
use Rattle.rb_lex.specs.declared.word.Word.TheVariants as word
use Rattle.rb_rules.specs.Spellings.{Begins, Holds, IsNamed, IsIdentifier, IsConstant, OPERATORS, METHOD_OPERATORS, FOREIGN_WORDS, FOREIGN_OPERATORS}
use Rattle.rb_rules.specs.Before.{NamesMethod, IsOperandEnd, IsAfterConstant, IsAfterDot}
use Rattle.rb_rules.specs.Lexes.{Spells, IsLongest, IsSpaced, EndsLine, IsWholeName, IsForeign, IsWrong}
use Rattle.rb_lex_laws.proofs.Lists.{if-true, if-false, not-true, both-and, left-or, right-or, not-of, no-both, eq-is, not-eq, take-front, false-of, begins-is, is-begins, on-begins}
use Rattle.rb_lex_laws.proofs.Best.{best-same}
use Rattle.rb_lex_laws.proofs.Blanks.{blank_here, blank-of, is-line, not-spaced}
use Rattle.rb_lex_laws.proofs.Longest.{identifiers-longest, constants-longest}
use Rattle.rb_lex_laws.proofs.Marks.{no-symbol, STRANGE}
use Rattle.rb_lex_laws.proofs.Past.{before_of, names-asked, ends-asked, constant-asked, dot-asked, held, is-same}
use Rattle.rb_lex_laws.proofs.Places.{Other, rest_cut, cut-ends, cut-goes, shown-cut}
use Rattle.rb_lex_laws.proofs.Rows.{EachRow, at-row, each-by}
use Rattle.rb_lex_laws.proofs.Runs.{name-of, labelled-front, run-of, constant-of}
use Rattle.rb_lex_laws.proofs.Shown.{Shown, Passes, NUMBERS, quiet-good}
use Rattle.rb_lex_laws.proofs.Signs.{foreign-operator, foreign-name}
use Rattle.rb_lex_laws.proofs.Sorts.{Kind, kind, First, upper-lower, identifier-first, constant-first, whole-first, float-first}
use Rattle.rb_lex_laws.proofs.Words.{foreign-known}

-- ---- operators that are judged

judged-outside : (look : Look) (s : Shape) (n : ℕ) (rest : List ℕ) → is_outside look s rest ≡ true → judged look s n rest ≡ cuts.Outside
unfolding judged
judged-outside look s n rest h = if-true (is_outside look s rest) cuts.Outside _ h

last-or : (a b c d : Bool) → d ≡ true → (a || b || c || d) ≡ true
last-or true b c d h = refl
last-or false true c d h = refl
last-or false false true d h = refl
last-or false false false d h = h

third-or : (a b c d : Bool) → c ≡ true → (a || b || c || d) ≡ true
third-or true b c d h = refl
third-or false true c d h = refl
third-or false false true d h = refl
third-or false false false d h = absurd (cc)

first-or : (a b c d : Bool) → a ≡ true → (a || b || c || d) ≡ true
first-or true b c d h = refl
first-or false b c d h = absurd (cc)

second-or : (a b c d : Bool) → b ≡ true → (a || b || c || d) ≡ true
second-or true b c d h = refl
second-or false true c d h = refl
second-or false false c d h = absurd (cc)

all-three : (a b c : Bool) → a ≡ true → b ≡ true → c ≡ true → (a && b && c) ≡ true
all-three true true c e f g = g
all-three true false c e f g = absurd (cc)
all-three false b c e f g = absurd (cc)

all-four : (a b c d : Bool) → a ≡ true → b ≡ true → c ≡ true → d ≡ true → (a && b && c && d) ≡ true
all-four true true true d e f g h = h
all-four true true false d e f g h = absurd (cc)
all-four true false c d e f g h = absurd (cc)
all-four false b c d e f g h = absurd (cc)

sign-question : (look : Look) (rest : List ℕ) → sign look (63 ∷ rest) ≡ judged look shape.Question 1 rest
unfolding sign sign_at operator method_name
sign-question look rest = by (names_method look.before)
  where
    by : (t : Bool) → (elim (if t then signs.Operator shape.Question 1 else signs.Operator shape.Question 1) [ signs.Nothing ↦ cuts.Bad | signs.Foreign ↦ cuts.Outside | signs.Operator s len ↦ judged look s len (drop len (63 ∷ rest)) ]) ≡ judged look shape.Question 1 rest
    by true = refl
    by false = refl

sign-paren : (look : Look) (rest : List ℕ) → sign look (40 ∷ rest) ≡ judged look shape.OpenParen 1 rest
unfolding sign sign_at operator method_name
sign-paren look rest = by (names_method look.before)
  where
    by : (t : Bool) → (elim (if t then signs.Operator shape.OpenParen 1 else signs.Operator shape.OpenParen 1) [ signs.Nothing ↦ cuts.Bad | signs.Foreign ↦ cuts.Outside | signs.Operator s len ↦ judged look s len (drop len (40 ∷ rest)) ]) ≡ judged look shape.OpenParen 1 rest
    by true = refl
    by false = refl

sign-foreign : (look : Look) (w rest : List ℕ) → Holds w FOREIGN_OPERATORS → sign look (w ++ rest) ≡ cuts.Outside
unfolding sign sign_at
sign-foreign look w rest h =
    let z = w ++ rest in
    let a = slice_index z 0 in let b = slice_index z 1 in let c = slice_index z 2 in
    ap (λ (g : Sign). elim g [ signs.Nothing ↦ cuts.Bad | signs.Foreign ↦ cuts.Outside | signs.Operator s len ↦ judged look s len (drop len z) ])
    (by (names_method look.before) (method_name a b c) (operator a b c) (foreign-name w rest h) (foreign-operator w rest h))
  where
    by : (t : Bool) (x y : Sign) → x ≡ signs.Foreign → y ≡ signs.Foreign → (if t then x else y) ≡ signs.Foreign
    by true x y e f = e
    by false x y e f = f

-- ---- where the program goes on

abbrev AtSign : List ℕ → Type 0
AtSign w = (look : Look) (rest : List ℕ) → rest_cut look (w ++ rest) ≡ sign look (w ++ rest)

foreign-rest : EachRow AtSign FOREIGN_OPERATORS
unfolding mark
foreign-rest = ((λ look rest. refl), ((λ look rest. refl), ((λ look rest. refl), ((λ look rest. refl), ((λ look rest. refl), tt)))))

question-rest : (look : Look) (rest : List ℕ) → rest_cut look (63 ∷ rest) ≡ sign look (63 ∷ rest)
unfolding mark
question-rest look rest = refl

paren-rest : (look : Look) (rest : List ℕ) → rest_cut look (40 ∷ rest) ≡ sign look (40 ∷ rest)
unfolding mark
paren-rest look rest = refl

variable-rest : (look : Look) (rest : List ℕ) → rest_cut look (64 ∷ 64 ∷ rest) ≡ cuts.Outside
unfolding mark variable
variable-rest look rest = refl

global-rest : (look : Look) (rest : List ℕ) → rest_cut look (36 ∷ rest) ≡ cuts.Outside
unfolding mark
global-rest look rest = refl

backtick-rest : (look : Look) (rest : List ℕ) → rest_cut look (96 ∷ rest) ≡ cuts.Outside
unfolding mark
backtick-rest look rest = refl

wide-lower : (c : ℕ) → 128 ≤ c → begins_name c ≡ false
wide-lower c h = grind (arith, nat_tests, common_steps)

wide-upper : (c : ℕ) → 128 ≤ c → is_upper c ≡ false
wide-upper c h = grind (arith, nat_tests, common_steps)

wide-digit : (c : ℕ) → 128 ≤ c → is_in set.Decimal c ≡ false
wide-digit c h = grind (arith, nat_tests, common_steps)

wide-not : (c k : ℕ) → 128 ≤ c → k < 128 → (c == k) ≡ false
wide-not c k h l = grind (arith, nat_tests)

wide-high : (c : ℕ) → 128 ≤ c → nat_le 128 c ≡ true
wide-high c h = grind (arith, nat_tests)

wide-mark : (look : Look) (c : ℕ) (rest : List ℕ) → 128 ≤ c → mark look (c ∷ rest) ≡ cuts.Outside
unfolding mark
wide-mark look c rest h =
    if-false (c == 34 || c == 39) cuts.Quote _ (ap (λ t. t || c == 39) (wide-not c 34 h (omega arith)) ∙ wide-not c 39 h (omega arith))
    ∙ if-false (c == 58) (colon look (c ∷ rest)) _ (wide-not c 58 h (omega arith))
    ∙ if-false (c == 64) (variable (c ∷ rest)) _ (wide-not c 64 h (omega arith))
    ∙ if-false (c == 59) (token shape.Separator 1 before.Plain true) _ (wide-not c 59 h (omega arith))
    ∙ if-false (c == 35) _ _ (wide-not c 35 h (omega arith))
    ∙ if-true (c == 36 || c == 96 || nat_le 128 c) cuts.Outside (sign look (c ∷ rest)) (last (c == 36) (c == 96) (nat_le 128 c) (wide-high c h))
  where
    last : (a b d : Bool) → d ≡ true → (a || b || d) ≡ true
    last true b d e = refl
    last false true d e = refl
    last false false d e = e

wide-rest : (look : Look) (c : ℕ) (rest : List ℕ) → 128 ≤ c → rest_cut look (c ∷ rest) ≡ cuts.Outside
wide-rest look c rest h =
    if-false (begins_name c) (name look.before (c ∷ rest)) _ (wide-lower c h)
    ∙ if-false (is_upper c) (constant look.before (c ∷ rest)) _ (wide-upper c h)
    ∙ if-false (is_in set.Decimal c) (number (c ∷ rest)) (mark look (c ∷ rest)) (wide-digit c h) ∙ wide-mark look c rest h

no-letter : (c : ℕ) → is_letter c ≡ false → is_upper c ≡ false
no-letter c h = grind (arith, nat_tests, common_steps)

no-begin : (c : ℕ) → is_letter c ≡ false → c ≢ 95 → begins_name c ≡ false
no-begin c h k = let e = not-eq c 95 k in grind (arith, nat_tests, common_steps)

colon-rest : (look : Look) (c : ℕ) (rest : List ℕ) → is_letter c ≡ false → c ≢ 95 → c ≢ 58 → ¬ IsSpaced (c ∷ rest) → rest_cut look (58 ∷ c ∷ rest) ≡ cuts.Outside
unfolding mark colon
colon-rest look c rest letter bar other spaced =
    let none : symbol_len (c ∷ rest) ≡ 0 = no-symbol (c ∷ rest) (no-letter c letter) (no-begin c letter bar) in
    if-false (not (symbol_len (c ∷ rest) == 0)) (token shape.Symbol (1 + symbol_len (c ∷ rest)) before.Operand true) _ (ap (λ n. not (n == 0)) none)
    ∙ if-false (c == 58 || is_spaced (c ∷ rest)) (sign look (58 ∷ c ∷ rest)) cuts.Outside (ap (λ t. t || is_spaced (c ∷ rest)) (not-eq c 58 other) ∙ not-spaced (c ∷ rest) spaced)

zero-rest : (look : Look) (d : ℕ) (rest : List ℕ) → is_in set.Decimal d ≡ true → rest_cut look (48 ∷ d ∷ rest) ≡ cuts.Outside
unfolding number is_foreign
zero-rest look d rest h =
    if-true (is_foreign (spelling_of (48 ∷ d ∷ rest)) (48 ∷ d ∷ rest)) cuts.Outside _ (first (is_in set.Decimal d) (is_letter (slice_index (48 ∷ d ∷ rest) (spelling_of (48 ∷ d ∷ rest)).len)) (not ((spelling_of (48 ∷ d ∷ rest)).is_float || fits 0 (spelling_of (48 ∷ d ∷ rest)).digits (digits_in (spelling_of (48 ∷ d ∷ rest)) (48 ∷ d ∷ rest)))) h)
  where
    first : (a b c : Bool) → a ≡ true → ((48 == 48 && a) || b || c) ≡ true
    first true b c e = refl
    first false b c e = absurd (cc)

-- ---- a word outside the profile

word-cut : (b : Before) (w rest : List ℕ) → identifier_len (w ++ rest) ≡ length w → is_labelled (w ++ rest) (length w) ≡ false → is_after_dot b ≡ false → word_of w ≡ word.Foreign → name b (w ++ rest) ≡ cuts.Outside
unfolding name
word-cut b w rest len no_label no_dot known =
    let z = w ++ rest in
    let C : ℕ → Cut = λ n.
    if is_labelled z n then label n
    else (if is_after_dot b then token shape.Identifier n before.Name true
    else (elim (word_of (take n z)) [ word.Free ↦ token shape.Identifier n before.Name true | word.Keyword s ↦ keyword b s n | word.Foreign ↦ cuts.Outside ])) in
    ap C len ∙ if-false (is_labelled z (length w)) (label (length w)) _ no_label
    ∙ if-false (is_after_dot b) (token shape.Identifier (length w) before.Name true) _ no_dot
    ∙ ap (λ (x : Word). elim x [ word.Free ↦ token shape.Identifier (length w) before.Name true | word.Keyword s ↦ keyword b s (length w) | word.Foreign ↦ cuts.Outside ]) (ap word_of (take-front w rest) ∙ known)

constant-cut : (b : Before) (w rest : List ℕ) → run_len set.Word (w ++ rest) ≡ length w → is_labelled (w ++ rest) (length w) ≡ false → is_after_dot b ≡ false → word_of w ≡ word.Foreign → constant b (w ++ rest) ≡ cuts.Outside
unfolding constant
constant-cut b w rest len no_label no_dot known =
    let z = w ++ rest in
    let C : ℕ → Cut = λ n.
    if is_labelled z n then label n
    else (if is_after_dot b then token shape.Constant n before.Constant true
    else (elim (word_of (take n z)) [ word.Foreign ↦ cuts.Outside | word.Free ↦ token shape.Constant n before.Constant true | word.Keyword s ↦ token shape.Constant n before.Constant true ])) in
    ap C len ∙ if-false (is_labelled z (length w)) (label (length w)) _ no_label
    ∙ if-false (is_after_dot b) (token shape.Constant (length w) before.Constant true) _ no_dot
    ∙ ap (λ (x : Word). elim x [ word.Foreign ↦ cuts.Outside | word.Free ↦ token shape.Constant (length w) before.Constant true | word.Keyword s ↦ token shape.Constant (length w) before.Constant true ]) (ap word_of (take-front w rest) ∙ known)

-- a name with no label after it
free-label : (w rest : List ℕ) → (Begins 58 rest → Begins 58 (drop 1 rest)) → is_labelled (w ++ rest) (length w) ≡ false
free-label w rest h = labelled-front w rest ∙ by (slice_index rest 0 == 58) refl (slice_index rest 1 == 58) refl
  where
    by : (s : Bool) → (slice_index rest 0 == 58) ≡ s → (t : Bool) → (slice_index rest 1 == 58) ≡ t → (s && not t) ≡ false
    by false e t f = refl
    by true e true f = refl
    by true e false f = no-both (slice_index rest 1 == 58) (on-begins 58 rest (h (begins-is 58 rest (omega arith) e))) f

named-head : (test : ℕ → Bool) (w more : List ℕ) → IsNamed test w → test (slice_index (w ++ more) 0) ≡ true
named-head test [] more h = absurd h
named-head test (c ∷ w) more h = h.0

identifier-head : (w rest : List ℕ) → IsIdentifier w rest → begins_name (slice_index (w ++ rest) 0) ≡ true
identifier-head w _ (IsIdentifier.Plain _ rest h) = named-head begins_name w rest h
identifier-head _ _ (IsIdentifier.Asking w rest h free) = ap (λ z. begins_name (slice_index z 0)) (append_assoc w (63 ∷ []) rest) ∙ named-head begins_name w (63 ∷ rest) h
identifier-head _ _ (IsIdentifier.Shouting w rest h free) = ap (λ z. begins_name (slice_index z 0)) (append_assoc w (33 ∷ []) rest) ∙ named-head begins_name w (33 ∷ rest) h

word-rest : (past : List Shape) (look : Look) → look.before ≡ before_of past → (w rest : List ℕ) → IsWholeName w rest → Holds w FOREIGN_WORDS → ¬ IsAfterDot past → rest_cut look (w ++ rest) ≡ cuts.Outside
word-rest past look is w rest whole held dot = by whole.named
  where
    no_dot : is_after_dot look.before ≡ false
    no_dot = false-of (is_after_dot look.before) (λ e. dot ((dot-asked past).0 (ap is_after_dot (sym is) ∙ e)))

    by : (IsIdentifier w rest ⊎ IsConstant w) → rest_cut look (w ++ rest) ≡ cuts.Outside
    by (inl id) =
        let head = identifier-head w rest id in
        let m = name-of (w ++ rest) head in
        let most = whole.longest m.name m.rest m.whole (inl m.is) in
        let least = identifiers-longest w rest id in
        let len : identifier_len (w ++ rest) ≡ length w = omega (arith, m.len) in
        if-true (begins_name (slice_index (w ++ rest) 0)) (name look.before (w ++ rest)) _ head ∙ word-cut look.before w rest len (free-label w rest whole.unlabelled) no_dot (foreign-known w held)
    by (inr h) =
        let head = named-head is_upper w rest h in
        let least = constants-longest w rest h in
        let len : run_len set.Word (w ++ rest) ≡ length w = longest head in
        if-false (begins_name (slice_index (w ++ rest) 0)) (name look.before (w ++ rest)) _ (upper-lower (slice_index (w ++ rest) 0) head)
        ∙ if-true (is_upper (slice_index (w ++ rest) 0)) (constant look.before (w ++ rest)) _ head ∙ constant-cut look.before w rest len (free-label w rest whole.unlabelled) no_dot (foreign-known w held)
      where
        longest : is_upper (slice_index (w ++ rest) 0) ≡ true → run_len set.Word (w ++ rest) ≡ length w
        longest head =
            let m = run-of set.Word (w ++ rest) in
            let most = whole.longest m.run m.rest m.whole (inr (constant-of (w ++ rest) head)) in
            let least = constants-longest w rest h in
            omega (arith, m.len)

-- ---- no blank, line's end, comment or string begins where a spelling does

abbrev BLANKS : List ℕ
BLANKS = 32 ∷ 9 ∷ 13 ∷ 92 ∷ 10 ∷ 35 ∷ 34 ∷ 39 ∷ []

-- the character begins none of them
abbrev Begun : ℕ → Type 0
Begun c = EachRow (λ k. (c == k) ≡ false) BLANKS

begun-other : (c : ℕ) (u : List ℕ) → Begun c → Other (c ∷ u)
begun-other c u h =
    record {
      first = c;
      others = u;
      whole = refl;
      no_blank = ap not (none (c == 32) (c == 9) (c == 13) (c == 92) (slice_index (c ∷ u) 1 == 10) (slice_index (c ∷ u) 1 == 13) (slice_index (c ∷ u) 2 == 10) h.0 h.1.0 h.1.1.0 h.1.1.1.0);
      no_line = h.1.1.1.1.0;
      no_comment = h.1.1.1.1.1.0;
      no_double = h.1.1.1.1.1.1.0;
      no_single = h.1.1.1.1.1.1.1.0;
    }
  where
    none : (s t v w x y z : Bool) → s ≡ false → t ≡ false → v ≡ false → w ≡ false → ((if (s || t) then 1 else (if (v && x) then 1 else (if (w && x) then 2 else (if (w && y && z) then 3 else 0)))) == 0) ≡ true
    none s t v w x y z e f g h =
        ap (λ n. (if (n || t) then 1 else (if (v && x) then 1 else (if (w && x) then 2 else (if (w && y && z) then 3 else 0)))) == 0) e
        ∙ ap (λ n. (if n then 1 else (if (v && x) then 1 else (if (w && x) then 2 else (if (w && y && z) then 3 else 0)))) == 0) f
        ∙ ap (λ n. (if (n && x) then 1 else (if (w && x) then 2 else (if (w && y && z) then 3 else 0))) == 0) g
        ∙ ap (λ n. (if (n && x) then 2 else (if (n && y && z) then 3 else 0)) == 0) h

abbrev Begin : List ℕ → Type 0
Begin w = (c : ℕ) × (v : List ℕ) × (w ≡ c ∷ v) × Begun c

kind-begun : (c : ℕ) (k : Kind) → kind c ≡ k → (Kind.Sign ≡ k → ⊥) → Begun c
kind-begun c k is other = (not_one 32 refl, (not_one 9 refl, (not_one 13 refl, (not_one 92 refl, (not_one 10 refl, (not_one 35 refl, (not_one 34 refl, (not_one 39 refl, tt))))))))
  where
    not_one : (j : ℕ) → kind j ≡ Kind.Sign → (c == j) ≡ false
    not_one j sign = false-of (c == j) (λ e. other (sym sign ∙ ap kind (sym (eq-is c j e)) ∙ is))

first-begin : (w : List ℕ) (k : Kind) → (Kind.Sign ≡ k → ⊥) → First w k → Begin w
first-begin w k other f = (f.first, f.others, f.whole, kind-begun f.first k f.kind_is other)

-- the first character begins none of them
abbrev is_begun : List ℕ → Bool
is_begun [] = false
is_begun (c ∷ w) = list_all (λ k. not (c == k)) BLANKS

begin-of : (w : List ℕ) → is_begun w ≡ true → Begin w
begin-of [] e = absurd (cc)
begin-of (c ∷ w) e = (c, w, refl, each-by (λ k. (c == k) ≡ false) (λ k. not (c == k)) (λ k. not-true (c == k)) BLANKS e)

operator-begun : EachRow (λ (row : Shape × List ℕ). Begin row.1) OPERATORS
operator-begun = each-by (λ (row : Shape × List ℕ). Begin row.1) (λ row. is_begun row.1) (λ row. begin-of row.1) OPERATORS refl

method-begun : EachRow (λ (row : Shape × List ℕ). Begin row.1) METHOD_OPERATORS
method-begun = each-by (λ (row : Shape × List ℕ). Begin row.1) (λ row. is_begun row.1) (λ row. begin-of row.1) METHOD_OPERATORS refl

foreign-begun : EachRow Begin FOREIGN_OPERATORS
foreign-begun = each-by Begin is_begun begin-of FOREIGN_OPERATORS refl

named-begin : (w rest : List ℕ) → IsIdentifier w rest → Begin w
named-begin w rest h = first-begin w Kind.Name (λ e. absurd (cc)) (identifier-first w rest h)

constant-begin : (w : List ℕ) → IsConstant w → Begin w
constant-begin w h = first-begin w Kind.Constant (λ e. absurd (cc)) (constant-first w h)

more-begin : (w v : List ℕ) → Begin w → Begin (w ++ v)
more-begin w v b = (b.0, b.1 ++ v, ap (λ z. z ++ v) b.2, b.3)

pub spells-begin : (past : List Shape) (s : Shape) (w words rest : List ℕ) → Spells past s w words rest → Begin w
spells-begin past _ _ _ _ (Spells.Identifier w rest h free) = named-begin w rest h
spells-begin past _ _ _ _ (Spells.Constant w rest h free) = constant-begin w h
spells-begin past _ _ _ _ (Spells.Keyword s w rest h row dot) = named-begin w rest h
spells-begin past _ _ _ _ (Spells.InstanceVariable w rest h) = (64, w, refl, (refl, (refl, (refl, (refl, (refl, (refl, (refl, (refl, tt)))))))))
spells-begin past _ _ _ _ (Spells.Label w rest (inl h) free) = more-begin w (58 ∷ []) (named-begin w (58 ∷ rest) h)
spells-begin past _ _ _ _ (Spells.Label w rest (inr h) free) = more-begin w (58 ∷ []) (constant-begin w h)
spells-begin past _ _ _ _ (Spells.Symbol w rest h) = (58, w, refl, (refl, (refl, (refl, (refl, (refl, (refl, (refl, (refl, tt)))))))))
spells-begin past _ _ _ _ (Spells.Whole w rest h) = first-begin w Kind.Digit (λ e. absurd (cc)) (whole-first w h)
spells-begin past _ _ _ _ (Spells.Float w rest h) = first-begin w Kind.Digit (λ e. absurd (cc)) (float-first w h)
spells-begin past _ _ _ _ (Spells.Semicolon rest) = (59, [], refl, (refl, (refl, (refl, (refl, (refl, (refl, (refl, (refl, tt)))))))))
spells-begin past _ _ _ _ (Spells.Operator s w rest h) = at-row (λ (row : Shape × List ℕ). Begin row.1) (s, w) OPERATORS operator-begun h
spells-begin past _ _ _ _ (Spells.MethodOperator s w rest names h) = at-row (λ (row : Shape × List ℕ). Begin row.1) (s, w) METHOD_OPERATORS method-begun h

begin-other : (w rest : List ℕ) → Begin w → Other (w ++ rest)
begin-other w rest b = subst (λ z. Other (z ++ rest)) (sym b.2) (begun-other b.0 (b.1 ++ rest) b.3)

pub spells-other : (past : List Shape) (s : Shape) (w words rest : List ℕ) → Spells past s w words rest → Other (w ++ rest)
spells-other past s w words rest h = begin-other w rest (spells-begin past s w words rest h)

wide-begun : (c : ℕ) → 128 ≤ c → Begun c
wide-begun c h =
    (wide-not c 32 h (omega arith), (wide-not c 9 h (omega arith), (wide-not c 13 h (omega arith), (wide-not c 92 h (omega arith), (wide-not c 10 h (omega arith), (wide-not c 35 h (omega arith), (wide-not c 34 h (omega arith), (wide-not c 39 h (omega arith), tt))))))))

pub foreign-other : (past : List Shape) (blank start : Bool) (y : List ℕ) → IsForeign past blank start y → Other y
foreign-other past blank start _ (IsForeign.LongComment rest fresh) = begun-other 61 (codes "begin" ++ rest) (refl, (refl, (refl, (refl, (refl, (refl, (refl, (refl, tt))))))))
foreign-other past blank start _ (IsForeign.EndMark rest fresh line) = begun-other 95 (codes "_END__" ++ rest) (refl, (refl, (refl, (refl, (refl, (refl, (refl, (refl, tt))))))))
foreign-other past blank start _ (IsForeign.ClassVariable rest) = begun-other 64 (64 ∷ rest) (refl, (refl, (refl, (refl, (refl, (refl, (refl, (refl, tt))))))))
foreign-other past blank start _ (IsForeign.Global rest) = begun-other 36 rest (refl, (refl, (refl, (refl, (refl, (refl, (refl, (refl, tt))))))))
foreign-other past blank start _ (IsForeign.Backtick rest) = begun-other 96 rest (refl, (refl, (refl, (refl, (refl, (refl, (refl, (refl, tt))))))))
foreign-other past blank start _ (IsForeign.PastAscii c rest wide) = begun-other c rest (wide-begun c wide)
foreign-other past blank start _ (IsForeign.ForeignOperator w rest h) = begin-other w rest (at-row Begin w FOREIGN_OPERATORS foreign-begun h)
foreign-other past blank start _ (IsForeign.Opening s w rest l held ends names) = spells-other past s w [] rest l.spells
foreign-other past blank start _ (IsForeign.HereDocument w rest l ends b here) = spells-other past shape.ShiftLeft w [] rest l.spells
foreign-other past blank start _ (IsForeign.QuestionAtOperand rest ends) = begun-other 63 rest (refl, (refl, (refl, (refl, (refl, (refl, (refl, (refl, tt))))))))
foreign-other past blank start _ (IsForeign.QuestionTouched rest spaced) = begun-other 63 rest (refl, (refl, (refl, (refl, (refl, (refl, (refl, (refl, tt))))))))
foreign-other past blank start _ (IsForeign.ColonTouched c rest l bar other spaced) = begun-other 58 (c ∷ rest) (refl, (refl, (refl, (refl, (refl, (refl, (refl, (refl, tt))))))))
foreign-other past blank start _ (IsForeign.ParenAfterConstant rest constant b) = begun-other 40 rest (refl, (refl, (refl, (refl, (refl, (refl, (refl, (refl, tt))))))))
foreign-other past blank start _ (IsForeign.ZeroAndDigit d rest h) = begun-other 48 (d ∷ rest) (refl, (refl, (refl, (refl, (refl, (refl, (refl, (refl, tt))))))))
foreign-other past blank start _ (IsForeign.NumberAndLetter s w rest c held l letter) = spells-other past s w w (c ∷ rest) l.spells
foreign-other past blank start _ (IsForeign.LargeNumber w rest l large) = spells-other past shape.Whole w w rest l.spells
foreign-other past blank start _ (IsForeign.ForeignWord w rest whole held dot) = by whole.named
  where
    by : (IsIdentifier w rest ⊎ IsConstant w) → Other (w ++ rest)
    by (inl h) = begin-other w rest (named-begin w rest h)
    by (inr h) = begin-other w rest (constant-begin w h)

pub wrong-other : (past : List Shape) (blank : Bool) (y : List ℕ) → IsWrong past blank y → Other y
wrong-other past blank _ (IsWrong.Ambiguous s w rest l held after b spaced) = spells-other past s w [] rest l.spells
wrong-other past blank _ (IsWrong.ParenAfterBlank rest after b) = begun-other 40 rest (refl, (refl, (refl, (refl, (refl, (refl, (refl, (refl, tt))))))))
wrong-other past blank _ (IsWrong.NoToken c z spelt blanks marks) =
    record {
      first = c;
      others = z;
      whole = refl;
      no_blank = false-of (blank_here (c ∷ z)) (λ e. let b = blank-of (c ∷ z) e in blanks b.blank b.rest b.whole b.is);
      no_line = not-eq c 10 (λ e. marks (inl e));
      no_comment = not-eq c 35 (λ e. marks (inr (inl e)));
      no_double = not-eq c 34 (λ e. marks (inr (inr (inl e))));
      no_single = not-eq c 39 (λ e. marks (inr (inr (inr (inl e)))));
    }

-- ---- a form outside the profile is refused as one

module _ (past : List Shape) (look : Look) (is : look.before ≡ before_of past) where
  -- a longest spelling that breaks a rule of operators
  longest-outside : (y : List ℕ) (s : Shape) (w os rest : List ℕ) → w ++ rest ≡ y → IsLongest past s w os rest → is_outside look s rest ≡ true → (cut : Cut) → Shown past look y cut → cut ≡ cuts.Outside
  longest-outside y s w os rest e l h _ (Shown.Token x v words more b len k says passes) =
      let p = best-same past y x.shape v words more b s w os rest e l in
      no-both (is_outside look s rest) h (ap (λ t. is_outside look t rest) p.0.0 ∙ ap (is_outside look x.shape) p.1 ∙ passes.inside)
  longest-outside y s w os rest e l h _ (Shown.Alien f) = refl
  longest-outside y s w os rest e l h _ (Shown.Refused t v more row b inside bad) =
      let p = best-same past y t v [] more b s w os rest e l in
      no-both (is_outside look s rest) h (ap (λ u. is_outside look u rest) p.0.0 ∙ ap (is_outside look t) p.1 ∙ inside)
  longest-outside y s w os rest e l h _ (Shown.Nothing none) = absurd (none s w os rest e l.spells)

  number-good : (s : Shape) (rest : List ℕ) → Holds s NUMBERS → is_bad look s rest ≡ false
  unfolding same_shape
  number-good s rest (inl e) = ap (λ t. is_bad look t rest) e ∙ quiet-good look shape.Whole rest refl
  number-good s rest (inr (inl e)) = ap (λ t. is_bad look t rest) e ∙ quiet-good look shape.Float rest refl
  number-good s rest (inr (inr h)) = absurd h

  longest-number : (y : List ℕ) (s : Shape) (w rest : List ℕ) → w ++ rest ≡ y → IsLongest past s w w rest → Holds s NUMBERS → (Passes look s w rest → ⊥) → (cut : Cut) → Shown past look y cut → cut ≡ cuts.Outside
  longest-number y s w rest e l held h _ (Shown.Token x v words more b len k says passes) =
      let p = best-same past y x.shape v words more b s w w rest e l in
      absurd (h (subst (λ t. Passes look t w rest) (sym p.0.0) (subst (λ z. Passes look x.shape z rest) (sym p.0.1) (subst (Passes look x.shape v) (sym p.1) passes))))
  longest-number y s w rest e l held h _ (Shown.Alien f) = refl
  longest-number y s w rest e l held h _ (Shown.Refused t v more row b inside bad) =
      let p = best-same past y t v [] more b s w w rest e l in
      no-both (is_bad look t more) bad (ap (λ u. is_bad look u more) (sym p.0.0) ∙ number-good s more held)
  longest-number y s w rest e l held h _ (Shown.Nothing none) = absurd (none s w w rest e l.spells)

  strange : (s : Shape) → Holds s STRANGE → is_strange_opening s ≡ true
  unfolding same_shape
  strange s (inl e) = ap is_strange_opening e
  strange s (inr (inl e)) = ap is_strange_opening e
  strange s (inr (inr (inl e))) = ap is_strange_opening e
  strange s (inr (inr (inr (inl e)))) = ap is_strange_opening e
  strange s (inr (inr (inr (inr (inl e))))) = ap is_strange_opening e
  strange s (inr (inr (inr (inr (inr h))))) = absurd h

  end-false : ¬ IsOperandEnd past → is_operand_end look.before ≡ false
  end-false h = false-of (is_operand_end look.before) (λ e. h ((ends-asked past).0 (ap is_operand_end (sym is) ∙ e)))

  end-true : IsOperandEnd past → is_operand_end look.before ≡ true
  end-true h = ap is_operand_end is ∙ (ends-asked past).1 h

  opening-outside : (s : Shape) (rest : List ℕ) → Holds s STRANGE → ¬ IsOperandEnd past → ¬ NamesMethod past → is_outside look s rest ≡ true
  opening-outside s rest held ends names =
      first-or (is_strange_opening s && not (is_operand_end look.before) && not (names_method look.before)) (same_shape s shape.ShiftLeft && is_operand_end look.before && look.is_blank && begins_here_document rest) (same_shape s shape.Question && (not (is_operand_end look.before) || not (is_spaced rest))) (same_shape s shape.OpenParen && is_constant look.before && not look.is_blank)
      (all-three (is_strange_opening s) (not (is_operand_end look.before)) (not (names_method look.before)) (strange s held) (not-of (is_operand_end look.before) (end-false ends)) (not-of (names_method look.before) (false-of (names_method look.before) (λ e. names ((names-asked past).0 (ap names_method (sym is) ∙ e))))))

  here-true : (rest : List ℕ) → (Begins 126 rest ⊎ Begins 45 rest ⊎ Begins 39 rest ⊎ Begins 34 rest) → begins_here_document rest ≡ true
  here-true rest (inl h) = first-or (slice_index rest 0 == 126) (slice_index rest 0 == 45) (slice_index rest 0 == 39) (slice_index rest 0 == 34) (is-begins 126 rest h)
  here-true rest (inr (inl h)) = second-or (slice_index rest 0 == 126) (slice_index rest 0 == 45) (slice_index rest 0 == 39) (slice_index rest 0 == 34) (is-begins 45 rest h)
  here-true rest (inr (inr (inl h))) = third-or (slice_index rest 0 == 126) (slice_index rest 0 == 45) (slice_index rest 0 == 39) (slice_index rest 0 == 34) (is-begins 39 rest h)
  here-true rest (inr (inr (inr h))) = last-or (slice_index rest 0 == 126) (slice_index rest 0 == 45) (slice_index rest 0 == 39) (slice_index rest 0 == 34) (is-begins 34 rest h)

  here-outside : (rest : List ℕ) → IsOperandEnd past → look.is_blank ≡ true → (Begins 126 rest ⊎ Begins 45 rest ⊎ Begins 39 rest ⊎ Begins 34 rest) → is_outside look shape.ShiftLeft rest ≡ true
  here-outside rest ends blank here =
      second-or (is_strange_opening shape.ShiftLeft && not (is_operand_end look.before) && not (names_method look.before)) (same_shape shape.ShiftLeft shape.ShiftLeft && is_operand_end look.before && look.is_blank && begins_here_document rest) (same_shape shape.ShiftLeft shape.Question && (not (is_operand_end look.before) || not (is_spaced rest))) (same_shape shape.ShiftLeft shape.OpenParen && is_constant look.before && not look.is_blank)
      (all-four (same_shape shape.ShiftLeft shape.ShiftLeft) (is_operand_end look.before) look.is_blank (begins_here_document rest) (is-same shape.ShiftLeft shape.ShiftLeft refl) (end-true ends) blank (here-true rest here))

  question-outside : (rest : List ℕ) → (is_operand_end look.before ≡ false) ⊎ (is_spaced rest ≡ false) → is_outside look shape.Question rest ≡ true
  question-outside rest h =
      third-or (is_strange_opening shape.Question && not (is_operand_end look.before) && not (names_method look.before)) (same_shape shape.Question shape.ShiftLeft && is_operand_end look.before && look.is_blank && begins_here_document rest) (same_shape shape.Question shape.Question && (not (is_operand_end look.before) || not (is_spaced rest))) (same_shape shape.Question shape.OpenParen && is_constant look.before && not look.is_blank)
      (both-and (same_shape shape.Question shape.Question) (not (is_operand_end look.before) || not (is_spaced rest)) (is-same shape.Question shape.Question refl) (by h))
    where
      by : (is_operand_end look.before ≡ false) ⊎ (is_spaced rest ≡ false) → (not (is_operand_end look.before) || not (is_spaced rest)) ≡ true
      by (inl e) = left-or (not (is_operand_end look.before)) (not (is_spaced rest)) (not-of (is_operand_end look.before) e)
      by (inr e) = right-or (not (is_operand_end look.before)) (not (is_spaced rest)) (not-of (is_spaced rest) e)

  paren-outside : (rest : List ℕ) → IsAfterConstant past → look.is_blank ≡ false → is_outside look shape.OpenParen rest ≡ true
  paren-outside rest constant blank =
      last-or (is_strange_opening shape.OpenParen && not (is_operand_end look.before) && not (names_method look.before)) (same_shape shape.OpenParen shape.ShiftLeft && is_operand_end look.before && look.is_blank && begins_here_document rest) (same_shape shape.OpenParen shape.Question && (not (is_operand_end look.before) || not (is_spaced rest))) (same_shape shape.OpenParen shape.OpenParen && is_constant look.before && not look.is_blank)
      (all-three (same_shape shape.OpenParen shape.OpenParen) (is_constant look.before) (not look.is_blank) (is-same shape.OpenParen shape.OpenParen refl) (ap is_constant is ∙ (constant-asked past).1 constant) (not-of look.is_blank blank))

  ends-long : (rest : List ℕ) → look.is_fresh ≡ true → (look.is_fresh && ends_program (codes "=begin" ++ rest)) ≡ true
  unfolding ends_program
  ends-long rest fresh = both-and look.is_fresh (ends_program (codes "=begin" ++ rest)) fresh refl

  ends-mark : (rest : List ℕ) → look.is_fresh ≡ true → EndsLine rest → (look.is_fresh && ends_program (codes "__END__" ++ rest)) ≡ true
  unfolding ends_program
  ends-mark rest fresh line = both-and look.is_fresh (ends_program (codes "__END__" ++ rest)) fresh (is-line rest line)

  foreign-rest_cut : (y : List ℕ) → (look.is_fresh && ends_program y) ≡ false → IsForeign past look.is_blank look.is_fresh y → Shown past look y (rest_cut look y) → rest_cut look y ≡ cuts.Outside
  foreign-rest_cut _ none (IsForeign.LongComment rest fresh) shown = no-both (look.is_fresh && ends_program (codes "=begin" ++ rest)) (ends-long rest fresh) none
  foreign-rest_cut _ none (IsForeign.EndMark rest fresh line) shown = no-both (look.is_fresh && ends_program (codes "__END__" ++ rest)) (ends-mark rest fresh line) none
  foreign-rest_cut _ none (IsForeign.ClassVariable rest) shown = variable-rest look rest
  foreign-rest_cut _ none (IsForeign.Global rest) shown = global-rest look rest
  foreign-rest_cut _ none (IsForeign.Backtick rest) shown = backtick-rest look rest
  foreign-rest_cut _ none (IsForeign.PastAscii c rest wide) shown = wide-rest look c rest wide
  foreign-rest_cut _ none (IsForeign.ForeignOperator w rest h) shown = at-row AtSign w FOREIGN_OPERATORS foreign-rest h look rest ∙ sign-foreign look w rest h
  foreign-rest_cut _ none (IsForeign.Opening s w rest l held ends names) shown = longest-outside (w ++ rest) s w [] rest refl l (opening-outside s rest held ends names) (rest_cut look (w ++ rest)) shown
  foreign-rest_cut _ none (IsForeign.HereDocument w rest l ends b here) shown = longest-outside (w ++ rest) shape.ShiftLeft w [] rest refl l (here-outside rest ends b here) (rest_cut look (w ++ rest)) shown
  foreign-rest_cut _ none (IsForeign.QuestionAtOperand rest ends) shown = question-rest look rest ∙ sign-question look rest ∙ judged-outside look shape.Question 1 rest (question-outside rest (inl (end-false ends)))
  foreign-rest_cut _ none (IsForeign.QuestionTouched rest spaced) shown = question-rest look rest ∙ sign-question look rest ∙ judged-outside look shape.Question 1 rest (question-outside rest (inr (not-spaced rest spaced)))
  foreign-rest_cut _ none (IsForeign.ColonTouched c rest l bar other spaced) shown = colon-rest look c rest l bar other spaced
  foreign-rest_cut _ none (IsForeign.ParenAfterConstant rest constant b) shown = paren-rest look rest ∙ sign-paren look rest ∙ judged-outside look shape.OpenParen 1 rest (paren-outside rest constant b)
  foreign-rest_cut _ none (IsForeign.ZeroAndDigit d rest h) shown = zero-rest look d rest h
  foreign-rest_cut _ none (IsForeign.NumberAndLetter s w rest c held l letter) shown =
      longest-number (w ++ c ∷ rest) s w (c ∷ rest) refl l held (λ p. no-both (is_letter c) letter (p.apart held)) (rest_cut look (w ++ c ∷ rest)) shown
  foreign-rest_cut _ none (IsForeign.LargeNumber w rest l large) shown =
      longest-number (w ++ rest) shape.Whole w rest refl l (inl refl) (λ p. let small = p.small refl in omega arith) (rest_cut look (w ++ rest)) shown
  foreign-rest_cut _ none (IsForeign.ForeignWord w rest whole held dot) shown = word-rest past look is w rest whole held dot

  pub foreign-cut : (y : List ℕ) → IsForeign past look.is_blank look.is_fresh y → cut_of look y ≡ cuts.Outside
  foreign-cut y f = by (look.is_fresh && ends_program y) refl (foreign-other past look.is_blank look.is_fresh y f)
    where
      by : (t : Bool) → (look.is_fresh && ends_program y) ≡ t → Other y → cut_of look y ≡ cuts.Outside
      by true e o = cut-ends look y e
      by false e o =
          let first : slice_index y 0 ≡ o.first = ap (λ z. slice_index z 0) o.whole in
          let goes = cut-goes look y e o.no_blank (ap (λ c. c == 10) first ∙ o.no_line) in
          goes ∙ foreign-rest_cut y e f (subst (Shown past look y) goes (shown-cut past look y is o))
