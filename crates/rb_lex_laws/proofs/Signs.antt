-- Operators: what is computed at a place is an operator of the list, and the longest there.
use Rattle.std.proofs.Common.{◌≡◌, ℕ, zero, suc, ◌≤◌, ◌⊎◌, Bool, true, false, ◌==◌, ◌&&◌, if◌then◌else◌, List, [], ◌∷◌, ◌++◌, length, inl, inr, refl, sym, ap, subst, ◌∙◌, arith}
use Rattle.std.specs.Prelude.{slice_index, bytes_eq}
use Rattle.std.proofs.lemmas.Slice.Eq.{bytes_eq-Decides}
use Rattle.rb_tree.specs.Tokens.{same_shape}
use Rattle.rb_tree.specs.declared.token.Shape.{Shape}
use Rattle.rb_tree.specs.declared.token.Shape.TheVariants as shape
use Rattle.rb_lex.specs.Operators.{found, or_assign, minus, star, equals, not_sign, less, greater, ampersand, pipe, dot, colon, single, compound, operator, method_name}
use Rattle.rb_lex.specs.declared.operator.Sign.{Sign}
use Rattle.rb_lex.specs.declared.operator.Sign.TheVariants.{Operator, Foreign, Nothing}
use Rattle.rb_rules.specs.Spellings.{Holds, OPERATORS, METHOD_OPERATORS, FOREIGN_OPERATORS}
use Rattle.rb_lex_laws.proofs.Lists.{split, eq-is, and-both}
use Rattle.rb_lex_laws.proofs.Past.{same-is}
use Rattle.rb_lex_laws.proofs.Rows.{EachRow, at-row}

-- ---- rows of a list

abbrev listed : Shape → List ℕ → List (Shape × List ℕ) → Bool
listed s w [] = false
listed s w (row ∷ rows) = if same_shape s row.0 && bytes_eq w row.1 then true else listed s w rows

listed-holds : (s : Shape) (w : List ℕ) (rows : List (Shape × List ℕ)) → listed s w rows ≡ true → Holds (s, w) rows
listed-holds s w [] h = absurd (cc)
listed-holds s w (row ∷ rows) h = by (same_shape s row.0 && bytes_eq w row.1) refl (listed-holds s w rows) h
  where
    pair : s ≡ row.0 → w ≡ row.1 → let p : Shape × List ℕ = (s, w) in p ≡ row
    pair e f = ap (λ t. let p : Shape × List ℕ = (t, w) in p) e ∙ ap (λ v. let p : Shape × List ℕ = (row.0, v) in p) f

    by : (t : Bool) → (same_shape s row.0 && bytes_eq w row.1) ≡ t → (listed s w rows ≡ true → Holds (s, w) rows) → (if t then true else listed s w rows) ≡ true → Holds (s, w) (row ∷ rows)
    by true e more k = let both = and-both (same_shape s row.0) (bytes_eq w row.1) e in inl (pair (same-is s row.0 both.0) ((bytes_eq-Decides w row.1).0 both.1))
    by false e more k = inr (more k)

-- the first bytes of three
abbrev pub word : ℕ → ℕ → ℕ → ℕ → List ℕ
word (suc zero) b next last = b ∷ []
word (suc (suc zero)) b next last = b ∷ next ∷ []
word _ b next last = b ∷ next ∷ last ∷ []

-- what is found is of the lists
abbrev pub IsRow : ℕ → ℕ → ℕ → Sign → Type 0
IsRow b next last (Operator s n) = Holds (s, word n b next last) OPERATORS × ((n ≡ 1) ⊎ (n ≡ 2) ⊎ (n ≡ 3))
IsRow b next last Foreign = Holds (b ∷ next ∷ []) FOREIGN_OPERATORS
IsRow b next last Nothing = Unit {0}

-- a test of a byte, on both sides
node : (k b : ℕ) (P : ℕ → Sign → Type 0) (x y : Sign) → P k x → P b y → P b (if b == k then x else y)
node k b P x y px py =
    split (P b) (b == k) x y (λ e. subst (λ n. P n x) (sym (eq-is b k e)) px) (λ e. py)

plus-row : (next last : ℕ) → IsRow 43 next last (or_assign next shape.Plus shape.PlusAssign)
unfolding same_shape
plus-row next last = node 61 next (λ n g. IsRow 43 n last g) (found shape.PlusAssign 2) (found shape.Plus 1) ((listed-holds shape.PlusAssign (43 ∷ 61 ∷ []) OPERATORS refl, inr (inl refl))) ((listed-holds shape.Plus (43 ∷ []) OPERATORS refl, inl refl))

minus_or-row : (next last : ℕ) → IsRow 45 next last (or_assign next shape.Minus shape.MinusAssign)
unfolding same_shape
minus_or-row next last = node 61 next (λ n g. IsRow 45 n last g) (found shape.MinusAssign 2) (found shape.Minus 1) ((listed-holds shape.MinusAssign (45 ∷ 61 ∷ []) OPERATORS refl, inr (inl refl))) ((listed-holds shape.Minus (45 ∷ []) OPERATORS refl, inl refl))

star_or-row : (next last : ℕ) → IsRow 42 next last (or_assign next shape.Star shape.StarAssign)
unfolding same_shape
star_or-row next last = node 61 next (λ n g. IsRow 42 n last g) (found shape.StarAssign 2) (found shape.Star 1) ((listed-holds shape.StarAssign (42 ∷ 61 ∷ []) OPERATORS refl, inr (inl refl))) ((listed-holds shape.Star (42 ∷ []) OPERATORS refl, inl refl))

slash-row : (next last : ℕ) → IsRow 47 next last (or_assign next shape.Slash shape.SlashAssign)
unfolding same_shape
slash-row next last = node 61 next (λ n g. IsRow 47 n last g) (found shape.SlashAssign 2) (found shape.Slash 1) ((listed-holds shape.SlashAssign (47 ∷ 61 ∷ []) OPERATORS refl, inr (inl refl))) ((listed-holds shape.Slash (47 ∷ []) OPERATORS refl, inl refl))

percent-row : (next last : ℕ) → IsRow 37 next last (or_assign next shape.Percent shape.PercentAssign)
unfolding same_shape
percent-row next last = node 61 next (λ n g. IsRow 37 n last g) (found shape.PercentAssign 2) (found shape.Percent 1) ((listed-holds shape.PercentAssign (37 ∷ 61 ∷ []) OPERATORS refl, inr (inl refl))) ((listed-holds shape.Percent (37 ∷ []) OPERATORS refl, inl refl))

caret-row : (next last : ℕ) → IsRow 94 next last (or_assign next shape.Caret shape.CaretAssign)
unfolding same_shape
caret-row next last = node 61 next (λ n g. IsRow 94 n last g) (found shape.CaretAssign 2) (found shape.Caret 1) ((listed-holds shape.CaretAssign (94 ∷ 61 ∷ []) OPERATORS refl, inr (inl refl))) ((listed-holds shape.Caret (94 ∷ []) OPERATORS refl, inl refl))

not_or-row : (next last : ℕ) → IsRow 33 next last (or_assign next shape.Not shape.NotEqual)
unfolding same_shape
not_or-row next last = node 61 next (λ n g. IsRow 33 n last g) (found shape.NotEqual 2) (found shape.Not 1) ((listed-holds shape.NotEqual (33 ∷ 61 ∷ []) OPERATORS refl, inr (inl refl))) ((listed-holds shape.Not (33 ∷ []) OPERATORS refl, inl refl))

greater_or-row : (next last : ℕ) → IsRow 62 next last (or_assign next shape.Greater shape.GreaterEqual)
unfolding same_shape
greater_or-row next last = node 61 next (λ n g. IsRow 62 n last g) (found shape.GreaterEqual 2) (found shape.Greater 1) ((listed-holds shape.GreaterEqual (62 ∷ 61 ∷ []) OPERATORS refl, inr (inl refl))) ((listed-holds shape.Greater (62 ∷ []) OPERATORS refl, inl refl))

ampersand_or-row : (next last : ℕ) → IsRow 38 next last (or_assign next shape.Ampersand shape.AmpersandAssign)
unfolding same_shape
ampersand_or-row next last = node 61 next (λ n g. IsRow 38 n last g) (found shape.AmpersandAssign 2) (found shape.Ampersand 1) ((listed-holds shape.AmpersandAssign (38 ∷ 61 ∷ []) OPERATORS refl, inr (inl refl))) ((listed-holds shape.Ampersand (38 ∷ []) OPERATORS refl, inl refl))

pipe_or-row : (next last : ℕ) → IsRow 124 next last (or_assign next shape.Pipe shape.PipeAssign)
unfolding same_shape
pipe_or-row next last = node 61 next (λ n g. IsRow 124 n last g) (found shape.PipeAssign 2) (found shape.Pipe 1) ((listed-holds shape.PipeAssign (124 ∷ 61 ∷ []) OPERATORS refl, inr (inl refl))) ((listed-holds shape.Pipe (124 ∷ []) OPERATORS refl, inl refl))

minus-row : (next last : ℕ) → IsRow 45 next last (minus next)
unfolding same_shape
minus-row next last = node 62 next (λ n g. IsRow 45 n last g) (Foreign) (or_assign next shape.Minus shape.MinusAssign) (inl refl) (minus_or-row next last)

star-row : (next last : ℕ) → IsRow 42 next last (star next last)
unfolding same_shape
star-row next last = node 42 next (λ n g. IsRow 42 n last g) (if last == 61 then found shape.PowerAssign 3 else found shape.Power 2) (or_assign next shape.Star shape.StarAssign) (node 61 last (λ n g. IsRow 42 42 n g) (found shape.PowerAssign 3) (found shape.Power 2) ((listed-holds shape.PowerAssign (42 ∷ 42 ∷ 61 ∷ []) OPERATORS refl, inr (inr refl))) ((listed-holds shape.Power (42 ∷ 42 ∷ []) OPERATORS refl, inr (inl refl)))) (star_or-row next last)

equals-row : (next last : ℕ) → IsRow 61 next last (equals next last)
unfolding same_shape
equals-row next last = node 61 next (λ n g. IsRow 61 n last g) (if last == 61 then found shape.CaseEqual 3 else found shape.Equal 2) (if next == 62 then found shape.Arrow 2 else (if next == 126 then Foreign else found shape.Assign 1)) (node 61 last (λ n g. IsRow 61 61 n g) (found shape.CaseEqual 3) (found shape.Equal 2) ((listed-holds shape.CaseEqual (61 ∷ 61 ∷ 61 ∷ []) OPERATORS refl, inr (inr refl))) ((listed-holds shape.Equal (61 ∷ 61 ∷ []) OPERATORS refl, inr (inl refl)))) (node 62 next (λ n g. IsRow 61 n last g) (found shape.Arrow 2) (if next == 126 then Foreign else found shape.Assign 1) ((listed-holds shape.Arrow (61 ∷ 62 ∷ []) OPERATORS refl, inr (inl refl))) (node 126 next (λ n g. IsRow 61 n last g) (Foreign) (found shape.Assign 1) (inr (inl refl)) ((listed-holds shape.Assign (61 ∷ []) OPERATORS refl, inl refl))))

not-row : (next last : ℕ) → IsRow 33 next last (not_sign next)
unfolding same_shape
not-row next last = node 126 next (λ n g. IsRow 33 n last g) (Foreign) (or_assign next shape.Not shape.NotEqual) (inr (inr (inl refl))) (not_or-row next last)

less-row : (next last : ℕ) → IsRow 60 next last (less next last)
unfolding same_shape
less-row next last = node 61 next (λ n g. IsRow 60 n last g) (if last == 62 then found shape.Compare 3 else found shape.LessEqual 2) (if next == 60 then (if last == 61 then found shape.ShiftLeftAssign 3 else found shape.ShiftLeft 2) else found shape.Less 1) (node 62 last (λ n g. IsRow 60 61 n g) (found shape.Compare 3) (found shape.LessEqual 2) ((listed-holds shape.Compare (60 ∷ 61 ∷ 62 ∷ []) OPERATORS refl, inr (inr refl))) ((listed-holds shape.LessEqual (60 ∷ 61 ∷ []) OPERATORS refl, inr (inl refl)))) (node 60 next (λ n g. IsRow 60 n last g) (if last == 61 then found shape.ShiftLeftAssign 3 else found shape.ShiftLeft 2) (found shape.Less 1) (node 61 last (λ n g. IsRow 60 60 n g) (found shape.ShiftLeftAssign 3) (found shape.ShiftLeft 2) ((listed-holds shape.ShiftLeftAssign (60 ∷ 60 ∷ 61 ∷ []) OPERATORS refl, inr (inr refl))) ((listed-holds shape.ShiftLeft (60 ∷ 60 ∷ []) OPERATORS refl, inr (inl refl)))) ((listed-holds shape.Less (60 ∷ []) OPERATORS refl, inl refl)))

greater-row : (next last : ℕ) → IsRow 62 next last (greater next last)
unfolding same_shape
greater-row next last = node 62 next (λ n g. IsRow 62 n last g) (if last == 61 then found shape.ShiftRightAssign 3 else found shape.ShiftRight 2) (or_assign next shape.Greater shape.GreaterEqual) (node 61 last (λ n g. IsRow 62 62 n g) (found shape.ShiftRightAssign 3) (found shape.ShiftRight 2) ((listed-holds shape.ShiftRightAssign (62 ∷ 62 ∷ 61 ∷ []) OPERATORS refl, inr (inr refl))) ((listed-holds shape.ShiftRight (62 ∷ 62 ∷ []) OPERATORS refl, inr (inl refl)))) (greater_or-row next last)

ampersand-row : (next last : ℕ) → IsRow 38 next last (ampersand next last)
unfolding same_shape
ampersand-row next last = node 38 next (λ n g. IsRow 38 n last g) (if last == 61 then found shape.AndAssign 3 else found shape.AndAnd 2) (if next == 46 then found shape.SafeDot 2 else or_assign next shape.Ampersand shape.AmpersandAssign) (node 61 last (λ n g. IsRow 38 38 n g) (found shape.AndAssign 3) (found shape.AndAnd 2) ((listed-holds shape.AndAssign (38 ∷ 38 ∷ 61 ∷ []) OPERATORS refl, inr (inr refl))) ((listed-holds shape.AndAnd (38 ∷ 38 ∷ []) OPERATORS refl, inr (inl refl)))) (node 46 next (λ n g. IsRow 38 n last g) (found shape.SafeDot 2) (or_assign next shape.Ampersand shape.AmpersandAssign) ((listed-holds shape.SafeDot (38 ∷ 46 ∷ []) OPERATORS refl, inr (inl refl))) (ampersand_or-row next last))

pipe-row : (next last : ℕ) → IsRow 124 next last (pipe next last)
unfolding same_shape
pipe-row next last = node 124 next (λ n g. IsRow 124 n last g) (if last == 61 then found shape.OrAssign 3 else found shape.OrOr 2) (or_assign next shape.Pipe shape.PipeAssign) (node 61 last (λ n g. IsRow 124 124 n g) (found shape.OrAssign 3) (found shape.OrOr 2) ((listed-holds shape.OrAssign (124 ∷ 124 ∷ 61 ∷ []) OPERATORS refl, inr (inr refl))) ((listed-holds shape.OrOr (124 ∷ 124 ∷ []) OPERATORS refl, inr (inl refl)))) (pipe_or-row next last)

dot-row : (next last : ℕ) → IsRow 46 next last (dot next)
unfolding same_shape
dot-row next last = node 46 next (λ n g. IsRow 46 n last g) (Foreign) (found shape.Dot 1) (inr (inr (inr (inl refl)))) ((listed-holds shape.Dot (46 ∷ []) OPERATORS refl, inl refl))

colon-row : (next last : ℕ) → IsRow 58 next last (colon next)
unfolding same_shape
colon-row next last = node 58 next (λ n g. IsRow 58 n last g) (found shape.Scope 2) (found shape.Colon 1) ((listed-holds shape.Scope (58 ∷ 58 ∷ []) OPERATORS refl, inr (inl refl))) ((listed-holds shape.Colon (58 ∷ []) OPERATORS refl, inl refl))

single-row : (b next last : ℕ) → IsRow b next last (single b)
unfolding same_shape
single-row b next last =
    (node 126 b (λ n g. IsRow n next last g) _ _ (listed-holds shape.Tilde (126 ∷ []) OPERATORS refl, inl refl)
    (node 63 b (λ n g. IsRow n next last g) _ _ (listed-holds shape.Question (63 ∷ []) OPERATORS refl, inl refl)
    (node 44 b (λ n g. IsRow n next last g) _ _ (listed-holds shape.Comma (44 ∷ []) OPERATORS refl, inl refl)
    (node 40 b (λ n g. IsRow n next last g) _ _ (listed-holds shape.OpenParen (40 ∷ []) OPERATORS refl, inl refl)
    (node 41 b (λ n g. IsRow n next last g) _ _ (listed-holds shape.CloseParen (41 ∷ []) OPERATORS refl, inl refl)
    (node 91 b (λ n g. IsRow n next last g) _ _ (listed-holds shape.OpenBracket (91 ∷ []) OPERATORS refl, inl refl)
    (node 93 b (λ n g. IsRow n next last g) _ _ (listed-holds shape.CloseBracket (93 ∷ []) OPERATORS refl, inl refl)
    (node 123 b (λ n g. IsRow n next last g) _ _ (listed-holds shape.OpenBrace (123 ∷ []) OPERATORS refl, inl refl)
    (node 125 b (λ n g. IsRow n next last g) _ _ (listed-holds shape.CloseBrace (125 ∷ []) OPERATORS refl, inl refl)
    tt)))))))))

compound-row : (b next last : ℕ) → IsRow b next last (compound b next last)
unfolding same_shape
compound-row b next last =
    (node 61 b (λ n g. IsRow n next last g) _ _ (equals-row next last)
    (node 33 b (λ n g. IsRow n next last g) _ _ (not-row next last)
    (node 60 b (λ n g. IsRow n next last g) _ _ (less-row next last)
    (node 62 b (λ n g. IsRow n next last g) _ _ (greater-row next last)
    (node 38 b (λ n g. IsRow n next last g) _ _ (ampersand-row next last)
    (node 124 b (λ n g. IsRow n next last g) _ _ (pipe-row next last)
    (single-row b next last)))))))

pub operator-row : (b next last : ℕ) → IsRow b next last (operator b next last)
unfolding operator
operator-row b next last =
    (node 46 b (λ n g. IsRow n next last g) _ _ (dot-row next last)
    (node 58 b (λ n g. IsRow n next last g) _ _ (colon-row next last)
    (node 43 b (λ n g. IsRow n next last g) _ _ (plus-row next last)
    (node 45 b (λ n g. IsRow n next last g) _ _ (minus-row next last)
    (node 42 b (λ n g. IsRow n next last g) _ _ (star-row next last)
    (node 47 b (λ n g. IsRow n next last g) _ _ (slash-row next last)
    (node 37 b (λ n g. IsRow n next last g) _ _ (percent-row next last)
    (node 94 b (λ n g. IsRow n next last g) _ _ (caret-row next last)
    (compound-row b next last)))))))))

-- ---- the longest

-- what is found is at least so long
abbrev pub AtLeast : ℕ → Sign → Type 0
AtLeast k (Operator s n) = k ≤ n
AtLeast k Foreign = Unit {0}
AtLeast k Nothing = ⊥

either : (k : ℕ) (t : Bool) (x y : Sign) → AtLeast k x → AtLeast k y → AtLeast k (if t then x else y)
either k true x y px py = px
either k false x y px py = py

or_assign-some : (next : ℕ) (s t : Shape) → AtLeast 1 (or_assign next s t)
or_assign-some next s t = either 1 (next == 61) (found t 2) (found s 1) (omega arith) (omega arith)

-- an operator of one character, or one of two that begins with it
minus-some : (m : ℕ) → AtLeast 1 (minus m)
minus-some m = either 1 (m == 62) Foreign (or_assign m shape.Minus shape.MinusAssign) tt (or_assign-some m shape.Minus shape.MinusAssign)

-- three characters where this one comes, else two
three-or-two : (k l c : ℕ) (s t : Shape) → k ≤ 2 → AtLeast k (if l == c then found s 3 else found t 2)
three-or-two k l c s t h = either k (l == c) (found s 3) (found t 2) (omega arith) (omega arith)

star-some : (m l : ℕ) → AtLeast 1 (star m l)
star-some m l = either 1 (m == 42) _ _ (three-or-two 1 l 61 shape.PowerAssign shape.Power (omega arith)) (or_assign-some m shape.Star shape.StarAssign)

less-some : (m l : ℕ) → AtLeast 1 (less m l)
less-some m l =
    either 1 (m == 61) _ _ (three-or-two 1 l 62 shape.Compare shape.LessEqual (omega arith))
    (either 1 (m == 60) _ _ (three-or-two 1 l 61 shape.ShiftLeftAssign shape.ShiftLeft (omega arith)) (omega arith))

greater-some : (m l : ℕ) → AtLeast 1 (greater m l)
greater-some m l = either 1 (m == 62) _ _ (three-or-two 1 l 61 shape.ShiftRightAssign shape.ShiftRight (omega arith)) (or_assign-some m shape.Greater shape.GreaterEqual)

not-some : (m : ℕ) → AtLeast 1 (not_sign m)
not-some m = either 1 (m == 126) Foreign _ tt (or_assign-some m shape.Not shape.NotEqual)

ampersand-some : (m l : ℕ) → AtLeast 1 (ampersand m l)
ampersand-some m l =
    either 1 (m == 38) _ _ (three-or-two 1 l 61 shape.AndAssign shape.AndAnd (omega arith))
    (either 1 (m == 46) _ _ (omega arith) (or_assign-some m shape.Ampersand shape.AmpersandAssign))

pipe-some : (m l : ℕ) → AtLeast 1 (pipe m l)
pipe-some m l = either 1 (m == 124) _ _ (three-or-two 1 l 61 shape.OrAssign shape.OrOr (omega arith)) (or_assign-some m shape.Pipe shape.PipeAssign)

equals-some : (m l : ℕ) → AtLeast 1 (equals m l)
equals-some m l =
    either 1 (m == 61) _ _ (three-or-two 1 l 61 shape.CaseEqual shape.Equal (omega arith))
    (either 1 (m == 62) _ _ (omega arith) (either 1 (m == 126) Foreign (found shape.Assign 1) tt (omega arith)))

colon-some : (m : ℕ) → AtLeast 1 (colon m)
colon-some m = either 1 (m == 58) (found shape.Scope 2) (found shape.Colon 1) (omega arith) (omega arith)

dot-some : (m : ℕ) → AtLeast 1 (dot m)
dot-some m = either 1 (m == 46) Foreign (found shape.Dot 1) tt (omega arith)

abbrev AtFront : (ℕ → ℕ → ℕ → Sign) → List ℕ → Type 0
AtFront f [] = ⊥
AtFront f (b ∷ []) = (m l : ℕ) → AtLeast 1 (f b m l)
AtFront f (b ∷ c ∷ []) = (m l : ℕ) → AtLeast 2 (f b c m)
AtFront f (b ∷ c ∷ d ∷ []) = (m l : ℕ) → AtLeast 3 (f b c d)
AtFront f (b ∷ c ∷ d ∷ e ∷ w) = ⊥

operator-rows : EachRow (λ (row : Shape × List ℕ). AtFront operator row.1) OPERATORS
unfolding operator
operator-rows = (
  (λ m l. or_assign-some m shape.Plus shape.PlusAssign),
  (
    (λ m l. minus-some m),
    (
      (λ m l. star-some m l),
      (
        (λ m l. or_assign-some m shape.Slash shape.SlashAssign),
        (
          (λ m l. or_assign-some m shape.Percent shape.PercentAssign),
          (
            (λ m l. three-or-two 2 m 61 shape.PowerAssign shape.Power (omega arith)),
            (
              (λ m l. three-or-two 2 m 61 shape.CaseEqual shape.Equal (omega arith)),
              (
                (λ m l. omega arith),
                (
                  (λ m l. omega arith),
                  (
                    (λ m l. omega arith),
                    (
                      (λ m l. less-some m l),
                      (
                        (λ m l. greater-some m l),
                        (
                          (λ m l. three-or-two 2 m 62 shape.Compare shape.LessEqual (omega arith)),
                          (
                            (λ m l. omega arith),
                            (
                              (λ m l. three-or-two 2 m 61 shape.AndAssign shape.AndAnd (omega arith)),
                              (
                                (λ m l. three-or-two 2 m 61 shape.OrAssign shape.OrOr (omega arith)),
                                (
                                  (λ m l. not-some m),
                                  (
                                    (λ m l. omega arith),
                                    (
                                      (λ m l. ampersand-some m l),
                                      (
                                        (λ m l. pipe-some m l),
                                        (
                                          (λ m l. or_assign-some m shape.Caret shape.CaretAssign),
                                          (
                                            (λ m l. three-or-two 2 m 61 shape.ShiftLeftAssign shape.ShiftLeft (omega arith)),
                                            (
                                              (λ m l. three-or-two 2 m 61 shape.ShiftRightAssign shape.ShiftRight (omega arith)),
                                              (
                                                (λ m l. equals-some m l),
                                                (
                                                  (λ m l. omega arith),
                                                  (
                                                    (λ m l. omega arith),
                                                    (
                                                      (λ m l. colon-some m),
                                                      (
                                                        (λ m l. omega arith),
                                                        (
                                                          (λ m l. dot-some m),
                                                          (
                                                            (λ m l. omega arith),
                                                            (
                                                              (λ m l. omega arith),
                                                              (
                                                                (λ m l. omega arith),
                                                                (
                                                                  (λ m l. omega arith),
                                                                  (
                                                                    (λ m l. omega arith),
                                                                    (
                                                                      (λ m l. omega arith),
                                                                      (
                                                                        (λ m l. omega arith),
                                                                        (
                                                                          (λ m l. omega arith),
                                                                          (
                                                                            (λ m l. omega arith),
                                                                            (
                                                                              (λ m l. omega arith),
                                                                              (
                                                                                (λ m l. omega arith),
                                                                                (
                                                                                  (λ m l. omega arith),
                                                                                  (
                                                                                    (λ m l. omega arith),
                                                                                    (
                                                                                      (λ m l. omega arith),
                                                                                      (
                                                                                        (λ m l. omega arith),
                                                                                        (
                                                                                          (λ m l. omega arith),
                                                                                          (
                                                                                            (λ m l. omega arith),
                                                                                            (
                                                                                              (λ m l. omega arith),
                                                                                              (
                                                                                                (λ m l. omega arith),
                                                                                                (
                                                                                                  (λ m l. omega arith),
                                                                                                  ((λ m l. omega arith), tt),
                                                                                                ),
                                                                                              ),
                                                                                            ),
                                                                                          ),
                                                                                        ),
                                                                                      ),
                                                                                    ),
                                                                                  ),
                                                                                ),
                                                                              ),
                                                                            ),
                                                                          ),
                                                                        ),
                                                                      ),
                                                                    ),
                                                                  ),
                                                                ),
                                                              ),
                                                            ),
                                                          ),
                                                        ),
                                                      ),
                                                    ),
                                                  ),
                                                ),
                                              ),
                                            ),
                                          ),
                                        ),
                                      ),
                                    ),
                                  ),
                                ),
                              ),
                            ),
                          ),
                        ),
                      ),
                    ),
                  ),
                ),
              ),
            ),
          ),
        ),
      ),
    ),
  ),
)

name-rows : EachRow (λ (row : Shape × List ℕ). AtFront method_name row.1) OPERATORS
unfolding operator method_name
name-rows = (
  (λ m l. either 1 (m == 64) _ _ (omega arith) (or_assign-some m shape.Plus shape.PlusAssign)),
  (
    (λ m l. either 1 (m == 64) _ _ (omega arith) (minus-some m)),
    (
      (λ m l. star-some m l),
      (
        (λ m l. or_assign-some m shape.Slash shape.SlashAssign),
        (
          (λ m l. or_assign-some m shape.Percent shape.PercentAssign),
          (
            (λ m l. three-or-two 2 m 61 shape.PowerAssign shape.Power (omega arith)),
            (
              (λ m l. three-or-two 2 m 61 shape.CaseEqual shape.Equal (omega arith)),
              (
                (λ m l. omega arith),
                (
                  (λ m l. omega arith),
                  (
                    (λ m l. omega arith),
                    (
                      (λ m l. less-some m l),
                      (
                        (λ m l. greater-some m l),
                        (
                          (λ m l. three-or-two 2 m 62 shape.Compare shape.LessEqual (omega arith)),
                          (
                            (λ m l. omega arith),
                            (
                              (λ m l. three-or-two 2 m 61 shape.AndAssign shape.AndAnd (omega arith)),
                              (
                                (λ m l. three-or-two 2 m 61 shape.OrAssign shape.OrOr (omega arith)),
                                (
                                  (λ m l. not-some m),
                                  (
                                    (λ m l. omega arith),
                                    (
                                      (λ m l. ampersand-some m l),
                                      (
                                        (λ m l. pipe-some m l),
                                        (
                                          (λ m l. or_assign-some m shape.Caret shape.CaretAssign),
                                          (
                                            (λ m l. three-or-two 2 m 61 shape.ShiftLeftAssign shape.ShiftLeft (omega arith)),
                                            (
                                              (λ m l. three-or-two 2 m 61 shape.ShiftRightAssign shape.ShiftRight (omega arith)),
                                              (
                                                (λ m l. equals-some m l),
                                                (
                                                  (λ m l. omega arith),
                                                  (
                                                    (λ m l. omega arith),
                                                    (
                                                      (λ m l. colon-some m),
                                                      (
                                                        (λ m l. omega arith),
                                                        (
                                                          (λ m l. dot-some m),
                                                          (
                                                            (λ m l. omega arith),
                                                            (
                                                              (λ m l. omega arith),
                                                              (
                                                                (λ m l. omega arith),
                                                                (
                                                                  (λ m l. omega arith),
                                                                  (
                                                                    (λ m l. either 1 (m == 93) _ _ (three-or-two 1 l 61 shape.IndexAssign shape.Index (omega arith)) (omega arith)),
                                                                    (
                                                                      (λ m l. omega arith),
                                                                      (
                                                                        (λ m l. omega arith),
                                                                        (
                                                                          (λ m l. omega arith),
                                                                          (
                                                                            (λ m l. omega arith),
                                                                            (
                                                                              (λ m l. omega arith),
                                                                              (
                                                                                (λ m l. omega arith),
                                                                                (
                                                                                  (λ m l. omega arith),
                                                                                  (
                                                                                    (λ m l. omega arith),
                                                                                    (
                                                                                      (λ m l. omega arith),
                                                                                      (
                                                                                        (λ m l. omega arith),
                                                                                        (
                                                                                          (λ m l. omega arith),
                                                                                          (
                                                                                            (λ m l. omega arith),
                                                                                            (
                                                                                              (λ m l. omega arith),
                                                                                              ((λ m l. omega arith), ((λ m l. omega arith), ((λ m l. omega arith), tt))),
                                                                                            ),
                                                                                          ),
                                                                                        ),
                                                                                      ),
                                                                                    ),
                                                                                  ),
                                                                                ),
                                                                              ),
                                                                            ),
                                                                          ),
                                                                        ),
                                                                      ),
                                                                    ),
                                                                  ),
                                                                ),
                                                              ),
                                                            ),
                                                          ),
                                                        ),
                                                      ),
                                                    ),
                                                  ),
                                                ),
                                              ),
                                            ),
                                          ),
                                        ),
                                      ),
                                    ),
                                  ),
                                ),
                              ),
                            ),
                          ),
                        ),
                      ),
                    ),
                  ),
                ),
              ),
            ),
          ),
        ),
      ),
    ),
  ),
)

method-rows : EachRow (λ (row : Shape × List ℕ). AtFront method_name row.1) METHOD_OPERATORS
unfolding operator method_name
method-rows = ((λ m l. omega arith), ((λ m l. omega arith), ((λ m l. either 2 (m == 61) (found shape.IndexAssign 3) (found shape.Index 2) (omega arith) (omega arith)), ((λ m l. omega arith), tt))))

at-front : (f : ℕ → ℕ → ℕ → Sign) (w more : List ℕ) → AtFront f w → AtLeast (length w) (f (slice_index (w ++ more) 0) (slice_index (w ++ more) 1) (slice_index (w ++ more) 2))
at-front f [] more h = absurd h
at-front f (b ∷ []) more h = h (slice_index (b ∷ more) 1) (slice_index (b ∷ more) 2)
at-front f (b ∷ c ∷ []) more h = h (slice_index (b ∷ c ∷ more) 2) 0
at-front f (b ∷ c ∷ d ∷ []) more h = h 0 0
at-front f (b ∷ c ∷ d ∷ e ∷ w) more h = absurd h

pub operator-longest : (s : Shape) (w more : List ℕ) → Holds (s, w) OPERATORS → AtLeast (length w) (operator (slice_index (w ++ more) 0) (slice_index (w ++ more) 1) (slice_index (w ++ more) 2))
operator-longest s w more h = at-front operator w more (at-row (λ (row : Shape × List ℕ). AtFront operator row.1) (s, w) OPERATORS operator-rows h)

pub name-longest : (s : Shape) (w more : List ℕ) → Holds (s, w) OPERATORS → AtLeast (length w) (method_name (slice_index (w ++ more) 0) (slice_index (w ++ more) 1) (slice_index (w ++ more) 2))
name-longest s w more h = at-front method_name w more (at-row (λ (row : Shape × List ℕ). AtFront method_name row.1) (s, w) OPERATORS name-rows h)

pub method-longest : (s : Shape) (w more : List ℕ) → Holds (s, w) METHOD_OPERATORS → AtLeast (length w) (method_name (slice_index (w ++ more) 0) (slice_index (w ++ more) 1) (slice_index (w ++ more) 2))
method-longest s w more h = at-front method_name w more (at-row (λ (row : Shape × List ℕ). AtFront method_name row.1) (s, w) METHOD_OPERATORS method-rows h)

-- ---- as a method's name

-- what is found as a method's name is of the lists
abbrev pub IsNameRow : ℕ → ℕ → ℕ → Sign → Type 0
IsNameRow b next last (Operator s n) = (Holds (s, word n b next last) OPERATORS ⊎ Holds (s, word n b next last) METHOD_OPERATORS) × ((n ≡ 1) ⊎ (n ≡ 2) ⊎ (n ≡ 3))
IsNameRow b next last Foreign = Holds (b ∷ next ∷ []) FOREIGN_OPERATORS
IsNameRow b next last Nothing = Unit {0}

row-name : (b next last : ℕ) (g : Sign) → IsRow b next last g → IsNameRow b next last g
row-name b next last (Operator s n) h = (inl h.0, h.1)
row-name b next last Foreign h = h
row-name b next last Nothing h = h

two-tests : (j k b next last : ℕ) (x y : Sign) → IsNameRow j k last x → IsNameRow b next last y → IsNameRow b next last (if b == j && next == k then x else y)
two-tests j k b next last x y px py =
    split (IsNameRow b next last) (b == j && next == k) x y
    (λ e. let both = and-both (b == j) (next == k) e in subst (λ n. IsNameRow n next last x) (sym (eq-is b j both.0)) (subst (λ n. IsNameRow j n last x) (sym (eq-is next k both.1)) px))
    (λ e. py)

pub method_name-row : (b next last : ℕ) → IsNameRow b next last (method_name b next last)
unfolding method_name
method_name-row b next last =
    two-tests 45 64 b next last (found shape.UnaryMinus 2) _ (inr (inl refl), inr (inl refl))
    (two-tests 43 64 b next last (found shape.UnaryPlus 2) _ (inr (inr (inl refl)), inr (inl refl))
    (two-tests 91 93 b next last (if last == 61 then found shape.IndexAssign 3 else found shape.Index 2) _
    (node 61 last (λ n g. IsNameRow 91 93 n g) (found shape.IndexAssign 3) (found shape.Index 2) (inr (inr (inr (inr (inl refl)))), inr (inr refl)) (inr (inr (inr (inl refl))), inr (inl refl)))
    (row-name b next last (operator b next last) (operator-row b next last))))

-- ---- what is found of a spelling alone

abbrev IsNamed : Shape × List ℕ → Type 0
IsNamed row = method_name (slice_index row.1 0) (slice_index row.1 1) (slice_index row.1 2) ≡ Operator row.0 (length row.1)

named-rows : EachRow IsNamed OPERATORS
unfolding operator method_name
named-rows = (refl, (refl, (refl, (refl, (refl, (refl, (refl, (refl, (refl, (refl, (refl, (refl, (refl, (refl, (refl, (refl, (refl, (refl, (refl, (refl, (refl, (refl, (refl, (refl, (refl, (refl, (refl, (refl, (refl, (refl, (refl, (refl, (refl, (refl, (refl, (refl, (refl, (refl, (refl, (refl, (refl, (refl, (refl, (refl, (refl, (refl, (refl, (refl, (refl, (refl, tt))))))))))))))))))))))))))))))))))))))))))))))))))

named-methods : EachRow IsNamed METHOD_OPERATORS
unfolding operator method_name
named-methods = (refl, (refl, (refl, (refl, tt))))

pub row-named : (s : Shape) (w : List ℕ) → (Holds (s, w) OPERATORS ⊎ Holds (s, w) METHOD_OPERATORS) → method_name (slice_index w 0) (slice_index w 1) (slice_index w 2) ≡ Operator s (length w)
row-named s w (inl h) = at-row IsNamed (s, w) OPERATORS named-rows h
row-named s w (inr h) = at-row IsNamed (s, w) METHOD_OPERATORS named-methods h

-- one spelling is of one operator
pub one-shape : (s t : Shape) (w : List ℕ) → (Holds (s, w) OPERATORS ⊎ Holds (s, w) METHOD_OPERATORS) → (Holds (t, w) OPERATORS ⊎ Holds (t, w) METHOD_OPERATORS) → s ≡ t
one-shape s t w h k = let e = row-named s w h in let f = row-named t w k in cc

-- ---- spellings outside the profile

abbrev IsForeignFront : (ℕ → ℕ → ℕ → Sign) → List ℕ → Type 0
IsForeignFront f [] = ⊥
IsForeignFront f (b ∷ []) = ⊥
IsForeignFront f (b ∷ c ∷ w) = (m : ℕ) → f b c m ≡ Foreign

foreign-operators : EachRow (IsForeignFront operator) FOREIGN_OPERATORS
unfolding operator
foreign-operators = ((λ m. refl), ((λ m. refl), ((λ m. refl), ((λ m. refl), ((λ m. refl), tt)))))

foreign-names : EachRow (IsForeignFront method_name) FOREIGN_OPERATORS
unfolding operator method_name
foreign-names = ((λ m. refl), ((λ m. refl), ((λ m. refl), ((λ m. refl), ((λ m. refl), tt)))))

foreign-front : (f : ℕ → ℕ → ℕ → Sign) (w more : List ℕ) → IsForeignFront f w → f (slice_index (w ++ more) 0) (slice_index (w ++ more) 1) (slice_index (w ++ more) 2) ≡ Foreign
foreign-front f [] more h = absurd h
foreign-front f (b ∷ []) more h = absurd h
foreign-front f (b ∷ c ∷ w) more h = h (slice_index (b ∷ c ∷ (w ++ more)) 2)

pub foreign-operator : (w more : List ℕ) → Holds w FOREIGN_OPERATORS → operator (slice_index (w ++ more) 0) (slice_index (w ++ more) 1) (slice_index (w ++ more) 2) ≡ Foreign
foreign-operator w more h = foreign-front operator w more (at-row (IsForeignFront operator) w FOREIGN_OPERATORS foreign-operators h)

pub foreign-name : (w more : List ℕ) → Holds w FOREIGN_OPERATORS → method_name (slice_index (w ++ more) 0) (slice_index (w ++ more) 1) (slice_index (w ++ more) 2) ≡ Foreign
foreign-name w more h = foreign-front method_name w more (at-row (IsForeignFront method_name) w FOREIGN_OPERATORS foreign-names h)
