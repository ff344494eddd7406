-- The sorts of the words and operators in the tables of the grammar.
use Rattle.std.proofs.Common.{◌≡◌, ℕ, zero, suc, List, [], ◌∷◌, inl, inr, refl, sym, subst}
use Rattle.rb_tree.specs.Tokens.{shape_of}
use Rattle.rb_tree.specs.declared.token.Shape.{Shape}
use Rattle.rb_tree.specs.declared.syntax.Binary.{Binary}
use Rattle.rb_tree.specs.declared.syntax.Dot.{Dot}
use Rattle.rb_tree.specs.declared.syntax.Jump.{Jump}
use Rattle.rb_tree.specs.declared.syntax.Modifier.{Modifier}
use Rattle.rb_tree.specs.declared.syntax.Sign.{Sign}
use Rattle.rb_tree.specs.declared.syntax.Test.{Test}
use Rattle.rb_tree.specs.declared.syntax.Unary.{Unary}
use Rattle.rb_tree.specs.declared.token.Token.{Token}
use Rattle.rb_rules.specs.Tokens.{StartsWith}
use Rattle.rb_rules.specs.Forms.{found, LEVELS, IsAt, Operates, ASSIGNMENTS, METHODS, NO_COMMAND}
use Rattle.rb_rules.specs.Grammar.{IsRow, MODIFIER_WORDS, JUMP_WORDS, BRANCH_WORDS, LOOP_WORDS, SIGNS, PREFIXES, DOTS}
use Rattle.rb_weight.specs.Sorts.{sort_of}
use Rattle.rb_weight.specs.declared.sort.Sort.TheVariants as sort
use Rattle.rb_weight.specs.declared.effect.Before.{Before}
use Rattle.rb_weight.specs.declared.effect.Before.TheVariants as before
use Rattle.rb_weight_laws.proofs.Steps.{Ready, Starts}
use Rattle.rb_weight_laws.proofs.Steps.Starts.{First, After}
use Rattle.rb_weight_laws.proofs.Tokens.{Counting, Modifying}
use Rattle.rb_weight_laws.proofs.Tokens.Counting.{ByOperator, ByDot, ByPipe}
use Rattle.rb_weight_laws.proofs.Tokens.Modifying.{ByChoice, ByLoop}

-- ---- tables

-- it holds of the first part of each row
abbrev Every : {A B : Type 0} → (A → Type 0) → List (A × B) → Type 0
Every P [] = Unit {0}
Every P (row ∷ rows) = P row.0 × Every P rows

row-holds : {A B : Type 0} (P : A → Type 0) (rows : List (A × B)) (a : A) (b : B) → IsRow rows a b → Every P rows → P a
row-holds P [] a b h e = absurd h
row-holds P (row ∷ rows) a b (inl p) e = subst P (sym p.0) e.0
row-holds P (row ∷ rows) a b (inr h) e = row-holds P rows a b h e.1

found-holds : {A : Type 0} (P : Shape → Type 0) (rows : List (Shape × A)) (s : Shape) (a : A) → found rows s a → Every P rows → P s
found-holds P [] s a h e = absurd h
found-holds P (row ∷ rows) s a (inl p) e = subst P (sym p.0) e.0
found-holds P (row ∷ rows) s a (inr h) e = found-holds P rows s a h e.1

-- it holds of each element
abbrev All : {A : Type 0} → (A → Type 0) → List A → Type 0
All P [] = Unit {0}
All P (x ∷ xs) = P x × All P xs

at-holds : {A : Type 0} (P : A → Type 0) (xs : List A) (n : ℕ) (x : A) → IsAt xs n x → All P xs → P x
at-holds P [] n x h e = absurd h
at-holds P (y ∷ ys) zero x h e = subst P (sym h) e.0
at-holds P (y ∷ ys) (suc n) x h e = at-holds P ys n x h e.1

-- ---- operators

abbrev Counts : Shape → Type 0
Counts s = Counting (sort_of s)

abbrev Operators : Shape → Type 0
Operators s = sort_of s ≡ sort.Operator

pub operates : {level : ℕ} {s : Shape} {operator : Binary} → Operates level s operator → Counting (sort_of s)
unfolding sort_of
operates {level = level} {s = s} {operator = operator} o =
    found-holds Counts o.row s operator o.listed (at-holds (λ (row : List (Shape × Binary)). Every Counts row) LEVELS level o.row o.on_level levels)
  where
    one : Counting sort.Operator
    one = ByOperator

    levels : All (λ (row : List (Shape × Binary)). Every Counts row) LEVELS
    levels = (
      (one, tt),
      (
        (one, tt),
        (
          (one, (one, (one, (one, tt)))),
          ((one, (one, (one, (one, tt)))), ((ByPipe, (one, tt)), ((one, tt), ((one, (one, tt)), ((one, (one, tt)), ((one, (one, (one, tt))), tt)))))),
        ),
      ),
    )

pub assignments : {s : Shape} {operator : Binary} → IsRow ASSIGNMENTS s operator → Counting (sort_of s)
unfolding sort_of
assignments {s = s} {operator = operator} h = row-holds Counts ASSIGNMENTS s operator h (one, (one, (one, (one, (one, (one, (one, (one, (one, (one, (one, (one, (one, tt)))))))))))))
  where
    one : Counting sort.Operator
    one = ByOperator

pub methods : {s : Shape} {w : List ℕ} → IsRow METHODS s w → Counting (sort_of s)
unfolding sort_of
methods {s = s} {w = w} h = row-holds Counts METHODS s w h (
  one,
  (one, (one, (one, (one, (one, (one, (one, (one, (one, (one, (one, (one, (one, (one, (one, (ByPipe, (one, (one, (one, (one, (one, (one, (one, tt))))))))))))))))))))))),
)
  where
    one : Counting sort.Operator
    one = ByOperator

pub dots : {s : Shape} {how : Dot} → IsRow DOTS s how → Counting (sort_of s)
unfolding sort_of
dots {s = s} {how = how} h = row-holds Counts DOTS s how h (ByDot, (ByOperator, tt))

pub signs : {s : Shape} {how : Sign} → IsRow SIGNS s how → sort_of s ≡ sort.Operator
unfolding sort_of
signs {s = s} {how = how} h = row-holds Operators SIGNS s how h (refl, (refl, tt))

pub prefixes : {s : Shape} {how : Unary} → IsRow PREFIXES s how → sort_of s ≡ sort.Operator
unfolding sort_of
prefixes {s = s} {how = how} h = row-holds Operators PREFIXES s how h (refl, (refl, (refl, tt)))

-- ---- words

pub jump-words : {s : Shape} {word : Jump} → IsRow JUMP_WORDS s word → sort_of s ≡ sort.Operand
unfolding sort_of
jump-words {s = s} {word = word} h = row-holds (λ (s : Shape). sort_of s ≡ sort.Operand) JUMP_WORDS s word h (refl, (refl, (refl, tt)))

pub branch-words : {s : Shape} {word : Test} → IsRow BRANCH_WORDS s word → sort_of s ≡ sort.Choice
unfolding sort_of
branch-words {s = s} {word = word} h = row-holds (λ (s : Shape). sort_of s ≡ sort.Choice) BRANCH_WORDS s word h (refl, (refl, tt))

pub loop-words : {s : Shape} {word : Test} → IsRow LOOP_WORDS s word → sort_of s ≡ sort.Loop
unfolding sort_of
loop-words {s = s} {word = word} h = row-holds (λ (s : Shape). sort_of s ≡ sort.Loop) LOOP_WORDS s word h (refl, (refl, tt))

pub modifier-words : {s : Shape} {word : Modifier} → IsRow MODIFIER_WORDS s word → Modifying (sort_of s)
unfolding sort_of
modifier-words {s = s} {word = word} h = row-holds (λ (s : Shape). Modifying (sort_of s)) MODIFIER_WORDS s word h (ByChoice, (ByChoice, (ByLoop, (ByLoop, tt))))

-- ---- where an `if`, `unless`, `while` or `until` is no modifier

pub branch-ready : {b : Before} {word : Test} (t : Token) (ts : List Token) → IsRow BRANCH_WORDS (shape_of t.kind) word → Starts b (t ∷ ts) → Ready b
branch-ready t ts h (First _ _ r) = r
branch-ready t ts (inl p) (After _ none) = absurd (none (inl p.0))
branch-ready t ts (inr (inl p)) (After _ none) = absurd (none (inr (inl p.0)))
branch-ready t ts (inr (inr h)) (After _ none) = absurd h

pub loop-ready : {b : Before} {word : Test} (t : Token) (ts : List Token) → IsRow LOOP_WORDS (shape_of t.kind) word → Starts b (t ∷ ts) → Ready b
loop-ready t ts h (First _ _ r) = r
loop-ready t ts (inl p) (After _ none) = absurd (none (inr (inr (inl p.0))))
loop-ready t ts (inr (inl p)) (After _ none) = absurd (none (inr (inr (inr (inl p.0)))))
loop-ready t ts (inr (inr h)) (After _ none) = absurd h

-- the arguments of a command begin with no such word
pub command-starts : (ts : List Token) → ¬ StartsWith NO_COMMAND ts → Starts before.Operand ts
command-starts [] none = After [] (λ h. h)
command-starts (t ∷ ts) none = After (t ∷ ts) (λ h. none (inr (inr (inr (inr (inr (inr (inr (inr (inr (inr (inr (inr h)))))))))))))
