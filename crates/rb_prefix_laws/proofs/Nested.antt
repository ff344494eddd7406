-- What is asked of the forms that nest: that they read alike, that what begins an operand is taken, and that they refuse at the end.
use Rattle.std.proofs.Common.{◌≡◌, ℕ, suc, ◌-◌, Bool, true, false, if◌then◌else◌, List, [], ◌∷◌, Err, refl, ap}
use Rattle.rb_tree.specs.Tokens.{shape_of}
use Rattle.rb_tree.specs.declared.syntax.Tree.{Tree}
use Rattle.rb_tree.specs.declared.token.Token.{Token}
use Rattle.rb_tree.specs.declared.token.Shape.{Shape}
use Rattle.rb_tree.specs.declared.token.Shape.TheVariants as shape
use Rattle.rb_expr.specs.declared.form.Form.{Form}
use Rattle.rb_expr.specs.declared.form.Form.TheVariants as form
use Rattle.rb_expr.specs.Reading.{Parser}
use Rattle.rb_expr.specs.Shapes.{begins_value, has_value, is_signed}
use Rattle.rb_prefix_laws.proofs.Steps.{Fits}
use Rattle.rb_prefix_laws.proofs.Cuts.{Cut}
use Rattle.rb_prefix_laws.proofs.Steps.Amount.{any}

-- an operand takes such a token that is next
abbrev pub grips : Shape → Bool
grips shape.If = true
grips shape.Unless = true
grips shape.While = true
grips shape.Until = true
grips other = begins_value other

-- how many tokens an operand without a prefix takes in any case
abbrev pub hold_by : Shape → Token → List Token → ℕ
hold_by shape.Minus t ts = if is_signed t.span ts then 2 else 1
hold_by shape.Plus t ts = if is_signed t.span ts then 2 else 1
hold_by shape.Not t ts = 0
hold_by shape.Tilde t ts = 0
hold_by s t ts = if grips s then 1 else 0

abbrev pub hold : List Token → ℕ
hold [] = 0
hold (t ∷ ts) = hold_by (shape_of t.kind) t ts

-- how many one with prefixes takes
abbrev pub grip_by : Shape → Token → List Token → ℕ
grip_by shape.Not t ts = 1
grip_by shape.Tilde t ts = 1
grip_by s t ts = hold_by s t ts

abbrev pub grip : List Token → ℕ
grip [] = 0
grip (t ∷ ts) = grip_by (shape_of t.kind) t ts

-- what begins a value is taken
value-grips : (s : Shape) → begins_value s ≡ true → grips s ≡ true
value-grips shape.If e = refl
value-grips shape.Unless e = refl
value-grips shape.While e = refl
value-grips shape.Until e = refl
value-grips s e = e

some-grip-by : (s : Shape) (t : Token) (ts : List Token) → grips s ≡ true → (n : ℕ) × (grip_by s t ts ≡ suc n)
some-grip-by shape.Minus t ts e = go (is_signed t.span ts)
  where
    go : (b : Bool) → (n : ℕ) × ((if b then 2 else 1) ≡ suc n)
    go true = (1, refl)
    go false = (0, refl)
some-grip-by shape.Plus t ts e = go (is_signed t.span ts)
  where
    go : (b : Bool) → (n : ℕ) × ((if b then 2 else 1) ≡ suc n)
    go true = (1, refl)
    go false = (0, refl)
some-grip-by shape.Not t ts e = (0, refl)
some-grip-by shape.Tilde t ts e = (0, refl)
some-grip-by s t ts e = (0, ap (λ b. if b then 1 else 0) e)

pub some-grip : (t : Token) (ts : List Token) → grips (shape_of t.kind) ≡ true → (n : ℕ) × (grip (t ∷ ts) ≡ suc n)
some-grip t ts e = some-grip-by (shape_of t.kind) t ts e

pub value-grip : (xs : List Token) → has_value xs ≡ true → (n : ℕ) × (grip xs ≡ suc n)
unfolding has_value
value-grip [] e = absurd (cc)
value-grip (t ∷ ts) e = some-grip t ts (value-grips (shape_of t.kind) e)

pub record Inner (nested other : Form → Bool → Parser Tree) (k : ℕ) : Type 0 where
  pub reads : (f : Form) (free : Bool) (xs : List Token) → Cut (k - 1) (any 0) xs (nested f free xs) (other f free)
  pub negated : (free : Bool) (xs : List Token) → Cut (k - 1) (any (grip xs)) xs (nested form.Negated free xs) (other form.Negated free)
  pub term : (free : Bool) (xs : List Token) → Cut (k - 1) (any (grip xs)) xs (nested form.Tern free xs) (other form.Tern free)
  pub valued : (free : Bool) (xs : List Token) → Cut (k - 1) (any (grip xs)) xs (nested form.Value free xs) (other form.Value free)
  pub no_term : (free : Bool) → other form.Tern free [] ≡ Err []
  pub no_simple : (free : Bool) → other form.Simple free [] ≡ Err []

abbrev pub Nests : (Form → Bool → Parser Tree) → (Form → Bool → Parser Tree) → ℕ → ℕ → Type 0
Nests nested other turns more = (k : ℕ) → Fits turns more k → Inner nested other k
