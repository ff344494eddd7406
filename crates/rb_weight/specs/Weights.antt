-- The weight after a list of tokens: the levels that are open there, and the operators that stand directly in them.
use Rattle.std.specs.Prelude.{◌≡◌, ℕ, ◌+◌, ◌-◌, ◌<◌, ◌≤◌, List, [], ◌∷◌, length, take, drop, Option, Some, None}
use Rattle.rb_tree.specs.Tokens.{shape_of}
use Rattle.rb_tree.specs.declared.token.Token.{Token}
use Rattle.rb_tree.specs.declared.token.Shape.{Shape}
use Rattle.rb_weight.specs.Sorts.{sort_of}
use Rattle.rb_weight.specs.Effects.{effect_of, after, separated}
use Rattle.rb_weight.specs.declared.effect.Before.{Before}
use Rattle.rb_weight.specs.declared.effect.Before.TheVariants as before
use Rattle.rb_weight.specs.declared.effect.Level.{Level}
use Rattle.rb_weight.specs.declared.effect.Level.TheVariants as level
use Rattle.rb_weight.specs.declared.effect.Effect.{Effect}
use Rattle.rb_weight.specs.declared.effect.Effect.TheVariants as effect
use Rattle.rb_weight.specs.Limits.{MOST}

-- an open level: its kind, and how many operators and modifiers stand directly in it after its last separator, `,`, `then`,
-- `else`, `elsif`, `when`, `rescue` or `ensure`
pub record Open : Type 0 where
  pub level : Level
  pub standing : ℕ

-- What is known after a token: the open levels, the innermost first and the one at the start last, and what the token says about
-- the next one. Where the level at the start has closed, there is none.
pub record Nest : Type 0 where
  pub levels : List Open
  pub before : Before

-- ---- one token more

-- a token with this effect in the innermost open level
unfoldable pub within : Effect → Open → List Open → List Open
within effect.Nothing o os = o ∷ os
within (effect.Opens l) o os = record { level = l; standing = 0 } ∷ o ∷ os
within effect.Closes o os = os
within effect.Enters o os = record { level = level.Plain; standing = o.standing } ∷ os
within effect.Separates o os = record { level = separated o.level; standing = 0 } ∷ os
within effect.Divides o os = record { level = o.level; standing = 0 } ∷ os
within effect.Counts o os = record { level = o.level; standing = o.standing + 1 } ∷ os

abbrev pub turned : Effect → List Open → List Open
turned e [] = []
turned e (o ∷ os) = within e o os

-- the kind of the innermost open level
abbrev pub innermost : List Open → Level
innermost [] = level.Plain
innermost (o ∷ os) = o.level

abbrev pub next : Shape → Nest → Nest
next c n =
    record {
      levels = turned (effect_of n.before (innermost n.levels) (sort_of c)) n.levels;
      before = after n.before (innermost n.levels) (sort_of c);
    }

-- what is known after these tokens
abbrev pub nest_after : Nest → List Token → Nest
nest_after n [] = n
nest_after n (t ∷ ts) = nest_after (next (shape_of t.kind) n) ts

-- ---- the weight

-- the operators that stand directly in these levels
abbrev pub operators : List Open → ℕ
operators [] = 0
operators (o ∷ os) = o.standing + operators os

-- The weight where these levels are open and the one at the start has the weight `around` by itself: one for each level that opened
-- after the start, and one for each operator.
abbrev pub weight_of : ℕ → List Open → ℕ
weight_of around [] = 0
weight_of around (o ∷ os) = around + length os + operators (o ∷ os)

-- the start of a program, body or expression, where `here` operators stand directly in the level that is open there
abbrev pub begun : ℕ → Nest
begun here = record { levels = record { level = level.Plain; standing = here } ∷ []; before = before.Plain }

-- the weight after these tokens from such a start, at which it is `weight`
abbrev pub weight_after : ℕ → ℕ → List Token → ℕ
weight_after weight here tokens = weight_of (weight - here) (nest_after (begun here) tokens).levels

-- the weight from such a start first passes the greatest at the token at this place, counted from 0
pub record DeepAt (tokens : List Token) (weight here at : ℕ) : Type 0 where
  pub within : at < length tokens
  pub deep : MOST < weight_after weight here (take (at + 1) tokens)
  pub first : (k : ℕ) → k ≤ at → weight_after weight here (take k tokens) ≤ MOST

-- what place it is after `from` tokens, if there is one
abbrev pub IsFirstDeep : List Token → ℕ → ℕ → ℕ → Option ℕ → Type 0
IsFirstDeep tokens from weight here (Some place) = (at : ℕ) × (place ≡ from + at) × DeepAt (drop from tokens) weight here at
IsFirstDeep tokens from weight here None = (at : ℕ) → ¬ DeepAt (drop from tokens) weight here at
