-- The weight, told by the roles of tokens: the number of open levels, and of the operators and modifiers that stand directly in them.
use Rattle.std.specs.Prelude.{ℕ, ◌+◌, ◌<◌, ◌≤◌, List, [], ◌∷◌, length, take}
use Rattle.rb_tree.specs.declared.token.Token.{Token}
use Rattle.rb_tree.specs.declared.syntax.Tree.{Tree}
use Rattle.rb_rules.specs.Grammar.{Derives}
use Rattle.rb_weight.specs.Limits.{MOST}
use Rattle.rb_weight_laws.specs.Roles.{Role, roles}
use Rattle.rb_weight_laws.specs.Roles.Role.{Opens, Closes, Counts, LoopDo, Separates, Divides, Stands}

-- An open level is told by a number: the operators and modifiers that stand directly in it since its last separator, `,`, `then`,
-- `else`, `elsif`, `when`, `rescue` or `ensure`. The innermost comes first, and the program itself last.

-- the levels after a token with this role, which stands in a level with this number
unfoldable pub within : Role → ℕ → List ℕ → List ℕ
within Opens n around = 0 ∷ n ∷ around
within Closes n around = around
within Counts n around = (n + 1) ∷ around
within LoopDo n around = n ∷ around
within Separates n around = 0 ∷ around
within Divides n around = 0 ∷ around
within Stands n around = n ∷ around

-- after the program's end there is none
abbrev pub levels_with : Role → List ℕ → List ℕ
levels_with r [] = []
levels_with r (n ∷ around) = within r n around

-- the levels after tokens with these roles
abbrev pub levels_after : List ℕ → List Role → List ℕ
levels_after levels [] = levels
levels_after levels (r ∷ rs) = levels_after (levels_with r levels) rs

abbrev pub total : List ℕ → ℕ
total [] = 0
total (n ∷ ns) = n + total ns

-- the number of levels that opened in the program, and of all that stands directly in them and in it
abbrev pub weight_of_levels : List ℕ → ℕ
weight_of_levels [] = 0
weight_of_levels (n ∷ around) = length around + total (n ∷ around)

-- the weight after a program's tokens with these roles
abbrev pub weight_by : List Role → ℕ
weight_by rs = weight_of_levels (levels_after (0 ∷ []) rs)

-- the weight by roles first passes the greatest at the token at this place, counted from 0
pub record DeepByRoles {tokens : List Token} {t : Tree} (d : Derives tokens t) (at : ℕ) : Type 0 where
  pub within : at < length (roles d)
  pub deep : MOST < weight_by (take (at + 1) (roles d))
  pub first : (k : ℕ) → k ≤ at → weight_by (take k (roles d)) ≤ MOST
