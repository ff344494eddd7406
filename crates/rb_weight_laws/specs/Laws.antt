-- What a pass over the tokens alone says of the weight is what the grammar says of it.
use Rattle.std.specs.Prelude.{◌≡◌, ℕ, ◌<◌, ◌≤◌, ◌↔◌, List, [], ◌∷◌, length, take}
use Rattle.rb_tree.specs.Tokens.{shape_of}
use Rattle.rb_tree.specs.declared.token.Token.{Token}
use Rattle.rb_tree.specs.declared.syntax.Tree.{Tree}
use Rattle.rb_rules.specs.Grammar.{Begins, Derives}
use Rattle.rb_weight.specs.Sorts.{sort_of}
use Rattle.rb_weight.specs.Effects.{effect_of}
use Rattle.rb_weight.specs.Weights.{Nest, DeepAt, begun, innermost, next, weight_after}
use Rattle.rb_weight.specs.declared.effect.Effect.{Effect}
use Rattle.rb_weight.specs.declared.effect.Effect.TheVariants as effect
use Rattle.rb_weight_laws.specs.Roles.{Role, roles}
use Rattle.rb_weight_laws.specs.Weights.{DeepByRoles, weight_by}

-- the role that an effect is that of, whatever the kind of a level
unfoldable pub role_of : Effect → Role
role_of effect.Nothing = Role.Stands
role_of (effect.Opens _) = Role.Opens
role_of effect.Closes = Role.Closes
role_of effect.Enters = Role.LoopDo
role_of effect.Separates = Role.Separates
role_of effect.Divides = Role.Divides
role_of effect.Counts = Role.Counts

-- the roles that a pass over these tokens tells, from what is known at the start
abbrev pub roles_told : Nest → List Token → List Role
roles_told n [] = []
roles_told n (t ∷ ts) = role_of (effect_of n.before (innermost n.levels) (sort_of (shape_of t.kind))) ∷ roles_told (next (shape_of t.kind) n) ts

-- The pass tells each token's role: there are as many as tokens.
abbrev pub RolesAreTold : Type 0
RolesAreTold = (tokens : List Token) (t : Tree) (d : Derives tokens t) → roles_told (begun 0) tokens ≡ roles d

-- After each of a program's tokens the pass and the grammar say the same weight.
abbrev pub WeightsAreThoseOfTheGrammar : Type 0
WeightsAreThoseOfTheGrammar = (tokens : List Token) (t : Tree) (d : Derives tokens t) (k : ℕ) → weight_after 0 0 (take k tokens) ≡ weight_by (take k (roles d))

-- So they do after each of the tokens with which a program begins, whichever program that is.
abbrev pub FrontsHaveTheWeightsOfAnyProgram : Type 0
FrontsHaveTheWeightsOfAnyProgram =
    (tokens : List Token) (begins : Begins tokens) (k : ℕ) → k ≤ length tokens → weight_after 0 0 (take k tokens) ≡ weight_by (take k (roles begins.2))

-- The weight passes the greatest at the same token, where the tokens begin a program.
abbrev pub FrontsAreDeepByRoles : Type 0
FrontsAreDeepByRoles =
    (tokens : List Token) (begins : Begins tokens) (at : ℕ) → at < length tokens → DeepAt tokens 0 0 at ↔ DeepByRoles begins.2 at
