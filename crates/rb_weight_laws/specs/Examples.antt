-- A few programs with the roles of their tokens, and with the weights after these.
use Rattle.std.specs.Prelude.{◌≡◌, ℕ, false, List, [], ◌∷◌, codes, Some, None}
use Rattle.rb_tree.specs.declared.syntax.Binary.TheVariants as binary
use Rattle.rb_tree.specs.declared.syntax.Modifier.TheVariants as modifier
use Rattle.rb_tree.specs.declared.syntax.Test.TheVariants as test
use Rattle.rb_tree.specs.declared.syntax.Tree.{Tree}
use Rattle.rb_tree.specs.Nodes as tree
use Rattle.rb_tree.specs.declared.token.Token.{Token}
use Rattle.rb_tree.specs.declared.token.TokenKind.TheVariants as kind
use Rattle.rb_grammar.specs.Examples.{digit, from_to, token}
use Rattle.rb_rules.specs.Grammar.{Derives}
use Rattle.rb_weight_laws.specs.Roles.{Role, roles}
use Rattle.rb_weight_laws.specs.Weights.{levels_with, weight_of_levels}
use Rattle.rb_weight_laws.specs.Roles.Role.{Opens, Closes, Counts, LoopDo, Separates, Divides, Stands}

-- the tokens are a program with this tree, and they have these roles however they are derived
abbrev pub HaveRoles : List Token → Tree → List Role → Type 0
HaveRoles tokens t rs = Derives tokens t × ((u : Tree) (d : Derives tokens u) → roles d ≡ rs)

-- the weights after each of some tokens with these roles, where these levels are open before them
abbrev pub weights_from : List ℕ → List Role → List ℕ
weights_from levels [] = []
weights_from levels (r ∷ rs) = weight_of_levels (levels_with r levels) ∷ weights_from (levels_with r levels) rs

abbrev pub weights : List Role → List ℕ
weights rs = weights_from (0 ∷ []) rs

-- `x if y`: the `if` is a modifier
abbrev pub MODIFIED : List Token
MODIFIED = token (kind.Identifier (codes "x")) 0 1 ∷ token kind.If 2 4 ∷ token (kind.Identifier (codes "y")) 5 6 ∷ []

abbrev pub MODIFIED_TREE : Tree
MODIFIED_TREE = tree.Body (tree.Modified (tree.Name (codes "x") (from_to 0 1)) modifier.If (tree.Name (codes "y") (from_to 5 6)) (from_to 0 6) ∷ []) (from_to 0 6)

abbrev pub ModifierCounts : Type 0
ModifierCounts = HaveRoles MODIFIED MODIFIED_TREE (Stands ∷ Counts ∷ Stands ∷ [])

-- `while x do y end`: the `do` opens no level
abbrev pub LOOP : List Token
LOOP = token kind.While 0 5 ∷ token (kind.Identifier (codes "x")) 6 7 ∷ token kind.Do 8 10 ∷ token (kind.Identifier (codes "y")) 11 12 ∷ token kind.End 13 16 ∷ []

abbrev pub LOOP_TREE : Tree
LOOP_TREE = tree.Body
    (tree.While test.Positive (tree.Name (codes "x") (from_to 6 7)) (tree.Body (tree.Name (codes "y") (from_to 11 12) ∷ []) (from_to 11 12)) (from_to 0 16) ∷ [])
    (from_to 0 16)

abbrev pub LoopOpensOnce : Type 0
LoopOpensOnce = HaveRoles LOOP LOOP_TREE (Opens ∷ Stands ∷ LoopDo ∷ Stands ∷ Closes ∷ [])

-- `f { |a| a + 1 }`: the bars of the block are no operators
abbrev pub BLOCK : List Token
BLOCK =
    token (kind.Identifier (codes "f")) 0 1 ∷ token kind.OpenBrace 2 3 ∷ token kind.Pipe 4 5 ∷ token (kind.Identifier (codes "a")) 5 6 ∷ token kind.Pipe 6 7
    ∷ token (kind.Identifier (codes "a")) 8 9 ∷ token kind.Plus 10 11 ∷ token (kind.Whole (codes "1")) 12 13 ∷ token kind.CloseBrace 14 15 ∷ []

abbrev pub BLOCK_TREE : Tree
BLOCK_TREE = tree.Body
    (tree.Call (codes "f") (from_to 0 1) None
    (Some (record {
      parameters = record { name = codes "a"; span = from_to 5 6 } ∷ [];
      body = tree.Body (tree.Binary binary.Plus (from_to 10 11) (tree.Name (codes "a") (from_to 8 9)) (digit (codes "1") 12) (from_to 8 13) ∷ []) (from_to 8 13);
      span = from_to 2 15;
    }))
    (from_to 0 15) ∷ [])
    (from_to 0 15)

abbrev pub BLOCK_ROLES : List Role
BLOCK_ROLES = Stands ∷ Opens ∷ Stands ∷ Stands ∷ Stands ∷ Stands ∷ Counts ∷ Stands ∷ Closes ∷ []

abbrev pub BarsCountNot : Type 0
BarsCountNot = HaveRoles BLOCK BLOCK_TREE BLOCK_ROLES

-- the `{` weighs 1 up to its `}`, and the `+` weighs 1 too
abbrev pub BlockWeighs : Type 0
BlockWeighs = weights BLOCK_ROLES ≡ 0 ∷ 1 ∷ 1 ∷ 1 ∷ 1 ∷ 1 ∷ 2 ∷ 2 ∷ 0 ∷ []

-- `def f() if x then y end end`: the `if` after the parameters is no modifier
abbrev pub METHOD : List Token
METHOD =
    token kind.Def 0 3 ∷ token (kind.Identifier (codes "f")) 4 5 ∷ token kind.OpenParen 5 6 ∷ token kind.CloseParen 6 7 ∷ token kind.If 8 10
    ∷ token (kind.Identifier (codes "x")) 11 12 ∷ token kind.Then 13 17 ∷ token (kind.Identifier (codes "y")) 18 19 ∷ token kind.End 20 23 ∷ token kind.End 24 27 ∷ []

abbrev pub METHOD_TREE : Tree
METHOD_TREE = tree.Body
    (tree.Def None false (codes "f") (from_to 4 5) []
    (record {
      body = tree.Body (tree.If test.Positive (tree.Name (codes "x") (from_to 11 12)) (tree.Body (tree.Name (codes "y") (from_to 18 19) ∷ []) (from_to 18 19)) [] None (from_to 8 23) ∷ []) (from_to 8 23);
      rescues = [];
      otherwise = None;
      ensure = None;
    })
    (from_to 0 27) ∷ [])
    (from_to 0 27)

abbrev pub METHOD_ROLES : List Role
METHOD_ROLES = Opens ∷ Stands ∷ Opens ∷ Closes ∷ Opens ∷ Stands ∷ Divides ∷ Stands ∷ Closes ∷ Closes ∷ []

abbrev pub BodyBeginsByIf : Type 0
BodyBeginsByIf = HaveRoles METHOD METHOD_TREE METHOD_ROLES

-- the parameters and the `if` weigh 1 each, in the method, which weighs 1
abbrev pub MethodWeighs : Type 0
MethodWeighs = weights METHOD_ROLES ≡ 1 ∷ 1 ∷ 2 ∷ 1 ∷ 2 ∷ 2 ∷ 2 ∷ 2 ∷ 1 ∷ 0 ∷ []

-- `begin; x; rescue E => e; y; end`: the `begin` opens a level, and the `rescue` takes the operators of it away
abbrev pub GUARDED : List Token
GUARDED =
    token kind.Begin 0 5 ∷ token kind.Separator 5 6 ∷ token (kind.Identifier (codes "x")) 7 8 ∷ token kind.Separator 8 9 ∷ token kind.Rescue 10 16
    ∷ token (kind.Constant (codes "E")) 17 18 ∷ token kind.Arrow 19 21 ∷ token (kind.Identifier (codes "e")) 22 23 ∷ token kind.Separator 23 24 ∷ token (kind.Identifier (codes "y")) 25 26
    ∷ token kind.Separator 26 27 ∷ token kind.End 28 31 ∷ []

abbrev pub GUARDED_TREE : Tree
GUARDED_TREE = tree.Body
    (tree.Begin
    (record {
      body = tree.Body (tree.Name (codes "x") (from_to 7 8) ∷ []) (from_to 7 8);
      rescues =
          record {
            patterns = tree.Constant (codes "E") (from_to 17 18) ∷ [];
            variable = Some (record { name = codes "e"; span = from_to 22 23 });
            body = tree.Body (tree.Name (codes "y") (from_to 25 26) ∷ []) (from_to 25 26);
          } ∷ [];
      otherwise = None;
      ensure = None;
    })
    (from_to 0 31) ∷ [])
    (from_to 0 31)

abbrev pub RescueDivides : Type 0
RescueDivides = HaveRoles GUARDED GUARDED_TREE (Opens ∷ Separates ∷ Stands ∷ Separates ∷ Divides ∷ Stands ∷ Stands ∷ Stands ∷ Separates ∷ Stands ∷ Separates ∷ Closes ∷ [])
