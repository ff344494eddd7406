-- Where a few tokens are refused.
use Rattle.std.specs.Prelude.{◌≡◌, List, [], ◌∷◌, codes, Err}
use Rattle.rb_tree.specs.declared.token.Token.{Token}
use Rattle.rb_tree.specs.declared.token.TokenKind.TheVariants as kind
use Rattle.rb_expr.specs.declared.ParseEnd.TheVariants.{Bad}
use Rattle.rb_decl.specs.Programs.{parsed}
use Rattle.rb_grammar.specs.Examples.{token}
use Rattle.rb_rules.specs.Grammar.{BadAt, EndsEarly}

-- `1 ) 2`: none opens the bracket
abbrev pub CLOSED : List Token
CLOSED = token (kind.Whole (codes "1")) 0 1 ∷ token kind.CloseParen 2 3 ∷ token (kind.Whole (codes "2")) 4 5 ∷ []

-- `x.`: a name is to come
abbrev pub AWAITED : List Token
AWAITED = token (kind.Identifier (codes "x")) 0 1 ∷ token kind.Dot 1 2 ∷ []

-- `begin; 1; end while f`: the `while` makes no loop of a `begin` with its `end` alone
abbrev pub LOOPED : List Token
LOOPED =
    token kind.Begin 0 5 ∷ token kind.Separator 5 6 ∷ token (kind.Whole (codes "1")) 6 7 ∷ token kind.Separator 7 8 ∷ token kind.End 8 11 ∷ token kind.While 12 17
    ∷ token (kind.Identifier (codes "f")) 18 19 ∷ []

abbrev pub BracketIsBad : Type 0
BracketIsBad = BadAt CLOSED 2 × (parsed CLOSED ≡ Err (Bad 2))

abbrev pub NameIsAwaited : Type 0
NameIsAwaited = EndsEarly AWAITED × (parsed AWAITED ≡ Err (Bad 2))

abbrev pub LoopIsBad : Type 0
LoopIsBad = BadAt LOOPED 12 × (parsed LOOPED ≡ Err (Bad 12))
