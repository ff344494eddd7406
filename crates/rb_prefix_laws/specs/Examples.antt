-- Where the depth is not enough.
use Rattle.std.specs.Prelude.{◌≡◌, List, [], ◌∷◌, ◌++◌, codes, Err}
use Rattle.rb_tree.specs.declared.token.Token.{Token}
use Rattle.rb_tree.specs.declared.token.TokenKind.TheVariants as kind
use Rattle.rb_decl.specs.Programs.{program}
use Rattle.rb_grammar.specs.Examples.{token}

-- `[-2`
abbrev pub OPENED : List Token
OPENED = token kind.OpenBracket 0 1 ∷ token kind.Minus 1 2 ∷ token (kind.Whole (codes "2")) 2 3 ∷ []

abbrev pub POWERED : Token
POWERED = token kind.Power 3 5

abbrev pub BRACKET : Token
BRACKET = token kind.CloseBracket 3 4

-- A depth of 1 is not enough for these tokens: there the number is refused before `**`, and is none before `]`. So the laws ask that
-- the depth be enough.
abbrev pub ShallowLooksFurther : Type 0
ShallowLooksFurther =
    (program 1 (OPENED ++ POWERED ∷ []) ≡ Err (token (kind.Whole (codes "2")) 2 3 ∷ POWERED ∷ []))
    × (program 1 (OPENED ++ BRACKET ∷ []) ≡ Err (BRACKET ∷ []))
