-- Lists of tokens that are no program.
use Rattle.std.specs.Prelude.{List, [], ◌∷◌, codes}
use Rattle.rb_tree.specs.declared.syntax.Tree.{Tree}
use Rattle.rb_tree.specs.declared.token.Token.{Token}
use Rattle.rb_tree.specs.declared.token.TokenKind.TheVariants as kind
use Rattle.rb_grammar.specs.Examples.{token}
use Rattle.rb_rules.specs.Grammar.{Derives}

abbrev pub HasNoTree : List Token → Type 0
HasNoTree tokens = (t : Tree) → ¬ Derives tokens t

-- `1 == 2 == 3`: equalities don't stand in a row
abbrev pub EQUALITIES : List Token
EQUALITIES = token (kind.Whole (codes "1")) 0 1 ∷ token kind.Equal 2 4 ∷ token (kind.Whole (codes "2")) 5 6 ∷ token kind.Equal 7 9 ∷ token (kind.Whole (codes "3")) 10 11 ∷ []

-- `f [1]`: the `[` touches no operand, and the arguments of a command don't begin with it
abbrev pub APART : List Token
APART = token (kind.Identifier (codes "f")) 0 1 ∷ token kind.OpenBracket 2 3 ∷ token (kind.Whole (codes "1")) 3 4 ∷ token kind.CloseBracket 4 5 ∷ []

-- `f(a: 1, 2)`: an argument by place stands after one by name
abbrev pub DISORDER : List Token
DISORDER =
    token (kind.Identifier (codes "f")) 0 1 ∷ token kind.OpenParen 1 2 ∷ token (kind.Label (codes "a")) 2 4 ∷ token (kind.Whole (codes "1")) 5 6 ∷ token kind.Comma 6 7
    ∷ token (kind.Whole (codes "2")) 8 9 ∷ token kind.CloseParen 9 10 ∷ []

-- `def f(a, a) end`: a name stands twice
abbrev pub TWICE : List Token
TWICE =
    token kind.Def 0 3 ∷ token (kind.Identifier (codes "f")) 4 5 ∷ token kind.OpenParen 5 6 ∷ token (kind.Identifier (codes "a")) 6 7 ∷ token kind.Comma 7 8 ∷ token (kind.Identifier (codes "a")) 9 10
    ∷ token kind.CloseParen 10 11 ∷ token kind.End 12 15 ∷ []

-- `def f() X = 1 end`: a constant is assigned to in a method
abbrev pub INNER : List Token
INNER =
    token kind.Def 0 3 ∷ token (kind.Identifier (codes "f")) 4 5 ∷ token kind.OpenParen 5 6 ∷ token kind.CloseParen 6 7 ∷ token (kind.Constant (codes "X")) 8 9 ∷ token kind.Assign 10 11
    ∷ token (kind.Whole (codes "1")) 12 13 ∷ token kind.End 14 17 ∷ []

-- `begin a rescue; end`: no separator stands before the `rescue`
abbrev pub UNDIVIDED : List Token
UNDIVIDED = token kind.Begin 0 5 ∷ token (kind.Identifier (codes "a")) 6 7 ∷ token kind.Rescue 8 14 ∷ token kind.Separator 14 15 ∷ token kind.End 16 19 ∷ []

-- `begin end while a`: a `begin` alone is no body of a loop
abbrev pub REPEATED : List Token
REPEATED = token kind.Begin 0 5 ∷ token kind.End 6 9 ∷ token kind.While 10 15 ∷ token (kind.Identifier (codes "a")) 16 17 ∷ []
