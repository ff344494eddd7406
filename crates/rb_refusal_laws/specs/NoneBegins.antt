-- A few fronts with which no program goes on.
use Rattle.std.specs.Prelude.{List, [], ◌∷◌, codes}
use Rattle.rb_tree.specs.declared.token.Token.{Token}
use Rattle.rb_tree.specs.declared.token.TokenKind.TheVariants as kind
use Rattle.rb_grammar.specs.Examples.{token}
use Rattle.rb_rules.specs.Grammar.{Begins}

-- `1 )`: a bracket that none opens
abbrev pub CLOSED : List Token
CLOSED = token (kind.Whole (codes "1")) 0 1 ∷ token kind.CloseParen 2 3 ∷ []

-- `x.1`: no name after the dot
abbrev pub NAMELESS : List Token
NAMELESS = token (kind.Identifier (codes "x")) 0 1 ∷ token kind.Dot 1 2 ∷ token (kind.Whole (codes "1")) 2 3 ∷ []

-- `def f(a, a`: a parameter's name stands twice
abbrev pub TWICE : List Token
TWICE =
    token kind.Def 0 3 ∷ token (kind.Identifier (codes "f")) 4 5 ∷ token kind.OpenParen 5 6 ∷ token (kind.Identifier (codes "a")) 6 7 ∷ token kind.Comma 7 8
    ∷ token (kind.Identifier (codes "a")) 9 10 ∷ []

-- `begin x rescue`: no separator before the `rescue`
abbrev pub GUARDED : List Token
GUARDED = token kind.Begin 0 5 ∷ token (kind.Identifier (codes "x")) 6 7 ∷ token kind.Rescue 8 14 ∷ []

-- `begin end while`: a loop of a `begin` with its `end` alone
abbrev pub LOOPED : List Token
LOOPED = token kind.Begin 0 5 ∷ token kind.End 6 9 ∷ token kind.While 10 15 ∷ []

abbrev pub NoneIsClosed : Type 0
NoneIsClosed = ¬ Begins CLOSED

abbrev pub NoneIsNameless : Type 0
NoneIsNameless = ¬ Begins NAMELESS

abbrev pub NoneNamesTwice : Type 0
NoneNamesTwice = ¬ Begins TWICE

abbrev pub NoneRescuesSo : Type 0
NoneRescuesSo = ¬ Begins GUARDED

abbrev pub NoneLoopsSo : Type 0
NoneLoopsSo = ¬ Begins LOOPED
