-- A few texts with what they are.
use Rattle.std.specs.Prelude.{[], ◌∷◌, codes, replicate}
use Rattle.rb_tree.specs.declared.syntax.Binary.TheVariants as binary
use Rattle.rb_tree.specs.Nodes as tree
use Rattle.rb_grammar.specs.Examples.{digit, from_to}
use Rattle.rb_text_laws.specs.Texts.{Verdict, Is}

-- a sum is a program
abbrev pub SumIsAProgram : Type 0
SumIsAProgram =
    Is (codes "1+2") (Verdict.Program (tree.Body (tree.Binary binary.Plus (from_to 1 2) (digit (codes "1") 0) (digit (codes "2") 2) (from_to 0 3) ∷ []) (from_to 0 3)))

-- a bracket that none opens
abbrev pub BracketIsNoRuby : Type 0
BracketIsNoRuby = Is (codes "1 )") (Verdict.NoRuby (from_to 2 3))

-- a call of which the arguments go on after the text's end
abbrev pub CallIsNoRuby : Type 0
CallIsNoRuby = Is (codes "f(") (Verdict.NoRuby (from_to 2 2))

-- a minus that could be a sign or an operator
abbrev pub MinusIsNoRuby : Type 0
MinusIsNoRuby = Is (codes "f -1") (Verdict.NoRuby (from_to 2 3))

-- a global variable
abbrev pub GlobalIsOutside : Type 0
GlobalIsOutside = Is (codes "$x") (Verdict.Outside (from_to 0 1))

-- the letter `é`, which has two bytes
abbrev pub LetterIsOutside : Type 0
LetterIsOutside = Is (233 ∷ []) (Verdict.Outside (from_to 0 2))

-- 201 times `!`, whose weight is 201
abbrev pub LastIsTooDeep : Type 0
LastIsTooDeep = Is (replicate 201 33) (Verdict.TooDeep (from_to 200 201))
