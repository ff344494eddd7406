-- Tokens for each verdict.
use Rattle.std.specs.Prelude.{ℕ, zero, suc, ◌+◌, List, [], ◌∷◌, codes}
use Rattle.rb_tree.specs.declared.token.Token.{Token}
use Rattle.rb_tree.specs.declared.token.TokenKind.TheVariants as kind
use Rattle.rb_grammar.specs.Examples.{SUM, SUM_TREE, token}
use Rattle.rb_refusal_laws.specs.Examples.{AWAITED, CLOSED}
use Rattle.rb_verdict_laws.specs.Verdicts.{Holds, Verdict}

-- so many `!`, the first of which begins at this place, and a `1`
abbrev pub negations : ℕ → ℕ → List Token
negations at zero = token (kind.Whole (codes "1")) at (at + 1) ∷ []
negations at (suc n) = token kind.Not at (at + 1) ∷ negations (at + 1) n

-- `1 + 2 * 3` is a program
abbrev pub SumIsProgram : Type 0
SumIsProgram = Holds SUM (Verdict.Program SUM_TREE)

-- `1 ) 2` is bad at its second token
abbrev pub BracketIsBad : Type 0
BracketIsBad = Holds CLOSED (Verdict.BadToken 1)

-- `x.` is too short
abbrev pub NameIsWanted : Type 0
NameIsWanted = Holds AWAITED Verdict.Short

-- 201 `!` are too deep at the last of them
abbrev pub NegationIsDeep : Type 0
NegationIsDeep = Holds (negations 0 201) (Verdict.DeepToken 200)
