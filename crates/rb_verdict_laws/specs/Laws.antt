-- Exactly one verdict holds of tokens, and `parse` answers by it.
use Rattle.std.specs.Prelude.{◌≡◌, ◌⊎◌, ℕ, ◌<◌, ◌≤◌, List, [], ◌∷◌, slice_get, Some, Result, Ok, Err}
use Rattle.rb_tree.specs.declared.syntax.Tree.{Tree}
use Rattle.rb_tree.specs.declared.token.Token.{Token}
use Rattle.rb_weight.specs.Weights.{DeepAt}
use Rattle.rb_expr.specs.declared.ParseEnd.{ParseEnd}
use Rattle.rb_expr.specs.declared.ParseEnd.TheVariants.{Bad, TooDeep, NoMemory}
use Rattle.rb_decl.specs.Programs.{Parses, end_of, parsed}
use Rattle.rb_rules.specs.Grammar.{BadAt, Derives}
use Rattle.rb_verdict_laws.specs.Verdicts.{Verdict, Holds, start_at}

-- ---- one of four

-- One of the four holds.
abbrev pub OneHolds : Type 0
OneHolds = (tokens : List Token) → (v : Verdict) × Holds tokens v

-- No two hold, nor one of them with two trees or at two tokens.
abbrev pub NoTwoHold : Type 0
NoTwoHold = (tokens : List Token) (v w : Verdict) → Holds tokens v → Holds tokens w → v ≡ w

-- no tokens have two trees, however deep they nest
abbrev pub OneTree : Type 0
OneTree = (tokens : List Token) (t u : Tree) → Derives tokens t → Derives tokens u → t ≡ u

-- ---- what is answered

-- the tree, or the kind of the refusal and its place
abbrev pub answer_of : List Token → Verdict → Result Tree ParseEnd
answer_of tokens (Verdict.Program t) = Ok t
answer_of tokens (Verdict.BadToken turn) = Err (Bad (start_at tokens turn))
answer_of tokens Verdict.Short = Err (Bad (end_of tokens))
answer_of tokens (Verdict.DeepToken turn) = Err (TooDeep (start_at tokens turn))

-- The verdict that holds tells what the tokens are parsed to.
abbrev pub VerdictsAreAnswered : Type 0
VerdictsAreAnswered = (tokens : List Token) (v : Verdict) → Holds tokens v → parsed tokens ≡ answer_of tokens v

-- what an answer of `parse` says of the tokens; want of memory says nothing
abbrev pub Says : List Token → Result Tree ParseEnd → Type 0
Says tokens (Ok t) = Holds tokens (Verdict.Program t)
Says tokens (Err (Bad at)) = ((turn : ℕ) × (at ≡ start_at tokens turn) × Holds tokens (Verdict.BadToken turn)) ⊎ ((at ≡ end_of tokens) × Holds tokens Verdict.Short)
Says tokens (Err (TooDeep at)) = (turn : ℕ) × (at ≡ start_at tokens turn) × Holds tokens (Verdict.DeepToken turn)
Says tokens (Err NoMemory) = Unit {0}

-- Whatever `parse` answers of tokens, by its contract, says a verdict that holds.
abbrev pub AnswersHold : Type 0
AnswersHold = (tokens : List Token) (answer : Result Tree ParseEnd) → Parses answer (parsed tokens) → Says tokens answer

-- ---- places

-- The tokens stand one after the other from this place on.
abbrev pub StandInOrder : ℕ → List Token → Type 0
StandInOrder from [] = Unit {0}
StandInOrder from (t ∷ tokens) = (from ≤ t.span.start) × (t.span.start ≤ t.span.end) × StandInOrder t.span.end tokens

-- Of a bad token and the first deep one, which the pass over the tokens tells, that at the lesser place is refused. Where both are at one
-- place, it is the bad one, unless the deep one is empty.
abbrev pub LesserPlacesAreRefused : Type 0
LesserPlacesAreRefused =
    (tokens : List Token) (from bad turn : ℕ) (deep : Token) → StandInOrder from tokens → BadAt tokens bad → DeepAt tokens 0 0 turn → slice_get tokens turn ≡ Some deep →
    (bad < deep.span.start → parsed tokens ≡ Err (Bad bad))
    × (deep.span.start < bad → parsed tokens ≡ Err (TooDeep deep.span.start))
    × (deep.span.start ≡ bad → deep.span.start < deep.span.end → parsed tokens ≡ Err (Bad bad))
