-- The refused place is exactly the one that the grammar tells.
use Rattle.std.specs.Prelude.{◌≡◌, ◌⊎◌, ℕ, ◌+◌, ◌<◌, ◌≤◌, List, [], ◌∷◌, ◌++◌, length, take, slice_get, Err}
use Rattle.rb_tree.specs.declared.token.Token.{Token}
use Rattle.rb_weight.specs.Weights.{DeepAt}
use Rattle.rb_expr.specs.declared.ParseEnd.TheVariants.{Bad, TooDeep}
use Rattle.rb_decl.specs.Programs.{program, parsed, token_start, end_of}
use Rattle.rb_rules.specs.Grammar.{Begins, BadAt, EndsEarly}
use Rattle.rb_grammar_laws.specs.Laws.{IsLight}

-- ---- bad tokens

-- No program begins with the tokens up to and with a refused one.
abbrev pub NoProgramBeginsSo : Type 0
NoProgramBeginsSo = (before : List Token) (bad : Token) (after : List Token) → program (length (before ++ bad ∷ after) + 2) (before ++ bad ∷ after) ≡ Err (bad ∷ after) → ¬ Begins (before ++ bad ∷ [])

-- Where tokens are refused for what they are, and not for their depth, it is at the bad one, or at their end if they end too early.
abbrev pub BadPlacesAreExact : Type 0
BadPlacesAreExact = (tokens : List Token) (at : ℕ) → parsed tokens ≡ Err (Bad at) → BadAt tokens at ⊎ (EndsEarly tokens × (at ≡ end_of tokens))

-- There is one bad token at most: the tokens before it are the same.
abbrev pub OneFront : Type 0
OneFront = (tokens : List Token) (a b : ℕ) (p : BadAt tokens a) (q : BadAt tokens b) → p.before ≡ q.before

-- None is bad where tokens end too early.
abbrev pub NoEndIsBad : Type 0
NoEndIsBad = (tokens : List Token) (at : ℕ) → EndsEarly tokens → ¬ BadAt tokens at

-- ---- deep tokens

-- The weight first passes the greatest at this token, counted from 0, which begins at the place `at`. The tokens up to and with it
-- begin a program.
pub record IsDeepAt (tokens : List Token) (at turn : ℕ) : Type 0 where
  pub place : at ≡ token_start (slice_get tokens turn)
  pub deep : DeepAt tokens 0 0 turn
  pub begins : Begins (take (turn + 1) tokens)

-- Where tokens are refused for their depth, it is at such a token.
abbrev pub DeepPlacesAreExact : Type 0
DeepPlacesAreExact = (tokens : List Token) (at : ℕ) → parsed tokens ≡ Err (TooDeep at) → (turn : ℕ) × IsDeepAt tokens at turn

-- The bad token, if there is one, stands after that.
abbrev pub NoneBadBeforeDeep : Type 0
NoneBadBeforeDeep = (tokens : List Token) (at turn bad : ℕ) → IsDeepAt tokens at turn → (p : BadAt tokens bad) → turn < length p.before

-- ---- what is refused

-- Tokens are refused at the bad one if none before it is too deep.
abbrev pub BadTokensAreRefused : Type 0
BadTokensAreRefused = (tokens : List Token) (at : ℕ) (p : BadAt tokens at) → ((turn : ℕ) → DeepAt tokens 0 0 turn → length p.before ≤ turn) → parsed tokens ≡ Err (Bad at)

-- Tokens that nest too deep nowhere and end too early are refused at their end.
abbrev pub EarlyEndsAreRefused : Type 0
EarlyEndsAreRefused = (tokens : List Token) → IsLight tokens → EndsEarly tokens → parsed tokens ≡ Err (Bad (end_of tokens))

-- Tokens are refused for their depth where those up to and with the first deep one begin a program.
abbrev pub DeepTokensAreRefused : Type 0
DeepTokensAreRefused = (tokens : List Token) (turn : ℕ) → DeepAt tokens 0 0 turn → Begins (take (turn + 1) tokens) → parsed tokens ≡ Err (TooDeep (token_start (slice_get tokens turn)))
