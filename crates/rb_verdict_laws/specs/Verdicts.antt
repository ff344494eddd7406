-- What a list of tokens is, in the words of the grammar: a program, bad at a token, the beginning of a program, or too deep at a token.
use Rattle.std.specs.Prelude.{◌≡◌, ℕ, ◌+◌, ◌<◌, List, length, take, slice_get}
use Rattle.rb_tree.specs.declared.syntax.Tree.{Tree}
use Rattle.rb_tree.specs.declared.token.Token.{Token}
use Rattle.rb_decl.specs.Programs.{token_start}
use Rattle.rb_rules.specs.Grammar.{Begins, BadAt, Derives, EndsEarly}
use Rattle.rb_weight_laws.specs.Weights.{DeepByRoles}

-- the four verdicts; a number counts tokens from 0
pub data Verdict : Type 0 where
  -- a program that nests too deep nowhere, and its tree
  Program : Tree → Verdict
  -- the token with this number is bad
  BadToken : ℕ → Verdict
  -- more tokens are wanted
  Short : Verdict
  -- the token with this number is the first that is too deep
  DeepToken : ℕ → Verdict

-- where the token with this number begins
abbrev pub start_at : List Token → ℕ → ℕ
start_at tokens turn = token_start (slice_get tokens turn)

-- None of these tokens is too deep, by the parts that the grammar gives to them in a program which begins with them. That all such
-- programs give the same weights is a law of `rb_weight_laws`.
abbrev pub NoneIsDeep : (tokens : List Token) → Begins tokens → Type 0
NoneIsDeep tokens begins = (turn : ℕ) → turn < length tokens → ¬ DeepByRoles begins.2 turn

-- the tokens are a program with this tree, and none of them is too deep
pub record IsProgram (tokens : List Token) (t : Tree) : Type 0 where
  pub derives : Derives tokens t
  pub light : (turn : ℕ) → ¬ DeepByRoles derives turn

-- no program goes on with this token, those before it begin one, and none of those is too deep
pub record IsBadToken (tokens : List Token) (turn : ℕ) : Type 0 where
  pub bad : BadAt tokens (start_at tokens turn)
  pub number : turn ≡ length bad.before
  pub light : NoneIsDeep bad.before bad.begins

-- the tokens begin a program and are none, and none of them is too deep
pub record IsShort (tokens : List Token) : Type 0 where
  pub early : EndsEarly tokens
  pub light : NoneIsDeep tokens early.begins

-- the tokens up to and with this one begin a program, and it is the first of them that is too deep
pub record IsDeepToken (tokens : List Token) (turn : ℕ) : Type 0 where
  pub within : turn < length tokens
  pub begins : Begins (take (turn + 1) tokens)
  pub deep : DeepByRoles begins.2 turn

-- the verdict holds of the tokens
abbrev pub Holds : List Token → Verdict → Type 0
Holds tokens (Verdict.Program t) = IsProgram tokens t
Holds tokens (Verdict.BadToken turn) = IsBadToken tokens turn
Holds tokens Verdict.Short = IsShort tokens
Holds tokens (Verdict.DeepToken turn) = IsDeepToken tokens turn
