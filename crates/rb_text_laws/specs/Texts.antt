-- What a text is: a program with a tree, or refused at one place for one of three reasons. The relations of tokens and grammar tell it;
-- nothing here says how it is found.
use Rattle.std.specs.Prelude.{◌≡◌, ◌⊎◌, ℕ, ◌+◌, ◌<◌, List, [], ◌∷◌, ◌++◌, length}
use Rattle.std.specs.Char.{len_utf8}
use Rattle.srb_terms.specs.declared.span.Span.{Span}
use Rattle.rb_tree.specs.declared.syntax.Tree.{Tree}
use Rattle.rb_tree.specs.declared.token.Token.{Token}
use Rattle.rb_rules.specs.Grammar.{Derives, Begins, BadAt, EndsEarly}
use Rattle.rb_rules.specs.Lexes.{Lexes, OutsideAt, BadCharAt, byte_len}
use Rattle.rb_rules.specs.Tokens.{IsOneOf}
use Rattle.rb_weight_laws.specs.Weights.{DeepByRoles}
use Rattle.rb_verdict_laws.specs.Verdicts.{NoneIsDeep}

-- ---- places

-- a character of the text begins at the offset, and this is its place
pub record IsCharacter (text : List ℕ) (at : ℕ) (span : Span) : Type 0 where
  pub before : List ℕ
  pub character : ℕ
  pub after : List ℕ
  pub whole : text ≡ before ++ character ∷ after
  pub begins : at ≡ byte_len before
  pub span_is : span ≡ record { start = at; end = at + len_utf8 character }

-- the empty place at the end of the text
abbrev pub end_of_text : List ℕ → Span
end_of_text text = record { start = byte_len text; end = byte_len text }

-- one character at the offset, or nothing where the text ends there
abbrev pub IsCharacterOrEnd : List ℕ → ℕ → Span → Type 0
IsCharacterOrEnd text at span = IsCharacter text at span ⊎ ((at ≡ byte_len text) × (span ≡ end_of_text text))

-- A token begins at the offset, and this is its place. A piece of a string that is empty doesn't count: the `#{` after it begins where it does.
pub record IsToken (tokens : List Token) (at : ℕ) (span : Span) : Type 0 where
  pub token : Token
  pub is_one : IsOneOf tokens token
  pub begins : at ≡ token.span.start
  pub some : token.span.start < token.span.end
  pub span_is : span ≡ token.span

-- ---- texts

-- the text is a program with this tree: its tokens derive as one, and nest too deep nowhere
pub record IsProgram (text : List ℕ) (tree : Tree) : Type 0 where
  pub tokens : List Token
  pub lexes : Lexes text tokens
  pub derives : Derives tokens tree
  pub shallow : (turn : ℕ) → ¬ DeepByRoles derives turn

-- The text is no Ruby at this place: at a character with which no token begins or an ambiguous one does, at a token with which no program
-- goes on, or at the text's end, where a string or the tokens end too early. No token before it nests too deep.
pub data IsNoRuby (text : List ℕ) : Span → Type 0 where
  AtCharacter : (at : ℕ) (span : Span) → BadCharAt text at → IsCharacterOrEnd text at span → IsNoRuby text span
  AtToken : (tokens : List Token) (at : ℕ) (span : Span) → Lexes text tokens → (bad : BadAt tokens at) → NoneIsDeep bad.before bad.begins → IsToken tokens at span → IsNoRuby text span
  AtEnd : (tokens : List Token) → Lexes text tokens → (early : EndsEarly tokens) → NoneIsDeep tokens early.begins → IsNoRuby text (end_of_text text)

-- a form that is outside the profile begins at this character, the first such place in the text
pub data IsOutside (text : List ℕ) : Span → Type 0 where
  AtForm : (at : ℕ) (span : Span) → OutsideAt text at → IsCharacterOrEnd text at span → IsOutside text span

-- The tokens up to and with the one at this place begin a program, and it is the first of them that nests too deep.
pub data IsTooDeep (text : List ℕ) : Span → Type 0 where
  AtDeepToken : (tokens before : List Token) (deep : Token) (after : List Token) → Lexes text tokens → tokens ≡ before ++ deep ∷ after →
      (begins : Begins (before ++ deep ∷ [])) → DeepByRoles begins.2 (length before) → IsTooDeep text deep.span

-- ---- all of them

-- what a text is
pub data Verdict : Type 0 where
  Program : Tree → Verdict
  NoRuby : Span → Verdict
  Outside : Span → Verdict
  TooDeep : Span → Verdict

-- the text is this
abbrev pub Is : List ℕ → Verdict → Type 0
Is text (Verdict.Program tree) = IsProgram text tree
Is text (Verdict.NoRuby span) = IsNoRuby text span
Is text (Verdict.Outside span) = IsOutside text span
Is text (Verdict.TooDeep span) = IsTooDeep text span
