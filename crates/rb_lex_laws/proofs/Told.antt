-- The answers of the lexer, both ways.
use Rattle.std.proofs.Common.{ℕ, ◌⊎◌, List, Result, Ok, Err, inl, inr, subst}
use Rattle.rb_tree.specs.declared.token.Token.{Token}
use Rattle.rb_lex.specs.Lexed.{lexed_text}
use Rattle.rb_lex.specs.declared.LexEnd.{LexEnd}
use Rattle.rb_lex.specs.declared.LexEnd.TheVariants.{Bad, Outside, NoMemory}
use Rattle.rb_rules.specs.Lexes.{Lexes, OutsideAt, BadCharAt}
use Rattle.rb_lex_laws.specs.Tokens.{TokensAreThoseOfTheText, OutsideIsThatOfTheText, BadIsThatOfTheText, EachTextIsTold}
use Rattle.rb_lex_laws.proofs.Whole.{whole-text, outside-text, bad-text, IsSound, sound-text}

pub tokens-told : TokensAreThoseOfTheText
tokens-told text tokens = (λ e. subst (IsSound text) e (sound-text text), λ l. whole-text text tokens l)

pub outside-told : OutsideIsThatOfTheText
outside-told text at = (λ e. subst (IsSound text) e (sound-text text), λ l. outside-text text at l)

pub bad-told : BadIsThatOfTheText
bad-told text at = (λ e. subst (IsSound text) e (sound-text text), λ l. bad-text text at l)

pub each-told : EachTextIsTold
each-told text = by (lexed_text text) (sound-text text)
  where
    by : (r : Result (List Token) LexEnd) → IsSound text r → ((tokens : List Token) × Lexes text tokens) ⊎ ((at : ℕ) × OutsideAt text at) ⊎ ((at : ℕ) × BadCharAt text at)
    by (Ok tokens) h = inl (tokens, h)
    by (Err (Outside at)) h = inr (inl (at, h))
    by (Err (Bad at)) h = inr (inr (at, h))
    by (Err NoMemory) h = absurd h
