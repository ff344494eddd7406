-- The lexer's answers against the tokens and refused places in words.
use Rattle.std.specs.Prelude.{◌≡◌, ℕ, ◌≤◌, ◌⊎◌, ◌↔◌, List, [], ◌∷◌, Ok, Err}
use Rattle.srb_text.specs.Positions.{IsStart}
use Rattle.rb_tree.specs.declared.token.Token.{Token}
use Rattle.rb_lex.specs.Lexed.{lexed_text}
use Rattle.rb_lex.specs.declared.LexEnd.TheVariants.{Bad, Outside}
use Rattle.rb_rules.specs.Lexes.{Lexes, OutsideAt, BadCharAt}

-- a list of tokens is answered exactly where the text has it
abbrev pub TokensAreThoseOfTheText : Type 0
TokensAreThoseOfTheText = (text : List ℕ) (tokens : List Token) → (lexed_text text ≡ Ok tokens) ↔ Lexes text tokens

-- a place outside the profile is answered exactly where the text has it
abbrev pub OutsideIsThatOfTheText : Type 0
OutsideIsThatOfTheText = (text : List ℕ) (at : ℕ) → (lexed_text text ≡ Err (Outside at)) ↔ OutsideAt text at

-- a place that is no Ruby is answered exactly where the text has it
abbrev pub BadIsThatOfTheText : Type 0
BadIsThatOfTheText = (text : List ℕ) (at : ℕ) → (lexed_text text ≡ Err (Bad at)) ↔ BadCharAt text at

-- each text has tokens, or a place outside the profile, or one that is no Ruby; and only one of these, since it has one answer
abbrev pub EachTextIsTold : Type 0
EachTextIsTold = (text : List ℕ) → ((tokens : List Token) × Lexes text tokens) ⊎ ((at : ℕ) × OutsideAt text at) ⊎ ((at : ℕ) × BadCharAt text at)

-- the tokens stand one after the other from an offset on: none overlaps the next, and each begins and ends where a character of the text
-- begins or the text ends
abbrev pub StandInOrder : List ℕ → ℕ → List Token → Type 0
StandInOrder text from [] = Unit {0}
StandInOrder text from (t ∷ tokens) =
    (from ≤ t.span.start) × (t.span.start ≤ t.span.end) × IsStart text t.span.start × IsStart text t.span.end × StandInOrder text t.span.end tokens

-- so do the tokens of a text
abbrev pub TokensStandAtCharacters : Type 0
TokensStandAtCharacters = (text : List ℕ) (tokens : List Token) → lexed_text text ≡ Ok tokens → StandInOrder text 0 tokens

-- and a refused place is where a character begins or the text ends
abbrev pub RefusedPlacesAreStarts : Type 0
RefusedPlacesAreStarts = (text : List ℕ) (at : ℕ) → (lexed_text text ≡ Err (Outside at)) ⊎ (lexed_text text ≡ Err (Bad at)) → IsStart text at
