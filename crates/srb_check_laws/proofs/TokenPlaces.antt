-- Where tokens stand in a text: at characters.
use Rattle.std.proofs.Common.{ℕ, ◌≤◌, Bool, true, false, if◌then◌else◌, List, [], ◌∷◌, length, sym, subst, inl, inr, arith}
use Rattle.std.specs.Str.{encode_utf8_all}
use Rattle.srb_terms.specs.declared.span.Span.{Span}
use Rattle.srb_text.specs.Positions.{IsStart}
use Rattle.rb_tree.specs.declared.token.Token.{Token}
use Rattle.rb_lex_laws.specs.Tokens.{StandInOrder}
use Rattle.rb_rules.specs.Tokens.{IsOneOf}
use Rattle.rb_grammar.specs.Places.{AreInOrder, IsPlaced}
use Rattle.srb_check.specs.Readings.{begins_at, token_place}
use Rattle.srb_check_laws.proofs.CharacterPlaces.{text-end}

-- a place starts and ends where a character of the text starts or the text ends, and doesn't end before it starts
abbrev pub InText : List ℕ → Span → Type 0
InText text span = IsStart text span.start × IsStart text span.end × (span.start ≤ span.end)

pub token-in_text : (text : List ℕ) (from : ℕ) (tokens : List Token) → StandInOrder text from tokens → (t : Token) → IsOneOf tokens t → InText text t.span
token-in_text text from [] stand t h = absurd h
token-in_text text from (u ∷ tokens) stand t (inl e) = subst (λ (v : Token). InText text v.span) (sym e) (stand.2, stand.3, stand.1)
token-in_text text from (u ∷ tokens) stand t (inr h) = token-in_text text u.span.end tokens stand.4 t h

-- a token ends no earlier than the tokens begin to stand
token-after : (text : List ℕ) (from : ℕ) (tokens : List Token) → StandInOrder text from tokens → (t : Token) → IsOneOf tokens t → from ≤ t.span.end
token-after text from [] stand t h = absurd h
token-after text from (u ∷ tokens) stand t (inl e) = subst (λ (v : Token). from ≤ v.span.end) (sym e) (omega (arith, stand.0, stand.1))
token-after text from (u ∷ tokens) stand t (inr h) = omega (arith, stand.0, stand.1, token-after text u.span.end tokens stand.4 t h)

-- a token or one after it ends no earlier than the token starts
in_order : (text : List ℕ) (from : ℕ) (tokens : List Token) → StandInOrder text from tokens → (a b : Token) → AreInOrder tokens a b → a.span.start ≤ b.span.end
in_order text from [] stand a b h = absurd h
in_order text from (u ∷ tokens) stand a b (inl h) = subst (λ (v : Token). v.span.start ≤ b.span.end) (sym h.0) (at_or_after h.1)
  where
    at_or_after : IsOneOf (u ∷ tokens) b → u.span.start ≤ b.span.end
    at_or_after (inl e) = subst (λ (v : Token). u.span.start ≤ v.span.end) (sym e) stand.1
    at_or_after (inr i) = omega (arith, stand.1, token-after text u.span.end tokens stand.4 b i)
in_order text from (u ∷ tokens) stand a b (inr h) = in_order text u.span.end tokens stand.4 a b h

-- a place from a token's start to the end of that token or one after it
pub placed-in_text : (text : List ℕ) (tokens : List Token) → StandInOrder text 0 tokens → (span : Span) → IsPlaced tokens span → InText text span
placed-in_text text tokens stand span p = (
  subst (IsStart text) (sym p.starts) (token-in_text text 0 tokens stand p.first p.first_is).0,
  subst (IsStart text) (sym p.ends) (token-in_text text 0 tokens stand p.last p.last_is).1,
  omega (arith, p.starts, p.ends, in_order text 0 tokens stand p.first p.last p.in_order),
)

-- the place of a token that is looked up, or the text's end
pub token_place-in_text : (text : List ℕ) (from : ℕ) (tokens : List Token) (at : ℕ) → StandInOrder text from tokens → InText text (token_place tokens (length (encode_utf8_all text)) at)
token_place-in_text text from [] at stand = (text-end text, text-end text, omega arith)
token_place-in_text text from (t ∷ tokens) at stand = by_test (begins_at at t.span) (token_place-in_text text t.span.end tokens at stand.4)
  where
    by_test : (found : Bool) → InText text (token_place tokens (length (encode_utf8_all text)) at) → InText text (if found then t.span else token_place tokens (length (encode_utf8_all text)) at)
    by_test true later = (stand.2, stand.3, stand.1)
    by_test false later = later
