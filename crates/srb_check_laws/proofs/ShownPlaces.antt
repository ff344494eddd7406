-- The places that a refused text is given are those of a character, of a token or of the text's end.
use Rattle.std.proofs.Common.{◌≡◌, ℕ, ◌+◌, ◌<◌, ◌⊎◌, Bool, true, false, ◌==◌, nat_lt, if◌then◌else◌, List, [], ◌∷◌, ◌++◌, length, drop, inl, inr, refl, sym, ap, ◌∙◌, arith}
use Rattle.std.specs.Char.{len_utf8}
use Rattle.std.specs.Str.{encode_utf8_all}
use Rattle.std.proofs.Math.Seq.{drop-append_seam}
use Rattle.std.proofs.lemmas.Bool.{ltb-true, lt-ltb}
use Rattle.std.proofs.lemmas.Str.{encodes-append}
use lib.Utf8.{encodes}
use Rattle.srb_terms.specs.declared.span.Span.{Span}
use Rattle.srb_text.proofs.SpellingLemmas.{length-encodes}
use Rattle.rb_tree.specs.declared.token.Token.{Token}
use Rattle.rb_lex_laws.specs.Tokens.{StandInOrder}
use Rattle.rb_lex_laws.proofs.Lists.{and-both, both-and, eq-is, is-eq}
use Rattle.rb_rules.specs.Lexes.{byte_len}
use Rattle.rb_rules.specs.Tokens.{IsOneOf}
use Rattle.rb_text_laws.specs.Texts.{IsCharacterOrEnd, IsToken, end_of_text}
use Rattle.rb_text_laws.proofs.TokenPlaces.{one-token}
use Rattle.srb_check.specs.Characters.{first_size, character_at}
use Rattle.srb_check.specs.Readings.{begins_at, token_place}
use Rattle.srb_check_laws.proofs.CharacterPlaces.{first_size-encodes}

abbrev from_to : ℕ → ℕ → Span
from_to a b = record { start = a; end = b }

-- ---- characters

-- the bytes after a front
bytes-after : (before after : List ℕ) → drop (byte_len before) (encodes (before ++ after)) ≡ encodes after
bytes-after before after =
    ap (λ n. drop n (encodes (before ++ after))) (sym (length-encodes before))
    ∙ ap (drop (length (encodes before))) (encodes-append before after) ∙ drop-append_seam (encodes before) (encodes after)

sized : (text : List ℕ) (at size : ℕ) → first_size (drop at (encodes text)) ≡ size → character_at (encode_utf8_all text) at ≡ from_to at (at + size)
sized text at size e = ap (λ n. from_to at (at + n)) e

pub character-is : (text : List ℕ) (at : ℕ) (span : Span) → IsCharacterOrEnd text at span → character_at (encode_utf8_all text) at ≡ span
character-is text at span (inl h) =
    let rest : drop at (encodes text) ≡ encodes (h.character ∷ h.after) =
    ap (λ n. drop n (encodes text)) h.begins ∙ ap (λ t. drop (byte_len h.before) (encodes t)) h.whole ∙ bytes-after h.before (h.character ∷ h.after) in
    sized text at (len_utf8 h.character) (ap first_size rest ∙ first_size-encodes h.character h.after) ∙ sym h.span_is
character-is text at span (inr (e, f)) =
    let rest : drop at (encodes text) ≡ [] =
    ap (λ n. drop n (encodes text)) (e ∙ sym (length-encodes text)) ∙ past (encodes text) in
    sized text at 0 (ap first_size rest) ∙ ap (λ n. from_to n (n + 0)) e ∙ ap (from_to (byte_len text)) none ∙ sym f
  where
    past : (z : List ℕ) → drop (length z) z ≡ []
    past [] = refl
    past (b ∷ z) = past z

    none : byte_len text + 0 ≡ byte_len text
    none = omega arith

-- ---- tokens

-- what is looked up is the place of a token, or no token begins there
found : (tokens : List Token) (size at : ℕ) → IsToken tokens at (token_place tokens size at) ⊎ ((token_place tokens size at ≡ from_to size size) × ((span : Span) → ¬ IsToken tokens at span))
found [] size at = inr (refl, λ span h. h.is_one)
found (t ∷ tokens) size at = by (begins_at at t.span) refl (found tokens size at)
  where
    begun : begins_at at t.span ≡ true → IsToken (t ∷ tokens) at t.span
    begun e =
        let both = and-both (t.span.start == at) (nat_lt at t.span.end) e in
        let same : t.span.start ≡ at = eq-is t.span.start at both.0 in
        let some : at < t.span.end = ltb-true at t.span.end both.1 in
        record { token = t; is_one = inl refl; begins = sym same; some = omega arith; span_is = refl }

    other : begins_at at t.span ≡ false → ((span : Span) → ¬ IsToken tokens at span) → (span : Span) → ¬ IsToken (t ∷ tokens) at span
    other e none span h = which h.is_one
      where
        which : (h.token ≡ t) ⊎ IsOneOf tokens h.token → ⊥
        which (inl same) =
            let start : h.token.span.start ≡ t.span.start = ap (λ (u : Token). u.span.start) same in
            let end : h.token.span.end ≡ t.span.end = ap (λ (u : Token). u.span.end) same in
            let a = h.begins in
            let b = h.some in
            let is : begins_at at t.span ≡ true = both-and (t.span.start == at) (nat_lt at t.span.end) (is-eq t.span.start at (omega arith)) (lt-ltb at t.span.end (omega arith)) in
            cc
        which (inr one) = none span (record { token = h.token; is_one = one; begins = h.begins; some = h.some; span_is = h.span_is })

    by : (is : Bool) → begins_at at t.span ≡ is
        → IsToken tokens at (token_place tokens size at) ⊎ ((token_place tokens size at ≡ from_to size size) × ((span : Span) → ¬ IsToken tokens at span))
        → (let place : Span = if is then t.span else token_place tokens size at in IsToken (t ∷ tokens) at place ⊎ ((place ≡ from_to size size) × ((span : Span) → ¬ IsToken (t ∷ tokens) at span)))
    by true e later = inl (begun e)
    by false e (inl h) = inl (record { token = h.token; is_one = inr h.is_one; begins = h.begins; some = h.some; span_is = h.span_is })
    by false e (inr (place, none)) = inr (place, other e none)

pub token-is : (text : List ℕ) (tokens : List Token) → StandInOrder text 0 tokens → (size at : ℕ) (span : Span) → IsToken tokens at span → token_place tokens size at ≡ span
token-is text tokens stand size at span h = by (found tokens size at)
  where
    by : IsToken tokens at (token_place tokens size at) ⊎ ((token_place tokens size at ≡ from_to size size) × ((s : Span) → ¬ IsToken tokens at s)) → token_place tokens size at ≡ span
    by (inl k) = one-token text tokens stand at (token_place tokens size at) span k h
    by (inr (place, none)) = absurd (none span h)

pub token-none : (text : List ℕ) (tokens : List Token) (at : ℕ) → ((span : Span) → ¬ IsToken tokens at span) → token_place tokens (length (encode_utf8_all text)) at ≡ end_of_text text
token-none text tokens at none = by (found tokens (length (encode_utf8_all text)) at)
  where
    by : IsToken tokens at (token_place tokens (length (encode_utf8_all text)) at)
        ⊎ ((token_place tokens (length (encode_utf8_all text)) at ≡ from_to (length (encode_utf8_all text)) (length (encode_utf8_all text))) × ((s : Span) → ¬ IsToken tokens at s))
        → token_place tokens (length (encode_utf8_all text)) at ≡ end_of_text text
    by (inl k) = absurd (none (token_place tokens (length (encode_utf8_all text)) at) k)
    by (inr (place, _)) = place ∙ ap (λ n. from_to n n) (length-encodes text)
