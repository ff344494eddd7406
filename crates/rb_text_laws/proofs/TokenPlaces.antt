-- The token that begins at an offset: there are no two that are not empty, and none begins where the last one ends.
use Rattle.std.proofs.Common.{◌≡◌, ℕ, ◌-◌, ◌<◌, ◌≤◌, List, [], ◌∷◌, length, slice_get, suc, Option, Some, None, inl, inr, sym, ap, subst, ◌∙◌, arith}
use Rattle.srb_terms.specs.declared.span.Span.{Span}
use Rattle.rb_tree.specs.declared.token.Token.{Token}
use Rattle.rb_decl.specs.Programs.{end_of}
use Rattle.rb_lex_laws.specs.Tokens.{StandInOrder}
use Rattle.rb_rules.specs.Tokens.{IsOneOf}
use Rattle.rb_text_laws.specs.Texts.{IsToken}

-- a token begins no earlier than the tokens begin to stand
begins-after : (text : List ℕ) (from : ℕ) (tokens : List Token) → StandInOrder text from tokens → (t : Token) → IsOneOf tokens t → from ≤ t.span.start
begins-after text from [] stand t h = absurd h
begins-after text from (u ∷ tokens) stand t (inl e) = subst (λ (v : Token). from ≤ v.span.start) (sym e) stand.0
begins-after text from (u ∷ tokens) stand t (inr h) = let later = begins-after text u.span.end tokens stand.4 t h in let a = stand.0 in let b = stand.1 in omega arith

-- of two tokens, the second in this list after the first, that begin at one offset one is empty
never : (text : List ℕ) (v : Token) (tokens : List Token) → StandInOrder text v.span.end tokens → (t u : Token) → t ≡ v → IsOneOf tokens u
    → t.span.start < t.span.end → t.span.start ≡ u.span.start → ⊥
never text v tokens stand t u e h some same =
    let later = begins-after text v.span.end tokens stand u h in
    let end : t.span.end ≡ v.span.end = ap (λ (x : Token). x.span.end) e in
    omega arith

same-token : (text : List ℕ) (from : ℕ) (tokens : List Token) → StandInOrder text from tokens → (t u : Token) → IsOneOf tokens t → IsOneOf tokens u
    → t.span.start < t.span.end → u.span.start < u.span.end → t.span.start ≡ u.span.start → t ≡ u
same-token text from [] stand t u h k a b same = absurd h
same-token text from (v ∷ tokens) stand t u (inl e) (inl f) a b same = e ∙ sym f
same-token text from (v ∷ tokens) stand t u (inl e) (inr k) a b same = absurd (never text v tokens stand.4 t u e k a same)
same-token text from (v ∷ tokens) stand t u (inr h) (inl f) a b same = absurd (never text v tokens stand.4 u t f h b (sym same))
same-token text from (v ∷ tokens) stand t u (inr h) (inr k) a b same = same-token text v.span.end tokens stand.4 t u h k a b same

pub one-token : (text : List ℕ) (tokens : List Token) → StandInOrder text 0 tokens → (at : ℕ) (a b : Span) → IsToken tokens at a → IsToken tokens at b → a ≡ b
one-token text tokens stand at a b x y =
    x.span_is ∙ ap (λ (t : Token). t.span) (same-token text 0 tokens stand x.token y.token x.is_one y.is_one x.some y.some (sym x.begins ∙ y.begins)) ∙ sym y.span_is

-- ---- the last token

abbrev end_in : Option Token → ℕ
end_in (Some t) = t.span.end
end_in None = 0

end-further : (u v : Token) (tokens : List Token) → end_of (u ∷ v ∷ tokens) ≡ end_of (v ∷ tokens)
end-further u v tokens =
    let e : length (u ∷ v ∷ tokens) - 1 ≡ suc (length (v ∷ tokens) - 1) = omega arith in
    ap (λ n. end_in (slice_get (u ∷ v ∷ tokens) n)) e

end-before : (text : List ℕ) (from : ℕ) (u : Token) (tokens : List Token) → StandInOrder text from (u ∷ tokens) → u.span.end ≤ end_of (u ∷ tokens)
end-before text from u [] stand = omega arith
end-before text from u (v ∷ tokens) stand =
    let later = end-before text u.span.end v tokens stand.4 in
    let e = end-further u v tokens in
    let a = stand.4.0 in
    let b = stand.4.1 in
    omega arith

-- no token ends after the last
pub ends-before : (text : List ℕ) (from : ℕ) (tokens : List Token) → StandInOrder text from tokens → (t : Token) → IsOneOf tokens t → t.span.end ≤ end_of tokens
ends-before text from [] stand t h = absurd h
ends-before text from (u ∷ tokens) stand t (inl e) = subst (λ (x : Token). x.span.end ≤ end_of (u ∷ tokens)) (sym e) (end-before text from u tokens stand)
ends-before text from (u ∷ []) stand t (inr h) = absurd h
ends-before text from (u ∷ v ∷ tokens) stand t (inr h) = let later = ends-before text u.span.end (v ∷ tokens) stand.4 t h in let e = end-further u v tokens in omega arith

-- so none that is not empty begins where the last one ends
pub none-at-end : (text : List ℕ) (tokens : List Token) → StandInOrder text 0 tokens → (span : Span) → ¬ IsToken tokens (end_of tokens) span
none-at-end text tokens stand span h = let e = ends-before text 0 tokens stand h.token h.is_one in let a = h.begins in let b = h.some in omega arith
