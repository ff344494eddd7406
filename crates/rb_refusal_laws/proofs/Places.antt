-- Where tokens are refused.
use Rattle.std.proofs.Common.{◌≡◌, ◌⊎◌, inl, inr, ℕ, ◌+◌, List, [], ◌∷◌, ◌++◌, length, slice_get, take, drop, Option, Some, None, Result, Ok, Err, refl, sym, ap, subst, ◌∙◌, append_assoc, append-nil, take-append-drop, arith}
use Rattle.rb_tree.specs.declared.syntax.Tree.{Tree}
use Rattle.rb_tree.specs.declared.token.Token.{Token}
use Rattle.rb_weight.specs.Scans.{first_too_deep}
use Rattle.rb_weight.specs.Weights.{DeepAt, IsFirstDeep}
use Rattle.rb_weight.proofs.Alike.{first-deep}
use Rattle.rb_expr.specs.declared.ParseEnd.{ParseEnd}
use Rattle.rb_expr.specs.declared.ParseEnd.TheVariants.{Bad, TooDeep}
use Rattle.rb_decl.specs.Programs.{program, whole, whole_of, cut, cut_of, parsed_by, token_start, end_of}
use Rattle.rb_rules.specs.Grammar.{Derives, Begins, BadAt, EndsEarly}
use Rattle.rb_grammar.proofs.Programs.{program-derives}
use Rattle.rb_grammar_laws.proofs.Answers.{programs-answer}
use Rattle.rb_completion_laws.proofs.Laws.{fronts-begin, refusals-are-ends}
use Rattle.rb_refusal_laws.proofs.Begun.{no-program-begins-so}
use Rattle.rb_refusal_laws.specs.Laws.{BadPlacesAreExact, IsDeepAt, DeepPlacesAreExact}

-- ---- what a refusal tells

-- a program begins itself
pub derived-begins : (tokens : List Token) (t : Tree) → Derives tokens t → Begins tokens
derived-begins tokens t d = ([], t, subst (λ us. Derives us t) (sym (append-nil tokens)) d)

-- what is refused at its end begins a program
ended-begins : (d : ℕ) (tokens : List Token) → program d tokens ≡ Err [] → Begins tokens
ended-begins d tokens e = fronts-begin d tokens [] (subst (λ us. program d us ≡ Err []) (sym (append-nil tokens)) e)

-- a token is refused among the first of these
pub bad-token : (tokens all rest : List Token) (t : Token) (ts : List Token) → all ≡ tokens ++ rest → program (length tokens + 2) tokens ≡ Err (t ∷ ts) → BadAt all t.span.start
bad-token tokens all rest t ts whole' e =
    let h = refusals-are-ends (length tokens + 2) tokens (t ∷ ts) e in
    let e' : program (length (h.0 ++ t ∷ ts) + 2) (h.0 ++ t ∷ ts) ≡ Err (t ∷ ts) = subst (λ us. program (length us + 2) us ≡ Err (t ∷ ts)) h.1 e in
    record {
      before = h.0;
      bad = t;
      after = ts ++ rest;
      whole = whole' ∙ ap (λ us. us ++ rest) h.1 ∙ append_assoc h.0 (t ∷ ts) rest;
      place = refl;
      begins = fronts-begin (length (h.0 ++ t ∷ ts) + 2) h.0 (t ∷ ts) e';
      none = no-program-begins-so h.0 t ts e';
    }

no-tree : (tokens : List Token) → program (length tokens + 2) tokens ≡ Err [] → (t : Tree) → ¬ Derives tokens t
no-tree tokens e t d = let ok = programs-answer tokens t d in absurd (cc)

pub ends-early : (tokens : List Token) → program (length tokens + 2) tokens ≡ Err [] → EndsEarly tokens
ends-early tokens e = record { begins = ended-begins (length tokens + 2) tokens e; none = no-tree tokens e }

unfoldable pub answer : ParseEnd → Result Tree ParseEnd
answer end = Err end

pub end-of-error : (a b : ParseEnd) → answer a ≡ answer b → a ≡ b
unfolding answer
end-of-error a b e = cc

-- ---- bad tokens

-- the tokens are refused there for what they are
abbrev IsBad : List Token → ℕ → Type 0
IsBad tokens at = BadAt tokens at ⊎ (EndsEarly tokens × (at ≡ end_of tokens))

whole-bad : (tokens : List Token) (at : ℕ) (r : Result Tree (List Token)) → program (length tokens + 2) tokens ≡ r → whole_of tokens r ≡ Err (Bad at) → IsBad tokens at
whole-bad tokens at (Ok t) e h = absurd (cc)
whole-bad tokens at (Err []) e h = let p : end_of tokens ≡ at = cc in inr (ends-early tokens e, sym p)
whole-bad tokens at (Err (t ∷ ts)) e h = let p : t.span.start ≡ at = cc in inl (subst (BadAt tokens) p (bad-token tokens tokens [] t ts (sym (append-nil tokens)) e))

cut-bad : (tokens all rest : List Token) (last at : ℕ) (r : Result Tree (List Token)) → all ≡ tokens ++ rest → program (length tokens + 2) tokens ≡ r → cut_of last r ≡ Bad at → BadAt all at
cut-bad tokens all rest last at (Ok t) whole' e h = absurd (cc)
cut-bad tokens all rest last at (Err []) whole' e h = absurd (cc)
cut-bad tokens all rest last at (Err (t ∷ ts)) whole' e h = let p : t.span.start ≡ at = cc in subst (BadAt all) p (bad-token tokens all rest t ts whole' e)

bad-by : (tokens : List Token) (at : ℕ) (place : Option ℕ) → parsed_by tokens place ≡ Err (Bad at) → IsBad tokens at
unfolding whole cut answer
bad-by tokens at None e = whole-bad tokens at (program (length tokens + 2) tokens) refl e
bad-by tokens at (Some place) e =
    let few = take (place + 1) tokens in
    let last = token_start (slice_get tokens place) in
    let e' : cut_of last (program (length few + 2) few) ≡ Bad at = end-of-error (cut_of last (program (length few + 2) few)) (Bad at) e in
    inl (cut-bad few tokens (drop (place + 1) tokens) last at (program (length few + 2) few) (sym (take-append-drop (place + 1) tokens)) refl e')

pub bad-places-are-exact : BadPlacesAreExact
bad-places-are-exact tokens at e = bad-by tokens at (first_too_deep tokens 0 0 0) e

-- ---- deep tokens

whole-shallow : (tokens : List Token) (at : ℕ) (r : Result Tree (List Token)) → whole_of tokens r ≡ Err (TooDeep at) → ⊥
whole-shallow tokens at (Ok t) h = cc
whole-shallow tokens at (Err rest) h = cc

cut-begins : (tokens : List Token) (last at : ℕ) (r : Result Tree (List Token)) → program (length tokens + 2) tokens ≡ r → cut_of last r ≡ TooDeep at → (at ≡ last) × Begins tokens
cut-begins tokens last at (Ok t) e h = let p : last ≡ at = cc in (sym p, derived-begins tokens t (program-derives (length tokens + 2) tokens t e))
cut-begins tokens last at (Err []) e h = let p : last ≡ at = cc in (sym p, ended-begins (length tokens + 2) tokens e)
cut-begins tokens last at (Err (t ∷ ts)) e h = absurd (cc)

deep-by : (tokens : List Token) (at : ℕ) (place : Option ℕ) → IsFirstDeep tokens 0 0 0 place → parsed_by tokens place ≡ Err (TooDeep at) → (turn : ℕ) × IsDeepAt tokens at turn
unfolding whole cut answer
deep-by tokens at None none e = absurd (whole-shallow tokens at (program (length tokens + 2) tokens) e)
deep-by tokens at (Some place) (turn, e2, deep) e =
    let few = take (place + 1) tokens in
    let last = token_start (slice_get tokens place) in
    let e' : cut_of last (program (length few + 2) few) ≡ TooDeep at = end-of-error (cut_of last (program (length few + 2) few)) (TooDeep at) e in
    let h = cut-begins few last at (program (length few + 2) few) refl e' in
    let same : turn ≡ place = omega arith in
    let D : ℕ → Type 0 = λ n. DeepAt tokens 0 0 n in
    (place, record { place = h.0; deep = subst D same deep; begins = h.1 })

pub deep-places-are-exact : DeepPlacesAreExact
deep-places-are-exact tokens at e = deep-by tokens at (first_too_deep tokens 0 0 0) (first-deep tokens 0 0 0 (omega arith) (omega arith)) e
