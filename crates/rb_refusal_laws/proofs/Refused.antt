-- What is refused, and where.
use Rattle.std.proofs.Common.{◌≡◌, ◌⊎◌, inl, inr, ℕ, zero, suc, ◌+◌, ◌≤◌, ◌<◌, List, [], ◌∷◌, ◌++◌, length, slice_get, take, drop, Option, Some, None, Result, Ok, Err, refl, sym, ap, subst, ◌∙◌, append-nil, take-append-drop, arith}
use Rattle.std.proofs.lemmas.List.{length-take-le}
use Rattle.rb_tree.specs.declared.syntax.Tree.{Tree}
use Rattle.rb_tree.specs.declared.token.Token.{Token}
use Rattle.rb_weight.specs.Scans.{first_too_deep}
use Rattle.rb_weight.specs.Weights.{DeepAt, IsFirstDeep}
use Rattle.rb_weight.proofs.Alike.{first-deep}
use Rattle.rb_expr.specs.declared.ParseEnd.{ParseEnd}
use Rattle.rb_expr.specs.declared.ParseEnd.TheVariants.{Bad, TooDeep, NoMemory}
use Rattle.rb_decl.specs.Programs.{program, parsed, whole, whole_of, cut, cut_of, parsed_by, token_start, end_of}
use Rattle.rb_rules.specs.Grammar.{Begins, BadAt, EndsEarly}
use Rattle.rb_grammar.proofs.Programs.{programs-derive}
use Rattle.rb_refusal_laws.specs.Laws.{IsDeepAt, NoneBadBeforeDeep, BadTokensAreRefused, EarlyEndsAreRefused, DeepTokensAreRefused}
use Rattle.rb_refusal_laws.proofs.Fronts.{begins-with, front-longer, none-bad, no-end-is-bad, one-place}
use Rattle.rb_refusal_laws.proofs.Places.{answer, end-of-error, derived-begins, bad-token, bad-places-are-exact, deep-places-are-exact}

order : (m n : ℕ) → (m ≤ n) ⊎ (n < m)
order zero n = inl (omega arith)
order (suc m) zero = inr (omega arith)
order (suc m) (suc n) = next (order m n)
  where
    next : (m ≤ n) ⊎ (n < m) → (suc m ≤ suc n) ⊎ (suc n < suc m)
    next (inl h) = inl (omega arith)
    next (inr h) = inr (omega arith)

-- ---- before a deep token

-- where the tokens up to and with one begin a program, none of those is bad
bad-after : (tokens : List Token) (at turn bad : ℕ) → IsDeepAt tokens at turn → (p : BadAt tokens bad) → length p.before ≤ turn → ⊥
bad-after tokens at turn bad d p h =
    let few = take (turn + 1) tokens in
    let within : turn < length tokens = d.deep.within in
    let size : length few ≡ turn + 1 = length-take-le (turn + 1) tokens (omega arith) in
    let fronts : few ++ drop (turn + 1) tokens ≡ p.before ++ p.bad ∷ p.after = take-append-drop (turn + 1) tokens ∙ p.whole in
    let more = front-longer few (drop (turn + 1) tokens) p.before p.bad p.after fronts (omega arith) in
    p.none (begins-with few p.before p.bad more.0 more.1 d.begins)

pub none-bad-before-deep : NoneBadBeforeDeep
none-bad-before-deep tokens at turn bad d p = by (order (length p.before) turn)
  where
    by : (length p.before ≤ turn) ⊎ (turn < length p.before) → turn < length p.before
    by (inl h) = absurd (bad-after tokens at turn bad d p h)
    by (inr h) = h

-- ---- bad tokens

whole-has-memory : (tokens : List Token) (r : Result Tree (List Token)) → whole_of tokens r ≡ Err NoMemory → ⊥
whole-has-memory tokens (Ok t) h = cc
whole-has-memory tokens (Err rest) h = cc

cut-has-memory : (last : ℕ) (r : Result Tree (List Token)) → cut_of last r ≡ NoMemory → ⊥
cut-has-memory last (Ok t) h = cc
cut-has-memory last (Err []) h = cc
cut-has-memory last (Err (t ∷ ts)) h = cc

-- no answer is that memory ran out
has-memory : (tokens : List Token) (place : Option ℕ) → parsed_by tokens place ≡ Err NoMemory → ⊥
unfolding whole cut answer
has-memory tokens None e = whole-has-memory tokens (program (length tokens + 2) tokens) e
has-memory tokens (Some place) e =
    let few = take (place + 1) tokens in
    let last = token_start (slice_get tokens place) in
    cut-has-memory last (program (length few + 2) few) (end-of-error (cut_of last (program (length few + 2) few)) NoMemory e)

bad-refused : (tokens : List Token) (at : ℕ) (p : BadAt tokens at) → ((turn : ℕ) → DeepAt tokens 0 0 turn → length p.before ≤ turn) → (r : Result Tree ParseEnd) → parsed tokens ≡ r → r ≡ Err (Bad at)
bad-refused tokens at p first (Ok t) e = absurd (none-bad tokens at (derived-begins tokens t (programs-derive tokens t e)) p)
bad-refused tokens at p first (Err (Bad a)) e = ap (λ n. Err (Bad n)) (by (bad-places-are-exact tokens a e))
  where
    by : BadAt tokens a ⊎ (EndsEarly tokens × (a ≡ end_of tokens)) → a ≡ at
    by (inl q) = one-place tokens a at q p
    by (inr h) = absurd (no-end-is-bad tokens at h.0 p)
bad-refused tokens at p first (Err (TooDeep a)) e = let d = deep-places-are-exact tokens a e in absurd (bad-after tokens a d.0 at d.1 p (first d.0 d.1.deep))
bad-refused tokens at p first (Err NoMemory) e = absurd (has-memory tokens (first_too_deep tokens 0 0 0) e)

pub bad-tokens-are-refused : BadTokensAreRefused
bad-tokens-are-refused tokens at p first = bad-refused tokens at p first (parsed tokens) refl

early-refused : (tokens : List Token) → ((turn : ℕ) → ¬ DeepAt tokens 0 0 turn) → EndsEarly tokens → (r : Result Tree ParseEnd) → parsed tokens ≡ r → r ≡ Err (Bad (end_of tokens))
early-refused tokens light early (Ok t) e = absurd (early.none t (programs-derive tokens t e))
early-refused tokens light early (Err (Bad a)) e = ap (λ n. Err (Bad n)) (by (bad-places-are-exact tokens a e))
  where
    by : BadAt tokens a ⊎ (EndsEarly tokens × (a ≡ end_of tokens)) → a ≡ end_of tokens
    by (inl q) = absurd (no-end-is-bad tokens a early q)
    by (inr h) = h.1
early-refused tokens light early (Err (TooDeep a)) e = let d = deep-places-are-exact tokens a e in absurd (light d.0 d.1.deep)
early-refused tokens light early (Err NoMemory) e = absurd (has-memory tokens (first_too_deep tokens 0 0 0) e)

pub early-ends-are-refused : EarlyEndsAreRefused
early-ends-are-refused tokens light early = early-refused tokens light early (parsed tokens) refl

-- ---- deep tokens

none-deep-after : (tokens : List Token) (a b : ℕ) → DeepAt tokens 0 0 a → DeepAt tokens 0 0 b → a < b → ⊥
none-deep-after tokens a b p q less = let light = q.first (a + 1) (omega arith) in let deep = p.deep in absurd (omega arith)

one-deep : (tokens : List Token) (a b : ℕ) → DeepAt tokens 0 0 a → DeepAt tokens 0 0 b → a ≡ b
one-deep tokens a b p q = by (order a b) (order b a)
  where
    by : (a ≤ b) ⊎ (b < a) → (b ≤ a) ⊎ (a < b) → a ≡ b
    by (inl h) (inl k) = omega arith
    by (inr h) k = absurd (none-deep-after tokens b a q p h)
    by (inl h) (inr k) = absurd (none-deep-after tokens a b p q k)

cut-deep : (tokens : List Token) (last : ℕ) → Begins tokens → (r : Result Tree (List Token)) → program (length tokens + 2) tokens ≡ r → cut_of last r ≡ TooDeep last
cut-deep tokens last b (Ok t) e = refl
cut-deep tokens last b (Err []) e = refl
cut-deep tokens last b (Err (t ∷ ts)) e = absurd (none-bad tokens t.span.start b (bad-token tokens tokens [] t ts (sym (append-nil tokens)) e))

deep-at : (tokens : List Token) (turn : ℕ) → Begins (take (turn + 1) tokens) → parsed_by tokens (Some turn) ≡ Err (TooDeep (token_start (slice_get tokens turn)))
unfolding cut
deep-at tokens turn b =
    let few = take (turn + 1) tokens in
    let last = token_start (slice_get tokens turn) in
    ap (λ end. Err end) (cut-deep few last b (program (length few + 2) few) refl)

deep-refused : (tokens : List Token) (turn : ℕ) → DeepAt tokens 0 0 turn → Begins (take (turn + 1) tokens) → (place : Option ℕ) → IsFirstDeep tokens 0 0 0 place → parsed_by tokens place ≡ Err (TooDeep (token_start (slice_get tokens turn)))
deep-refused tokens turn d b None none = absurd (none turn d)
deep-refused tokens turn d b (Some place) (other, e, d2) =
    let one = one-deep tokens turn other d d2 in
    let same : turn ≡ place = omega arith in
    subst (λ k. parsed_by tokens (Some k) ≡ Err (TooDeep (token_start (slice_get tokens turn)))) same (deep-at tokens turn b)

pub deep-tokens-are-refused : DeepTokensAreRefused
deep-tokens-are-refused tokens turn d b = deep-refused tokens turn d b (first_too_deep tokens 0 0 0) (first-deep tokens 0 0 0 (omega arith) (omega arith))
