-- Exactly one verdict holds, and it is answered.
use Rattle.std.proofs.Common.{◌≡◌, ◌⊎◌, inl, inr, ℕ, ◌+◌, ◌<◌, ◌≤◌, List, [], ◌∷◌, ◌++◌, length, slice_get, take, drop, Option, Some, None, Result, Ok, Err, refl, sym, ap, subst, ◌∙◌, append-nil, take-append-drop, arith}
use Rattle.std.proofs.lemmas.List.{length-take-le}
use Rattle.rb_tree.specs.declared.syntax.Tree.{Tree}
use Rattle.rb_tree.specs.declared.token.Token.{Token}
use Rattle.rb_weight.specs.Scans.{first_too_deep}
use Rattle.rb_weight.specs.Weights.{DeepAt}
use Rattle.rb_expr.specs.declared.ParseEnd.{ParseEnd}
use Rattle.rb_expr.specs.declared.ParseEnd.TheVariants.{Bad, TooDeep, NoMemory}
use Rattle.rb_decl.specs.Programs.{end_of, parsed, parsed_by, program, token_start, whole, whole_of, cut, cut_of}
use Rattle.rb_rules.specs.Grammar.{Begins, BadAt, EndsEarly}
use Rattle.rb_weight_laws.proofs.Laws.{programs-are-deep-by-roles, fronts-are-deep-by-roles}
use Rattle.rb_grammar_laws.proofs.Answers.{parsed-exactly, programs-answer}
use Rattle.rb_refusal_laws.proofs.Fronts.{one-front, no-end-is-bad}
use Rattle.rb_refusal_laws.proofs.Places.{answer, end-of-error, bad-places-are-exact, deep-places-are-exact}
use Rattle.rb_refusal_laws.proofs.Refused.{bad-tokens-are-refused, early-ends-are-refused, deep-tokens-are-refused}
use Rattle.rb_verdict_laws.specs.Verdicts.{Verdict, Holds, IsProgram, IsBadToken, IsShort, IsDeepToken, start_at}
use Rattle.rb_verdict_laws.specs.Laws.{OneHolds, NoTwoHold, OneTree, VerdictsAreAnswered, Says, AnswersHold}
use Rattle.rb_verdict_laws.proofs.Depths.{order, deep-further, deep-nearer, fronts-begin, got-after, light-by-pass, light-by-roles, one-deep}

-- ---- what a verdict says of the pass over tokens

-- the first deep token by the pass, where the tokens up to and with it begin a program
deep-by-pass : (tokens : List Token) (turn : ℕ) → IsDeepToken tokens turn → DeepAt tokens 0 0 turn
deep-by-pass tokens turn v =
    let h : turn < length tokens = v.within in
    let few = take (turn + 1) tokens in
    let size : length few ≡ turn + 1 = length-take-le (turn + 1) tokens (omega arith) in
    let d : DeepAt few 0 0 turn = (fronts-are-deep-by-roles few v.begins turn (omega arith)).1 v.deep in
    subst (λ us. DeepAt us 0 0 turn) (take-append-drop (turn + 1) tokens) (deep-further few (drop (turn + 1) tokens) turn d)

-- a deep token by the pass stands at the bad one or after it
bad-first : (tokens : List Token) (at : ℕ) (p : BadAt tokens at) → ((turn : ℕ) → ¬ DeepAt p.before 0 0 turn) → (turn : ℕ) → DeepAt tokens 0 0 turn → length p.before ≤ turn
bad-first tokens at p light turn d = by (order (length p.before) turn)
  where
    by : (length p.before ≤ turn) ⊎ (turn < length p.before) → length p.before ≤ turn
    by (inl h) = h
    by (inr h) = absurd (light turn (deep-nearer p.before (p.bad ∷ p.after) turn h (subst (λ us. DeepAt us 0 0 turn) p.whole d)))

-- ---- a verdict is answered

program-answered : (tokens : List Token) (t : Tree) → IsProgram tokens t → parsed tokens ≡ Ok t
program-answered tokens t v = (parsed-exactly tokens t).1 (v.derives, λ turn d. v.light turn ((programs-are-deep-by-roles tokens t v.derives turn).0 d))

bad-answered : (tokens : List Token) (turn : ℕ) → IsBadToken tokens turn → parsed tokens ≡ Err (Bad (start_at tokens turn))
bad-answered tokens turn v =
    bad-tokens-are-refused tokens (start_at tokens turn) v.bad (bad-first tokens (start_at tokens turn) v.bad (light-by-pass v.bad.before v.bad.begins v.light))

short-answered : (tokens : List Token) → IsShort tokens → parsed tokens ≡ Err (Bad (end_of tokens))
short-answered tokens v = early-ends-are-refused tokens (light-by-pass tokens v.early.begins v.light) v.early

deep-answered : (tokens : List Token) (turn : ℕ) → IsDeepToken tokens turn → parsed tokens ≡ Err (TooDeep (start_at tokens turn))
deep-answered tokens turn v = deep-tokens-are-refused tokens turn (deep-by-pass tokens turn v) v.begins

pub verdicts-are-answered : VerdictsAreAnswered
verdicts-are-answered tokens (Verdict.Program t) v = program-answered tokens t v
verdicts-are-answered tokens (Verdict.BadToken turn) v = bad-answered tokens turn v
verdicts-are-answered tokens Verdict.Short v = short-answered tokens v
verdicts-are-answered tokens (Verdict.DeepToken turn) v = deep-answered tokens turn v

-- ---- an answer says a verdict

not-both : (tokens : List Token) (a b : ℕ) → parsed tokens ≡ Err (Bad a) → parsed tokens ≡ Err (TooDeep b) → ⊥
unfolding answer
not-both tokens a b e f = apart (end-of-error (Bad a) (TooDeep b) (sym e ∙ f))
  where
    apart : Bad a ≡ TooDeep b → ⊥
    apart h = cc

-- where bad tokens are refused, none of a front that begins a program is deep
light-front : (tokens xs ys : List Token) (at : ℕ) → tokens ≡ xs ++ ys → parsed tokens ≡ Err (Bad at) → Begins xs → (turn : ℕ) → ¬ DeepAt xs 0 0 turn
light-front tokens xs ys at whole e b turn d =
    let h : turn < length xs = d.within in
    let e' : parsed (xs ++ ys) ≡ Err (Bad at) = subst (λ us. parsed us ≡ Err (Bad at)) whole e in
    not-both (xs ++ ys) at (start_at (xs ++ ys) turn) e' (deep-tokens-are-refused (xs ++ ys) turn (deep-further xs ys turn d) (fronts-begin xs ys turn h b))

pub program-said : (tokens : List Token) (t : Tree) → parsed tokens ≡ Ok t → IsProgram tokens t
program-said tokens t e =
    let h = (parsed-exactly tokens t).0 e in
    record { derives = h.0; light = λ turn d. h.1 turn ((programs-are-deep-by-roles tokens t h.0 turn).1 d) }

bad-place : (tokens : List Token) (at : ℕ) (p : BadAt tokens at) → at ≡ start_at tokens (length p.before)
bad-place tokens at p =
    p.place ∙ ap token_start (sym (got-after p.before p.bad p.after)) ∙ ap (λ us. start_at us (length p.before)) (sym p.whole)

pub bad-said : (tokens : List Token) (at : ℕ) (p : BadAt tokens at) → parsed tokens ≡ Err (Bad at) → IsBadToken tokens (length p.before)
bad-said tokens at p e =
    record {
      bad = record { before = p.before; bad = p.bad; after = p.after; whole = p.whole; place = sym (bad-place tokens at p) ∙ p.place; begins = p.begins; none = p.none };
      number = refl;
      light = light-by-roles p.before p.begins (light-front tokens p.before (p.bad ∷ p.after) at p.whole e p.begins);
    }

pub short-said : (tokens : List Token) (at : ℕ) → EndsEarly tokens → parsed tokens ≡ Err (Bad at) → IsShort tokens
short-said tokens at early e =
    record { early = early; light = light-by-roles tokens early.begins (light-front tokens tokens [] at (sym (append-nil tokens)) e early.begins) }

pub deep-said : (tokens : List Token) (turn : ℕ) → DeepAt tokens 0 0 turn → Begins (take (turn + 1) tokens) → IsDeepToken tokens turn
deep-said tokens turn d b =
    let h : turn < length tokens = d.within in
    let few = take (turn + 1) tokens in
    let size : length few ≡ turn + 1 = length-take-le (turn + 1) tokens (omega arith) in
    let near : DeepAt few 0 0 turn = deep-nearer few (drop (turn + 1) tokens) turn (omega arith) (subst (λ us. DeepAt us 0 0 turn) (sym (take-append-drop (turn + 1) tokens)) d) in
    record { within = h; begins = b; deep = (fronts-are-deep-by-roles few b turn (omega arith)).0 near }

-- what is said of the answer that is computed
said : (tokens : List Token) (r : Result Tree ParseEnd) → parsed tokens ≡ r → Says tokens r
said tokens (Ok t) e = program-said tokens t e
said tokens (Err (Bad at)) e = by (bad-places-are-exact tokens at e)
  where
    by : BadAt tokens at ⊎ (EndsEarly tokens × (at ≡ end_of tokens)) → Says tokens (Err (Bad at))
    by (inl p) = inl (length p.before, bad-place tokens at p, bad-said tokens at p e)
    by (inr h) = inr (h.1, short-said tokens at h.0 e)
said tokens (Err (TooDeep at)) e = let h = deep-places-are-exact tokens at e in (h.0, h.1.place, deep-said tokens h.0 h.1.deep h.1.begins)
said tokens (Err NoMemory) e = tt

pub answers-hold : AnswersHold
answers-hold tokens (Ok t) e = said tokens (Ok t) e
answers-hold tokens (Err (Bad at)) e = said tokens (Err (Bad at)) e
answers-hold tokens (Err (TooDeep at)) e = said tokens (Err (TooDeep at)) e
answers-hold tokens (Err NoMemory) e = tt

-- ---- no tokens alone make memory run out

whole-tells : (tokens : List Token) (r : Result Tree (List Token)) → whole_of tokens r ≡ Err NoMemory → ⊥
whole-tells tokens (Ok t) h = cc
whole-tells tokens (Err rest) h = cc

cut-tells : (last : ℕ) (r : Result Tree (List Token)) → cut_of last r ≡ NoMemory → ⊥
cut-tells last (Ok t) h = cc
cut-tells last (Err []) h = cc
cut-tells last (Err (t ∷ ts)) h = cc

parsed-tells : (tokens : List Token) (place : Option ℕ) → parsed_by tokens place ≡ Err NoMemory → ⊥
unfolding whole cut answer
parsed-tells tokens None e = whole-tells tokens (program (length tokens + 2) tokens) e
parsed-tells tokens (Some place) e =
    let few = take (place + 1) tokens in
    let last = token_start (slice_get tokens place) in
    cut-tells last (program (length few + 2) few) (end-of-error (cut_of last (program (length few + 2) few)) NoMemory e)

-- ---- exactly one

told : (tokens : List Token) (r : Result Tree ParseEnd) → parsed tokens ≡ r → Says tokens r → (v : Verdict) × Holds tokens v
told tokens (Ok t) e h = (Verdict.Program t, h)
told tokens (Err (Bad at)) e (inl h) = (Verdict.BadToken h.0, h.2)
told tokens (Err (Bad at)) e (inr h) = (Verdict.Short, h.1)
told tokens (Err (TooDeep at)) e h = (Verdict.DeepToken h.0, h.2)
told tokens (Err NoMemory) e h = absurd (parsed-tells tokens (first_too_deep tokens 0 0 0) e)

pub one-holds : OneHolds
one-holds tokens = told tokens (parsed tokens) refl (said tokens (parsed tokens) refl)

program-or-refusal : (tokens : List Token) (t : Tree) (end : ParseEnd) → parsed tokens ≡ Ok t → parsed tokens ≡ Err end → ⊥
program-or-refusal tokens t end e f = absurd (cc)

same-tree : (tokens : List Token) (t u : Tree) → parsed tokens ≡ Ok t → parsed tokens ≡ Ok u → t ≡ u
same-tree tokens t u e f = cc

one-bad : (tokens : List Token) (a b : ℕ) → IsBadToken tokens a → IsBadToken tokens b → a ≡ b
one-bad tokens a b v w = v.number ∙ ap (λ (us : List Token). length us) (one-front tokens (start_at tokens a) (start_at tokens b) v.bad w.bad) ∙ sym w.number

pub no-two-hold : NoTwoHold
no-two-hold tokens (Verdict.Program t) (Verdict.Program u) v w = ap (λ x. Verdict.Program x) (same-tree tokens t u (program-answered tokens t v) (program-answered tokens u w))
no-two-hold tokens (Verdict.Program t) (Verdict.BadToken b) v w = absurd (program-or-refusal tokens t (Bad (start_at tokens b)) (program-answered tokens t v) (bad-answered tokens b w))
no-two-hold tokens (Verdict.Program t) Verdict.Short v w = absurd (program-or-refusal tokens t (Bad (end_of tokens)) (program-answered tokens t v) (short-answered tokens w))
no-two-hold tokens (Verdict.Program t) (Verdict.DeepToken b) v w = absurd (program-or-refusal tokens t (TooDeep (start_at tokens b)) (program-answered tokens t v) (deep-answered tokens b w))
no-two-hold tokens (Verdict.BadToken a) (Verdict.Program u) v w = absurd (program-or-refusal tokens u (Bad (start_at tokens a)) (program-answered tokens u w) (bad-answered tokens a v))
no-two-hold tokens (Verdict.BadToken a) (Verdict.BadToken b) v w = ap (λ n. Verdict.BadToken n) (one-bad tokens a b v w)
no-two-hold tokens (Verdict.BadToken a) Verdict.Short v w = absurd (no-end-is-bad tokens (start_at tokens a) w.early v.bad)
no-two-hold tokens (Verdict.BadToken a) (Verdict.DeepToken b) v w = absurd (not-both tokens (start_at tokens a) (start_at tokens b) (bad-answered tokens a v) (deep-answered tokens b w))
no-two-hold tokens Verdict.Short (Verdict.Program u) v w = absurd (program-or-refusal tokens u (Bad (end_of tokens)) (program-answered tokens u w) (short-answered tokens v))
no-two-hold tokens Verdict.Short (Verdict.BadToken b) v w = absurd (no-end-is-bad tokens (start_at tokens b) v.early w.bad)
no-two-hold tokens Verdict.Short Verdict.Short v w = refl
no-two-hold tokens Verdict.Short (Verdict.DeepToken b) v w = absurd (not-both tokens (end_of tokens) (start_at tokens b) (short-answered tokens v) (deep-answered tokens b w))
no-two-hold tokens (Verdict.DeepToken a) (Verdict.Program u) v w = absurd (program-or-refusal tokens u (TooDeep (start_at tokens a)) (program-answered tokens u w) (deep-answered tokens a v))
no-two-hold tokens (Verdict.DeepToken a) (Verdict.BadToken b) v w = absurd (not-both tokens (start_at tokens b) (start_at tokens a) (bad-answered tokens b w) (deep-answered tokens a v))
no-two-hold tokens (Verdict.DeepToken a) Verdict.Short v w = absurd (not-both tokens (end_of tokens) (start_at tokens a) (short-answered tokens w) (deep-answered tokens a v))
no-two-hold tokens (Verdict.DeepToken a) (Verdict.DeepToken b) v w = ap (λ n. Verdict.DeepToken n) (one-deep tokens a b (deep-by-pass tokens a v) (deep-by-pass tokens b w))

-- ---- one tree

pub one-tree : OneTree
one-tree tokens t u d e = let f = programs-answer tokens t d in let g = programs-answer tokens u e in cc
