-- Each text is a program or refused, and only one of these.
use Rattle.std.proofs.Common.{◌≡◌, ℕ, zero, suc, ◌+◌, ◌<◌, ◌⊎◌, List, [], ◌∷◌, ◌++◌, length, take, inl, inr, refl, sym, ap, subst, ◌∙◌, length-append, arith}
use Rattle.rb_tree.specs.declared.token.Token.{Token}
use Rattle.rb_weight.specs.Weights.{DeepAt}
use Rattle.rb_weight_laws.proofs.Laws.{fronts-are-deep-by-roles}
use Rattle.rb_lex.specs.Lexed.{lexed_text}
use Rattle.rb_lex_laws.proofs.Standing.{places-start}
use Rattle.rb_lex_laws.proofs.Told.{each-told, outside-told, bad-told}
use Rattle.rb_rules.specs.Grammar.{Begins}
use Rattle.rb_rules.specs.Lexes.{Lexes, OutsideAt, BadCharAt}
use Rattle.rb_verdict_laws.specs.Verdicts as verdicts
use Rattle.rb_verdict_laws.specs.Verdicts.{IsDeepToken, Holds, start_at}
use Rattle.rb_verdict_laws.proofs.Verdicts.{one-holds}
use Rattle.rb_text_laws.specs.Laws.{EachTextIsJudged, OneVerdict}
use Rattle.rb_text_laws.specs.Texts.{IsNoRuby, IsOutside, IsTooDeep, IsToken, Verdict, Is, end_of_text}
use Rattle.rb_text_laws.proofs.Answers.{OfLexed, answered, middle-token, one-lexed}
use Rattle.rb_text_laws.proofs.Characters.{character-at}
use Rattle.rb_text_laws.proofs.Shown.{tokens-seen, token-shown}

abbrev Judged : List ℕ → Type 0
Judged text = (verdict : Verdict) × Is text verdict

-- ---- texts without tokens

outside-judged : (text : List ℕ) (at : ℕ) → OutsideAt text at → Judged text
outside-judged text at form =
    let c = character-at text at (places-start text at (inl ((outside-told text at).1 form))) in
    (Verdict.Outside c.0, IsOutside.AtForm at c.0 form c.1)

bad-judged : (text : List ℕ) (at : ℕ) → BadCharAt text at → Judged text
bad-judged text at bad =
    let c = character-at text at (places-start text at (inr ((bad-told text at).1 bad))) in
    (Verdict.NoRuby c.0, IsNoRuby.AtCharacter at c.0 bad c.1)

-- ---- tokens

-- a token with those before and after it
record Split (tokens : List Token) (turn : ℕ) : Type 0 where
  pub before : List Token
  pub token : Token
  pub after : List Token
  pub whole : tokens ≡ before ++ token ∷ after
  pub place : length before ≡ turn
  pub front : take (turn + 1) tokens ≡ before ++ token ∷ []

split-at : (tokens : List Token) (turn : ℕ) → turn < length tokens → Split tokens turn
split-at [] turn h = absurd (omega arith)
split-at (t ∷ tokens) zero h = record { before = []; token = t; after = tokens; whole = refl; place = refl; front = refl }
split-at (t ∷ tokens) (suc turn) h =
    let s = split-at tokens turn (omega arith) in
    let n : suc turn + 1 ≡ suc (turn + 1) = omega arith in
    record {
      before = t ∷ s.before;
      token = s.token;
      after = s.after;
      whole = ap (λ (ts : List Token). t ∷ ts) s.whole;
      place = ap suc s.place;
      front = ap (λ k. take k (t ∷ tokens)) n ∙ ap (λ (ts : List Token). t ∷ ts) s.front;
    }

deep-judged : (text : List ℕ) (tokens : List Token) (turn : ℕ) → Lexes text tokens → IsDeepToken tokens turn → Judged text
deep-judged text tokens turn l d =
    let here : turn < length tokens = d.within in
    let s = split-at tokens turn here in
    let few : List Token = s.before ++ s.token ∷ [] in
    let begins : Begins few = subst Begins s.front d.begins in
    let long : turn < length (take (turn + 1) tokens) = omega (arith, ap (λ (ts : List Token). length ts) s.front, length-append s.before (s.token ∷ []), s.place) in
    let deep : DeepAt (take (turn + 1) tokens) 0 0 turn = (fronts-are-deep-by-roles (take (turn + 1) tokens) d.begins turn long).1 d.deep in
    let within : length s.before < length few = omega (arith, length-append s.before (s.token ∷ [])) in
    let short : DeepAt few 0 0 (length s.before) = subst (λ n. DeepAt few 0 0 n) (sym s.place) (subst (λ (ts : List Token). DeepAt ts 0 0 turn) s.front deep) in
    (Verdict.TooDeep s.token.span, IsTooDeep.AtDeepToken tokens s.before s.token s.after l s.whole begins ((fronts-are-deep-by-roles few begins (length s.before) within).0 short))

-- what the tokens of a text are says what the text is
tokens-judged : (text : List ℕ) (tokens : List Token) → Lexes text tokens → (v : verdicts.Verdict) → Holds tokens v → Judged text
tokens-judged text tokens l (verdicts.Verdict.Program tree) p = (Verdict.Program tree, record { tokens = tokens; lexes = l; derives = p.derives; shallow = p.light })
tokens-judged text tokens l (verdicts.Verdict.BadToken turn) b =
    let bad = b.bad in
    let shown = token-shown tokens (tokens-seen text tokens l) bad.bad (middle-token tokens bad.before bad.bad bad.after bad.whole) in
    let place : IsToken tokens (start_at tokens turn) shown.0 = subst (λ n. IsToken tokens n shown.0) (sym bad.place) shown.1 in
    (Verdict.NoRuby shown.0, IsNoRuby.AtToken tokens (start_at tokens turn) shown.0 l bad b.light place)
tokens-judged text tokens l verdicts.Verdict.Short s = (Verdict.NoRuby (end_of_text text), IsNoRuby.AtEnd tokens l s.early s.light)
tokens-judged text tokens l (verdicts.Verdict.DeepToken turn) d = deep-judged text tokens turn l d

-- ---- the laws

pub each-text-is-judged : EachTextIsJudged
each-text-is-judged text = by (each-told text)
  where
    by : ((tokens : List Token) × Lexes text tokens) ⊎ ((at : ℕ) × OutsideAt text at) ⊎ ((at : ℕ) × BadCharAt text at) → Judged text
    by (inl (tokens, l)) = let v = one-holds tokens in tokens-judged text tokens l v.0 v.1
    by (inr (inl (at, form))) = outside-judged text at form
    by (inr (inr (at, bad))) = bad-judged text at bad

pub one-verdict : OneVerdict
one-verdict text v w h k = one-lexed text (lexed_text text) refl v w (answered text v h) (answered text w k)

-- what the lexer and the parser answer of a text it is
pub judged-as : (text : List ℕ) (w : Verdict) → OfLexed text (lexed_text text) w → Is text w
judged-as text w h = let j = each-text-is-judged text in subst (Is text) (one-lexed text (lexed_text text) refl j.0 w (answered text j.0 j.1) h) j.1
