-- What the lexer and the parser answer of a text, for each thing that it is.
use Rattle.std.proofs.Common.{◌≡◌, ℕ, suc, ◌+◌, ◌<◌, ◌⊎◌, List, [], ◌∷◌, ◌++◌, length, take, slice_get, Option, Some, Result, Ok, Err, inl, inr, refl, sym, ap, subst, ◌∙◌, append_assoc, length-append, arith}
use Rattle.srb_terms.specs.declared.span.Span.{Span}
use Rattle.rb_tree.specs.declared.syntax.Tree.{Tree}
use Rattle.rb_tree.specs.declared.token.Token.{Token}
use Rattle.rb_expr.specs.declared.ParseEnd.{ParseEnd}
use Rattle.rb_expr.specs.declared.ParseEnd.TheVariants as parse
use Rattle.rb_decl.specs.Programs.{parsed, token_start, end_of}
use Rattle.rb_lex.specs.Lexed.{lexed_text}
use Rattle.rb_lex.specs.declared.LexEnd.{LexEnd}
use Rattle.rb_lex.specs.declared.LexEnd.TheVariants as lex
use Rattle.rb_lex_laws.specs.Tokens.{StandInOrder}
use Rattle.rb_lex_laws.proofs.Standing.{tokens-stand}
use Rattle.rb_lex_laws.proofs.Told.{tokens-told, outside-told, bad-told}
use Rattle.rb_grammar_laws.proofs.Answers.{parsed-exactly}
use Rattle.rb_refusal_laws.proofs.Refused.{bad-tokens-are-refused, early-ends-are-refused, deep-tokens-are-refused}
use Rattle.rb_rules.specs.Grammar.{Begins, BadAt}
use Rattle.rb_rules.specs.Lexes.{Lexes}
use Rattle.rb_rules.specs.Tokens.{IsOneOf}
use Rattle.rb_weight.specs.Weights.{DeepAt}
use Rattle.rb_weight_laws.proofs.Laws.{fronts-are-deep-by-roles, programs-are-deep-by-roles}
use Rattle.rb_text_laws.specs.Texts.{IsCharacterOrEnd, IsToken, IsProgram, IsNoRuby, IsOutside, IsTooDeep, Verdict, Is, end_of_text}
use Rattle.rb_text_laws.proofs.Characters.{one-character}
use Rattle.rb_text_laws.proofs.Depths.{after-light, deep-is-no-piece}
use Rattle.rb_verdict_laws.specs.Verdicts.{NoneIsDeep}
use Rattle.rb_verdict_laws.proofs.Depths.{deep-further}
use Rattle.rb_text_laws.proofs.Shown.{tokens-seen, token-some}
use Rattle.rb_text_laws.proofs.TokenPlaces.{one-token, none-at-end}

-- ---- what is answered

-- the place of a refused token, or the end of a text whose tokens end too early
abbrev pub IsBadPlace : List ℕ → List Token → ℕ → Span → Type 0
IsBadPlace text tokens at span = IsToken tokens at span ⊎ ((at ≡ end_of tokens) × (span ≡ end_of_text text))

-- a text whose tokens are parsed to this is that
abbrev pub OfParsed : List ℕ → List Token → Result Tree ParseEnd → Verdict → Type 0
OfParsed text tokens (Ok tree) v = v ≡ Verdict.Program tree
OfParsed text tokens (Err (parse.Bad at)) v = (span : Span) × (v ≡ Verdict.NoRuby span) × IsBadPlace text tokens at span
OfParsed text tokens (Err (parse.TooDeep at)) v = (span : Span) × (v ≡ Verdict.TooDeep span) × IsToken tokens at span
OfParsed text tokens (Err parse.NoMemory) v = ⊥

-- a text that is lexed to this is that
abbrev pub OfLexed : List ℕ → Result (List Token) LexEnd → Verdict → Type 0
OfLexed text (Ok tokens) v = OfParsed text tokens (parsed tokens) v
OfLexed text (Err (lex.Bad at)) v = (span : Span) × (v ≡ Verdict.NoRuby span) × IsCharacterOrEnd text at span
OfLexed text (Err (lex.Outside at)) v = (span : Span) × (v ≡ Verdict.Outside span) × IsCharacterOrEnd text at span
OfLexed text (Err lex.NoMemory) v = ⊥

-- ---- each of them is answered

of-lexed : (text : List ℕ) (r : Result (List Token) LexEnd) (v : Verdict) → lexed_text text ≡ r → OfLexed text r v → OfLexed text (lexed_text text) v
of-lexed text r v e h = subst (λ x. OfLexed text x v) (sym e) h

of-tokens : (text : List ℕ) (tokens : List Token) (r : Result Tree ParseEnd) (v : Verdict) → Lexes text tokens → parsed tokens ≡ r → OfParsed text tokens r v → OfLexed text (lexed_text text) v
of-tokens text tokens r v l e h = of-lexed text (Ok tokens) v ((tokens-told text tokens).1 l) (subst (λ x. OfParsed text tokens x v) (sym e) h)

program : (text : List ℕ) (tree : Tree) → IsProgram text tree → OfLexed text (lexed_text text) (Verdict.Program tree)
program text tree p =
    of-tokens text p.tokens (Ok tree) (Verdict.Program tree) p.lexes
    ((parsed-exactly p.tokens tree).1 (p.derives, λ turn deep. p.shallow turn ((programs-are-deep-by-roles p.tokens tree p.derives turn).0 deep)))
    refl

bad-token : (text : List ℕ) (tokens : List Token) (at : ℕ) (span : Span) → Lexes text tokens → (bad : BadAt tokens at) → NoneIsDeep bad.before bad.begins → IsToken tokens at span
    → OfLexed text (lexed_text text) (Verdict.NoRuby span)
bad-token text tokens at span l bad shallow shown =
    let first = λ (turn : ℕ) (d : DeepAt tokens 0 0 turn).
    after-light bad.before (bad.bad ∷ bad.after) bad.begins shallow turn (subst (λ (ts : List Token). DeepAt ts 0 0 turn) bad.whole d) in
    of-tokens text tokens (Err (parse.Bad at)) (Verdict.NoRuby span) l (bad-tokens-are-refused tokens at bad first) (span, refl, inl shown)

no-ruby : (text : List ℕ) (span : Span) → IsNoRuby text span → OfLexed text (lexed_text text) (Verdict.NoRuby span)
no-ruby text _ (IsNoRuby.AtCharacter at span bad shown) = of-lexed text (Err (lex.Bad at)) (Verdict.NoRuby span) ((bad-told text at).1 bad) (span, refl, shown)
no-ruby text _ (IsNoRuby.AtToken tokens at span l bad shallow shown) = bad-token text tokens at span l bad shallow shown
no-ruby text _ (IsNoRuby.AtEnd tokens l early shallow) =
    of-tokens text tokens (Err (parse.Bad (end_of tokens))) (Verdict.NoRuby (end_of_text text)) l
    (early-ends-are-refused tokens
    (λ turn d. shallow turn d.within ((fronts-are-deep-by-roles tokens early.begins turn d.within).0 d)) early)
    (end_of_text text, refl, inr (refl, refl))

outside : (text : List ℕ) (span : Span) → IsOutside text span → OfLexed text (lexed_text text) (Verdict.Outside span)
outside text _ (IsOutside.AtForm at span form shown) = of-lexed text (Err (lex.Outside at)) (Verdict.Outside span) ((outside-told text at).1 form) (span, refl, shown)

-- ---- the deep token

-- a token in the middle
among : (before : List Token) (t : Token) (after : List Token) → IsOneOf (before ++ t ∷ after) t
among [] t after = inl refl
among (x ∷ before) t after = inr (among before t after)

got : (before : List Token) (t : Token) (after : List Token) → slice_get (before ++ t ∷ after) (length before) ≡ Some t
got [] t after = refl
got (x ∷ before) t after = got before t after

pub middle-token : (tokens before : List Token) (t : Token) (after : List Token) → tokens ≡ before ++ t ∷ after → IsOneOf tokens t
middle-token tokens before t after e = subst (λ (ts : List Token). IsOneOf ts t) (sym e) (among before t after)

-- the tokens up to and with it
front-with : (before : List Token) (t : Token) (after : List Token) → take (length before + 1) (before ++ t ∷ after) ≡ before ++ t ∷ []
front-with [] t after = refl
front-with (x ∷ before) t after =
    let n : length (x ∷ before) + 1 ≡ suc (length before + 1) = omega arith in
    ap (λ k. take k (x ∷ (before ++ t ∷ after))) n ∙ ap (λ (us : List Token). x ∷ us) (front-with before t after)

too-deep : (text : List ℕ) (span : Span) → IsTooDeep text span → OfLexed text (lexed_text text) (Verdict.TooDeep span)
too-deep text _ (IsTooDeep.AtDeepToken tokens before deep after l whole begins by_roles) =
    let within : length before < length (before ++ deep ∷ []) = omega (arith, length-append before (deep ∷ [])) in
    let short : DeepAt (before ++ deep ∷ []) 0 0 (length before) = (fronts-are-deep-by-roles (before ++ deep ∷ []) begins (length before) within).1 by_roles in
    let long : DeepAt (before ++ deep ∷ after) 0 0 (length before) =
    subst (λ (ts : List Token). DeepAt ts 0 0 (length before)) (append_assoc before (deep ∷ []) after) (deep-further (before ++ deep ∷ []) after (length before) short) in
    let few : Begins (take (length before + 1) (before ++ deep ∷ after)) = subst Begins (sym (front-with before deep after)) begins in
    let refused = deep-tokens-are-refused (before ++ deep ∷ after) (length before) long few in
    let place : parsed (before ++ deep ∷ after) ≡ Err (parse.TooDeep deep.span.start) = refused ∙ ap (λ (t : Option Token). Err (parse.TooDeep (token_start t))) (got before deep after) in
    let one : IsOneOf tokens deep = middle-token tokens before deep after whole in
    of-tokens text tokens (Err (parse.TooDeep deep.span.start)) (Verdict.TooDeep deep.span) l (ap parsed whole ∙ place)
    (deep.span, refl, record { token = deep; is_one = one; begins = refl; some = token-some tokens (tokens-seen text tokens l) deep one (deep-is-no-piece before deep short); span_is = refl })

pub answered : (text : List ℕ) (v : Verdict) → Is text v → OfLexed text (lexed_text text) v
answered text (Verdict.Program tree) h = program text tree h
answered text (Verdict.NoRuby span) h = no-ruby text span h
answered text (Verdict.Outside span) h = outside text span h
answered text (Verdict.TooDeep span) h = too-deep text span h

-- ---- one answer

one-bad-place : (text : List ℕ) (tokens : List Token) → StandInOrder text 0 tokens → (at : ℕ) (a b : Span) → IsBadPlace text tokens at a → IsBadPlace text tokens at b → a ≡ b
one-bad-place text tokens stand at a b (inl x) (inl y) = one-token text tokens stand at a b x y
one-bad-place text tokens stand at a b (inl x) (inr (e, f)) = absurd (none-at-end text tokens stand a (subst (λ n. IsToken tokens n a) e x))
one-bad-place text tokens stand at a b (inr (e, f)) (inl y) = absurd (none-at-end text tokens stand b (subst (λ n. IsToken tokens n b) e y))
one-bad-place text tokens stand at a b (inr (e, f)) (inr (g, h)) = f ∙ sym h

one-parsed : (text : List ℕ) (tokens : List Token) → StandInOrder text 0 tokens → (r : Result Tree ParseEnd) (v w : Verdict) → OfParsed text tokens r v → OfParsed text tokens r w → v ≡ w
one-parsed text tokens stand (Ok tree) v w e f = e ∙ sym f
one-parsed text tokens stand (Err (parse.Bad at)) v w (a, e, h) (b, f, k) = e ∙ ap Verdict.NoRuby (one-bad-place text tokens stand at a b h k) ∙ sym f
one-parsed text tokens stand (Err (parse.TooDeep at)) v w (a, e, h) (b, f, k) = e ∙ ap Verdict.TooDeep (one-token text tokens stand at a b h k) ∙ sym f
one-parsed text tokens stand (Err parse.NoMemory) v w h k = absurd h

pub one-lexed : (text : List ℕ) (r : Result (List Token) LexEnd) → lexed_text text ≡ r → (v w : Verdict) → OfLexed text r v → OfLexed text r w → v ≡ w
one-lexed text (Ok tokens) is v w h k = one-parsed text tokens (tokens-stand text tokens is) (parsed tokens) v w h k
one-lexed text (Err (lex.Bad at)) is v w (a, e, h) (b, f, k) = e ∙ ap Verdict.NoRuby (one-character text at a b h k) ∙ sym f
one-lexed text (Err (lex.Outside at)) is v w (a, e, h) (b, f, k) = e ∙ ap Verdict.Outside (one-character text at a b h k) ∙ sym f
one-lexed text (Err lex.NoMemory) is v w h k = absurd h
