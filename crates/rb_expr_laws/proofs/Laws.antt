-- What is answered of a form that begins at a token.
use Rattle.std.proofs.Common.{◌≡◌, ◌⊎◌, inl, inr, ℕ, zero, suc, ◌+◌, ◌-◌, ◌<◌, ◌≤◌, List, [], ◌∷◌, ◌++◌, length, take, drop, Option, Some, None, Result, Ok, Err, refl, sym, ap, subst, ◌∙◌, append_assoc, length-append, length-drop, take-append-drop, arith}
use Rattle.std.specs.Prelude.{slice_range}
use Rattle.std.proofs.lemmas.List.{length-take-le}
use Rattle.rb_tree.specs.declared.syntax.Tree.{Tree}
use Rattle.rb_tree.specs.declared.token.Token.{Token}
use Rattle.rb_tree.specs.declared.token.Shape.TheVariants as shape
use Rattle.rb_weight.specs.Limits.{MOST}
use Rattle.rb_weight.specs.Scans.{first_too_deep}
use Rattle.rb_weight.specs.Weights.{DeepAt, IsFirstDeep}
use Rattle.rb_weight.proofs.Alike.{first-deep}
use Rattle.rb_rules.specs.Tokens.{StartsWith}
use Rattle.rb_expr.specs.declared.ParseEnd.{ParseEnd}
use Rattle.rb_expr.specs.declared.ParseEnd.TheVariants.{Bad, TooDeep, NoMemory}
use Rattle.rb_expr.specs.Reading.{Outcome}
use Rattle.rb_expr.specs.Answers.{answered, answered_by, bad_at, cut, cut_by, ruled, start_at, whole, whole_by}
use Rattle.rb_expr_laws.specs.Forms.{Form, BeginsForm, IsBarred, IsForm, IsPowered, MayPrecede, Reaches, Stands}
use Rattle.rb_expr_laws.specs.Laws.{AnswersSay, DeepFormsAreRefused, FormsAreRead, FormsEndThere, LoneFormsAreRead, NoFormsAreRefused, Says, answer_of}
use Rattle.rb_expr_laws.proofs.Elsewhere.{lone-stand}
use Rattle.rb_expr_laws.proofs.Facts.{ended-begins, ended-further, refused-begins, refused-further}
use Rattle.rb_expr_laws.proofs.Forms.{facts, reads, rule_of, stands}
use Rattle.rb_expr_laws.proofs.Reach.{no-more, one-reach, read-reaches, refused-reaches, same-rest}
use Rattle.rb_expr_laws.proofs.Standing.{one-stands, standing-read}

-- ---- the first deep token

none-deep-after : (tokens : List Token) (weight here a b : ℕ) → DeepAt tokens weight here a → DeepAt tokens weight here b → a < b → ⊥
none-deep-after tokens weight here a b p q less = let light = q.first (a + 1) (omega arith) in let deep = p.deep in absurd (omega arith)

order : (m n : ℕ) → (m ≤ n) ⊎ (n < m)
order zero n = inl (omega arith)
order (suc m) zero = inr (omega arith)
order (suc m) (suc n) = next (order m n)
  where
    next : (m ≤ n) ⊎ (n < m) → (suc m ≤ suc n) ⊎ (suc n < suc m)
    next (inl h) = inl (omega arith)
    next (inr h) = inr (omega arith)

-- none before the first
first-is-first : (tokens : List Token) (weight here a b : ℕ) → DeepAt tokens weight here a → DeepAt tokens weight here b → a ≤ b
first-is-first tokens weight here a b p q = by (order a b)
  where
    by : (a ≤ b) ⊎ (b < a) → a ≤ b
    by (inl h) = h
    by (inr h) = absurd (none-deep-after tokens weight here b a q p h)

-- ---- places

-- a place after so many of the tokens from one on
place-after : (tokens before rest : List Token) (from : ℕ) → from ≤ length tokens → drop from tokens ≡ before ++ rest → length tokens - length rest ≡ from + length before
place-after tokens before rest from within e =
    let left : length (drop from tokens) ≡ length tokens - from = length-drop from tokens in
    let sum : length (before ++ rest) ≡ length before + length rest = length-append before rest in
    let same : length (drop from tokens) ≡ length (before ++ rest) = ap (λ (us : List Token). length us) e in
    omega arith

-- ---- where no token is too deep

whole-says : (form : Form) (tokens : List Token) (from weight here : ℕ) → from ≤ length tokens → ((turn : ℕ) → ¬ DeepAt (drop from tokens) weight here turn) → (o : Outcome Tree) → reads form (drop from tokens) ≡ o → Says form tokens from weight here (whole_by tokens o)
unfolding read-reaches refused-reaches
whole-says form tokens from weight here within light (Ok (t, rest)) e =
    let xs = drop from tokens in
    let h = (facts form).alone xs rest t e in
    (length h.0, place-after tokens h.0 rest from within h.1, read-reaches form xs h.0 rest t h.2 h.1 h.3 e, stands form xs rest t e, (h.2, h.3), λ turn d. absurd (light turn d))
whole-says form tokens from weight here within light (Err rest) e =
    let xs = drop from tokens in
    let h = (facts form).begun xs rest e in (
      length h.0,
      refused-reaches form xs h.0 rest h.1 (h.2, h.3, h.4) e,
      refl,
      (λ t d. let read = standing-read form xs (length h.0) t (refused-reaches form xs h.0 rest h.1 (h.2, h.3, h.4) e) d in absurd (cc)),
      λ turn d. absurd (light turn d),
    )

-- ---- where one is

few-read : (few before after : List Token) (next : Token) (turn : ℕ) → length few ≡ turn + 1 → few ≡ before ++ next ∷ after → (length before ≤ turn) × (turn + 1 - length (next ∷ after) ≡ length before)
few-read few before after next turn size e =
    let sum : length (before ++ next ∷ after) ≡ length before + length (next ∷ after) = length-append before (next ∷ after) in
    let same : length few ≡ length (before ++ next ∷ after) = ap (λ (us : List Token). length us) e in
    (omega arith, omega arith)

place-within : (from turn n size : ℕ) → size ≤ turn + 1 → turn + 1 - size ≡ n → from + turn + 1 - size ≡ from + n
place-within from turn n size le e = omega arith

cut-says : (form : Form) (tokens : List Token) (from weight here turn : ℕ) → from ≤ length tokens → DeepAt (drop from tokens) weight here turn → (o : Outcome Tree) → reads form (take (turn + 1) (drop from tokens)) ≡ o → Says form tokens from weight here (cut_by tokens (from + turn) o)
unfolding read-reaches refused-reaches
cut-says form tokens from weight here turn within deep (Ok (t, [])) e = (turn, refl, deep, ended-begins (facts form) (take (turn + 1) (drop from tokens)) t e)
cut-says form tokens from weight here turn within deep (Ok (t, next ∷ after)) e =
    let xs = drop from tokens in
    let few = take (turn + 1) xs in
    let more = drop (turn + 1) xs in
    let here_is : turn < length xs = deep.within in
    let size : length few ≡ turn + 1 = length-take-le (turn + 1) xs (omega arith) in
    let h = ended-further (facts form) few more t next after e in
    let all : few ++ more ≡ xs = take-append-drop (turn + 1) xs in
    let e' : reads form xs ≡ Ok (t, next ∷ (after ++ more)) = subst (λ us. reads form us ≡ Ok (t, next ∷ (after ++ more))) all h.2 in
    let parts : xs ≡ h.0 ++ next ∷ (after ++ more) = sym all ∙ ap (λ us. us ++ more) h.1 ∙ append_assoc h.0 (next ∷ after) more in
    let numbers = few-read few h.0 after next turn size h.1 in
    let le : length (next ∷ after) ≤ turn + 1 = let s : length few ≡ length h.0 + length (next ∷ after) = ap (λ (us : List Token). length us) h.1 ∙ length-append h.0 (next ∷ after) in omega arith in (
      length h.0,
      place-within from turn (length h.0) (length (next ∷ after)) le numbers.1,
      read-reaches form xs h.0 (next ∷ (after ++ more)) t h.3 parts h.4 e',
      stands form xs (next ∷ (after ++ more)) t e',
      (h.3, h.4),
      λ k d. let first = first-is-first xs weight here turn k deep d in let m = numbers.0 in omega arith,
    )
cut-says form tokens from weight here turn within deep (Err []) e = (turn, refl, deep, refused-begins (facts form) (take (turn + 1) (drop from tokens)) e)
cut-says form tokens from weight here turn within deep (Err (bad ∷ after)) e =
    let xs = drop from tokens in
    let few = take (turn + 1) xs in
    let more = drop (turn + 1) xs in
    let here_is : turn < length xs = deep.within in
    let size : length few ≡ turn + 1 = length-take-le (turn + 1) xs (omega arith) in
    let h = refused-further (facts form) few more bad after e in
    let b = (facts form).begun few (bad ∷ after) e in
    let all : few ++ more ≡ xs = take-append-drop (turn + 1) xs in
    let e' : reads form xs ≡ Err (bad ∷ (after ++ more)) = subst (λ us. reads form us ≡ Err (bad ∷ (after ++ more))) all h.2 in
    let parts : xs ≡ b.0 ++ bad ∷ (after ++ more) = sym all ∙ ap (λ us. us ++ more) b.1 ∙ append_assoc b.0 (bad ∷ after) more in
    let numbers = few-read few b.0 after bad turn size b.1 in (
      length b.0,
      refused-reaches form xs b.0 (bad ∷ (after ++ more)) parts (b.2, b.3, b.4) e',
      refl,
      (λ t d. let read = standing-read form xs (length b.0) t (refused-reaches form xs b.0 (bad ∷ (after ++ more)) parts (b.2, b.3, b.4) e') d in absurd (cc)),
      λ k d. let first = first-is-first xs weight here turn k deep d in let m = numbers.0 in omega arith,
    )

-- ---- all answers

by-place : (form : Form) (tokens : List Token) (from weight here : ℕ) → from ≤ length tokens → (place : Option ℕ) → IsFirstDeep tokens from weight here place → Says form tokens from weight here (answered_by (rule_of form) tokens from place)
unfolding whole cut
by-place form tokens from weight here within None none = whole-says form tokens from weight here within none (reads form (drop from tokens)) refl
by-place form tokens from weight here within (Some place) (turn, e, deep) =
    let size : place + 1 - from ≡ turn + 1 = omega arith in
    let few : slice_range tokens from (place + 1) ≡ take (turn + 1) (drop from tokens) = ap (λ k. take k (drop from tokens)) size in
    subst (λ p. Says form tokens from weight here (cut_by tokens p (ruled (rule_of form) (slice_range tokens from (place + 1))))) (sym e)
    (subst (λ us. Says form tokens from weight here (cut_by tokens (from + turn) (ruled (rule_of form) us))) (sym few)
    (cut-says form tokens from weight here turn within deep (reads form (take (turn + 1) (drop from tokens))) refl))

computed-says : (form : Form) (tokens : List Token) (from weight here : ℕ) → from ≤ length tokens → here ≤ weight → weight ≤ MOST → Says form tokens from weight here (answered (rule_of form) tokens from weight here)
unfolding answered
computed-says form tokens from weight here within part light =
    by-place form tokens from weight here within (first_too_deep tokens from weight here) (first-deep tokens from weight here part light)

says : (form : Form) (tokens : List Token) (from weight here : ℕ) → from ≤ length tokens → here ≤ weight → weight ≤ MOST → Says form tokens from weight here (answer_of form tokens from weight here)
says (Form.Body constants) tokens from weight here within part light = computed-says (Form.Body constants) tokens from weight here within part light
says Form.Term tokens from weight here within part light = computed-says Form.Term tokens from weight here within part light

pub answers-say : AnswersSay
answers-say form tokens from weight here (Ok x) within part light e = subst (Says form tokens from weight here) e (says form tokens from weight here within part light)
answers-say form tokens from weight here (Err (Bad at)) within part light e = subst (Says form tokens from weight here) e (says form tokens from weight here within part light)
answers-say form tokens from weight here (Err (TooDeep at)) within part light e = subst (Says form tokens from weight here) e (says form tokens from weight here within part light)
answers-say form tokens from weight here (Err NoMemory) within part light e = tt

-- ---- which answer is given

whole-tells : (tokens : List Token) (o : Outcome Tree) → whole_by tokens o ≡ Err NoMemory → ⊥
whole-tells tokens (Ok p) h = cc
whole-tells tokens (Err rest) h = cc

cut-tells : (tokens : List Token) (deep : ℕ) (o : Outcome Tree) → cut_by tokens deep o ≡ Err NoMemory → ⊥
cut-tells tokens deep (Ok (t, [])) h = cc
cut-tells tokens deep (Ok (t, next ∷ after)) h = cc
cut-tells tokens deep (Err []) h = cc
cut-tells tokens deep (Err (bad ∷ after)) h = cc

place-tells : (form : Form) (tokens : List Token) (from : ℕ) (place : Option ℕ) → answered_by (rule_of form) tokens from place ≡ Err NoMemory → ⊥
unfolding whole cut
place-tells form tokens from None e = whole-tells tokens (ruled (rule_of form) (drop from tokens)) e
place-tells form tokens from (Some place) e = cut-tells tokens place (ruled (rule_of form) (slice_range tokens from (place + 1))) e

-- no tokens alone make memory run out
answer-tells : (form : Form) (tokens : List Token) (from weight here : ℕ) → answer_of form tokens from weight here ≡ Err NoMemory → ⊥
unfolding answered
answer-tells (Form.Body constants) tokens from weight here e = place-tells (Form.Body constants) tokens from (first_too_deep tokens from weight here) e
answer-tells Form.Term tokens from weight here e = place-tells Form.Term tokens from (first_too_deep tokens from weight here) e

-- no form that reaches over so many tokens begins with those up to and with a deep one
past-deep : (form : Form) (tokens : List Token) (weight here turn n : ℕ) → DeepAt tokens weight here turn → BeginsForm form (take (turn + 1) tokens) → Reaches form tokens n → n ≤ turn → ⊥
past-deep form tokens weight here turn n deep b r le =
    let within : turn < length tokens = deep.within in
    let size : length (take (turn + 1) tokens) ≡ turn + 1 = length-take-le (turn + 1) tokens (omega arith) in
    let more = no-more form tokens (take (turn + 1) tokens) (drop (turn + 1) tokens) n r (sym (take-append-drop (turn + 1) tokens)) b in
    absurd (let h : ⊥ = omega arith in h)

pub forms-are-read : FormsAreRead
forms-are-read form tokens from weight here n t within part light r d none = by (answer_of form tokens from weight here) refl (says form tokens from weight here within part light)
  where
    xs : List Token
    xs = drop from tokens

    by : (a : Result (Tree × ℕ) ParseEnd) → answer_of form tokens from weight here ≡ a → Says form tokens from weight here a → answer_of form tokens from weight here ≡ Ok (t, from + n)
    by (Ok (u, place)) e (m, p, q, du, alone, light') =
        let tree : u ≡ t = one-stands form xs m u t q du (subst (λ us. Stands form t xs us) (sym (same-rest form xs m n q r)) d) in
        let number : m ≡ n = one-reach form xs m n q r in
        let at : place ≡ from + n = omega arith in
        e ∙ ap (λ v. Ok (v, place)) tree ∙ ap (λ k. Ok (t, k)) at
    by (Err (Bad at)) e (m, q, p, no', light') = absurd (no' t (subst (λ us. Stands form t xs us) (sym (same-rest form xs m n q r)) d))
    by (Err (TooDeep at)) e (turn, p, deep, b) = absurd (past-deep form xs weight here turn n deep b r (none turn deep))
    by (Err NoMemory) e s = absurd (answer-tells form tokens from weight here e)

pub forms-end-there : FormsEndThere
forms-end-there form tokens from weight here n within part light r none = by (answer_of form tokens from weight here) refl (says form tokens from weight here within part light)
  where
    xs : List Token
    xs = drop from tokens

    by : (a : Result (Tree × ℕ) ParseEnd) → answer_of form tokens from weight here ≡ a → Says form tokens from weight here a →
        ((t : Tree) × (answer_of form tokens from weight here ≡ Ok (t, from + n))) ⊎ (answer_of form tokens from weight here ≡ Err (Bad (bad_at tokens r.rest)))
    by (Ok (u, place)) e (m, p, q, du, alone, light') =
        let number : m ≡ n = one-reach form xs m n q r in
        let at : place ≡ from + n = omega arith in
        inl (u, e ∙ ap (λ k. Ok (u, k)) at)
    by (Err (Bad at)) e (m, q, p, no', light') = inr (e ∙ ap (λ k. Err (Bad k)) (p ∙ ap (bad_at tokens) (same-rest form xs m n q r)))
    by (Err (TooDeep at)) e (turn, p, deep, b) = absurd (past-deep form xs weight here turn n deep b r (none turn deep))
    by (Err NoMemory) e s = absurd (answer-tells form tokens from weight here e)

-- neither `**` nor `rescue` is next
free-rescue : (rest : List Token) → ¬ IsBarred rest → StartsWith (shape.Rescue ∷ []) rest → ⊥
free-rescue [] free h = h
free-rescue (next ∷ after) free (inl is) = free (inr (inl is))
free-rescue (next ∷ after) free (inr none) = none

free-precede : (form : Form) (tokens rest : List Token) → ¬ IsBarred rest → MayPrecede form tokens rest
free-precede (Form.Body constants) tokens rest free = λ rescue. absurd (free-rescue rest free rescue)
free-precede Form.Term tokens rest free = tt

free-unpowered : (rest : List Token) → ¬ IsBarred rest → ¬ IsPowered rest
free-unpowered [] free h = h
free-unpowered (next ∷ after) free (inl is) = free (inl is)
free-unpowered (next ∷ after) free (inr none) = none

pub lone-forms-are-read : LoneFormsAreRead
lone-forms-are-read form tokens from weight here n t within part light r d free none =
    let there = subst (λ us. IsForm form t us r.rest) (sym r.whole) (lone-stand form t r.before r.rest d (free-unpowered r.rest free)) in
    forms-are-read form tokens from weight here n t within part light r (there, free-precede form (drop from tokens) r.rest free) none

pub no-forms-are-refused : NoFormsAreRefused
no-forms-are-refused form tokens from weight here n within part light r no' none = by (answer_of form tokens from weight here) refl (says form tokens from weight here within part light)
  where
    xs : List Token
    xs = drop from tokens

    by : (a : Result (Tree × ℕ) ParseEnd) → answer_of form tokens from weight here ≡ a → Says form tokens from weight here a → answer_of form tokens from weight here ≡ Err (Bad (bad_at tokens r.rest))
    by (Ok (u, place)) e (m, p, q, du, alone, light') = absurd (no' u (subst (λ us. Stands form u xs us) (same-rest form xs m n q r) du))
    by (Err (Bad at)) e (m, q, p, no2, light') = e ∙ ap (λ k. Err (Bad k)) (p ∙ ap (bad_at tokens) (same-rest form xs m n q r))
    by (Err (TooDeep at)) e (turn, p, deep, b) = absurd (past-deep form xs weight here turn n deep b r (none turn deep))
    by (Err NoMemory) e s = absurd (answer-tells form tokens from weight here e)

pub deep-forms-are-refused : DeepFormsAreRefused
deep-forms-are-refused form tokens from weight here turn within part light deep b = by (answer_of form tokens from weight here) refl (says form tokens from weight here within part light)
  where
    xs : List Token
    xs = drop from tokens

    by : (a : Result (Tree × ℕ) ParseEnd) → answer_of form tokens from weight here ≡ a → Says form tokens from weight here a → answer_of form tokens from weight here ≡ Err (TooDeep (start_at tokens (from + turn)))
    by (Ok (u, place)) e (m, p, q, du, alone, none) = absurd (past-deep form xs weight here turn m deep b q (none turn deep))
    by (Err (Bad at)) e (m, q, p, no', none) = absurd (past-deep form xs weight here turn m deep b q (none turn deep))
    by (Err (TooDeep at)) e (k, p, deep', b') =
        let a = first-is-first xs weight here turn k deep deep' in
        let c = first-is-first xs weight here k turn deep' deep in
        let same : k ≡ turn = omega arith in
        e ∙ ap (λ i. Err (TooDeep i)) (p ∙ ap (λ i. start_at tokens (from + i)) same)
    by (Err NoMemory) e s = absurd (answer-tells form tokens from weight here e)
